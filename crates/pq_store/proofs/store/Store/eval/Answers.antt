use Rattle.std.proofs.Common.{refl, sym, ◌∙◌}
use Rattle.std.proofs.lemmas.Option.{slice_get_within}
use Rattle.pq_store.proofs.Joins.{no_value, value_there, yes_value}
use Rattle.pq_store.specs.Tree.Tree.{Tip, Fork}
use Rattle.pq_store.proofs.store.Store.eval.Goals as goal

pub loop-leaf-init : goal.loop-leaf-init
loop-leaf-init g c = record { within = c.requires; value = refl }

pub view-requires : goal.view-requires
view-requires g c = c.loop-leaf.invariant.within

pub returns-in-Leaf : goal.returns-in-Leaf
returns-in-Leaf g c = sym c.loop-leaf.invariant.value ∙ value_there c.args.self.now c.loop-leaf.at (Tip c.in-Leaf.leaf.now) c.args.x.now c.in-Leaf.ensures.shows

pub passes-requires : goal.passes-requires
passes-requires g c =
    let shows = c.in-Node.ensures.shows in (c.view.ensures.diagrams c.loop-leaf.at (Fork c.in-Node.test shows.yes_tree shows.no_tree) shows.is).lawful.0

pub loop-leaf-smaller-then-passes : goal.loop-leaf-smaller-then-passes
loop-leaf-smaller-then-passes g c = c.in-Node.ensures.shows.yes_below

pub loop-leaf-preserved-then-passes : goal.loop-leaf-preserved-then-passes
loop-leaf-preserved-then-passes g c =
    let shows = c.in-Node.ensures.shows in
    record {
      within = slice_get_within c.args.self.now c.in-Node.yes shows.yes_tree shows.yes_is;
      value = yes_value c.args.self.now c.loop-leaf.at c.in-Node.yes c.in-Node.no c.in-Node.test c.args.x.now c.passes.result _ shows
          c.passes.ensures c.if-passes.true c.loop-leaf.invariant.value;
    }

pub loop-leaf-smaller : goal.loop-leaf-smaller
loop-leaf-smaller g c = c.in-Node.ensures.shows.no_below

pub loop-leaf-preserved : goal.loop-leaf-preserved
loop-leaf-preserved g c =
    let shows = c.in-Node.ensures.shows in
    record {
      within = slice_get_within c.args.self.now c.in-Node.no shows.no_tree shows.no_is;
      value = no_value c.args.self.now c.loop-leaf.at c.in-Node.yes c.in-Node.no c.in-Node.test c.args.x.now c.passes.result _ shows
          c.passes.ensures c.if-passes.false c.loop-leaf.invariant.value;
    }
