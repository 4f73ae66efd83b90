use Rattle.std.proofs.lemmas.Option.{slice_get_within}
use Rattle.pq_store.specs.Tree.Tree.{Tip}
use Rattle.pq_apply.proofs.Junctions.{leaves_fit, leaves_chosen}
use Rattle.pq_apply.proofs.junction.recoded.Goals as goal

pub ite-requires : goal.ite-requires
ite-requires c =
    let yes_is = c.leaf-2.ensures.keeps c.in_ok-yes_leaf.yes_leaf (Tip c.args.yes) c.in_ok-yes_leaf.ensures.leaf in
    let no_is = c.in_ok-no_leaf.ensures.leaf in
    record {
      cond = c.requires.node;
      yes = slice_get_within c.leaf-2.new.self c.in_ok-yes_leaf.yes_leaf (Tip c.args.yes) yes_is;
      no = slice_get_within c.leaf-2.new.self c.in_ok-no_leaf.no_leaf (Tip c.args.no) no_is;
      fit = leaves_fit c.args.from.now c.leaf-2.new.self c.args.node c.in_ok-yes_leaf.yes_leaf c.in_ok-no_leaf.no_leaf c.args.yes c.args.no
          c.requires.fits yes_is no_is;
    }

pub returns-clause-recodes : goal.returns-clause-recodes
returns-clause-recodes c =
    let yes_is = c.leaf-2.ensures.keeps c.in_ok-yes_leaf.yes_leaf (Tip c.args.yes) c.in_ok-yes_leaf.ensures.leaf in
    leaves_chosen c.args.from.now c.leaf-2.new.self c.ite.new.store c.args.node c.in_ok-yes_leaf.yes_leaf c.in_ok-no_leaf.no_leaf
    c.in_ok-id.id c.args.yes c.args.no
    yes_is c.in_ok-no_leaf.ensures.leaf c.in_ok-id.ensures.chooses
