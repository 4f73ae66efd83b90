use Rattle.std.proofs.Common.{true, false}
use Rattle.std.proofs.lemmas.Option.{slice_get_within}
use Rattle.pq_store.specs.Tree.Tree.{Tip}
use Rattle.pq_apply.proofs.Examples.{one_fits}
use Rattle.pq_apply.proofs.Junctions.{leaves_fit}
use Rattle.call_tests.proofs.diagrams.choice.Goals as goal

pub ite-requires : goal.ite-requires
ite-requires c =
    let yes_is = c.leaf-2.ensures.keeps c.in_ok-yes.yes (Tip true) c.in_ok-yes.ensures.leaf in
    let no_is = c.in_ok-no.ensures.leaf in
    let example = c.requires in
    record {
      cond = slice_get_within c.args.tests.now c.args.condition example.0 example.1;
      yes = slice_get_within c.leaf-2.new.self c.in_ok-yes.yes (Tip true) yes_is;
      no = slice_get_within c.leaf-2.new.self c.in_ok-no.no (Tip false) no_is;
      fit = leaves_fit c.args.tests.now c.leaf-2.new.self c.args.condition c.in_ok-yes.yes c.in_ok-no.no true false
          (one_fits c.args.tests.now c.args.condition c.requires) yes_is no_is;
    }
