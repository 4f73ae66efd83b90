use Rattle.std.proofs.Common.{◌∙◌, subst}
use Rattle.pq_lists.proofs.Places.{at_place}
use Rattle.pq_layout.specs.Leaves.{departing}
use Rattle.pq_layout.specs.Trees.{AreArriving, AreLeaving}
use Rattle.pq_model.specs.Install.{IsLawfulSwitch}
use Rattle.pq_store.specs.Store.{HasAt}
use Rattle.pq_store.specs.Tree.{value}
use Rattle.pq_join.specs.Tags.{tagging_of}
use Rattle.pq_meaning.specs.Parts.{IsUnionOfParts}
use Rattle.pq_emit.specs.Switches.{IsSwitchAt}
use Rattle.pq_compile.specs.Documents.{document_tree}
use Rattle.pq_compile.specs.Prepared.{parts_in}
use Rattle.pq_compile.proofs.Joined.{fits_as_switch, idle_free_at, of_at}
use Rattle.pq_compile.proofs.Values.{lawful_parts}
use Rattle.pq_local.proofs.Made.{one_sound}
use Rattle.pq_local.proofs.Zipped.{all_there, one_of}
use Rattle.pq_local.proofs.trees.tables_at.Goals as goal

pub switch_trees-requires-clause-idle_free : goal.switch_trees-requires-clause-idle_free
switch_trees-requires-clause-idle_free c =
    idle_free_at c.parts_depart.ensures.idle_free (document_tree c.args.document.now) c.args.forward.now c.args.policy c.requires.policy

pub switch_trees-requires-clause-fits : goal.switch_trees-requires-clause-fits
switch_trees-requires-clause-fits c =
    fits_as_switch (document_tree c.args.document.now) c.requires.compilable c.requires.values c.args.forward.now c.args.policy c.args.told.now.letters
    c.requires.policy c.requires.told.told.tests

-- the trees are those of the switch, and entries can stand for them
pub returns : goal.returns
returns c s there p at =
    let d = document_tree c.args.document.now in
    let T = d.topology in
    let told = c.requires.told.told in
    let of = c.args.told.now in
    let g = tagging_of of.letters of.classes in
    let policy : HasAt (IsUnionOfParts T (parts_in d)) c.args.forward.now c.args.policy =
    (p, at, of_at (IsUnionOfParts T (parts_in d)) c.args.forward.now c.args.policy p at c.requires.policy) in
    let same = c.switch.view_is
    ∙ one_of T.switches c.switches-switches.result.now c.switches-switches.ensures.switches c.args.index c.index-switches-index.result s
    c.requires.index c.index-switches-index.is there in
    let made = c.in_ok-trees in
    let firsts = c.switch_trees.new.first in
    let seconds = c.switch_trees.new.second in
    let are : IsSwitchAt T g (departing T (value p)) firsts seconds s made.trees = (
      subst (λ z. AreArriving T g z.datapath firsts made.trees.arriving.items) same made.ensures.arriving,
      subst (λ z. AreLeaving T g (departing T (value p)) z.datapath seconds made.trees.leaving.items) same (made.ensures.leaving p at),
    ) in
    let lettered = c.count.ensures.lettered in
    let letters = at_place of.letters.trees of.letters.root lettered.root in
    record {
      trees = are;
      sound = one_sound d c.requires.compilable of.letters of.classes
          (record {
            lawful = c.switches-switches.ensures.lawful.lawful;
            lettered = lettered;
            letters = told.classes.letters;
            machine = c.is_lawful.ensures.machine;
            few = c.requires.told.tags;
          })
          c.args.forward.now c.args.policy policy (c.has_diagrams.ensures.diagrams c.args.policy p at)
          (c.parts_depart.ensures.idle_free T (parts_in d) p policy.2)
          (c.parts_ignore_lacking.ensures T (parts_in d) p (lawful_parts d c.requires.compilable) policy.2)
          letters.0 letters.1 (told.ignores letters.0 letters.1) told.tests
          c.trees_are_sound.ensures.arriving c.trees_are_sound.ensures.leaving
          c.tests_stand_below_prerequisites.ensures.arriving c.tests_stand_below_prerequisites.ensures.leaving
          c.trees_test_ports.ensures.arriving c.trees_test_ports.ensures.leaving
          firsts seconds s made.trees
          (all_there IsLawfulSwitch T.switches c.switches-switches.ensures.lawful.lawful.switches c.args.index s there).0 are
          made.ensures.ports;
    }
