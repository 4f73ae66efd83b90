use Rattle.pq_compile.specs.Documents.{document_tree}
use Rattle.pq_compile.specs.Prepared.{parts_in}
use Rattle.pq_compile.proofs.Joined.{all_sound, fits_as_switch, idle_free_at}
use Rattle.pq_compile.proofs.Values.{lawful_parts}
use Rattle.pq_lists.proofs.Places.{at_place}
use Rattle.pq_compile.proofs.preparing.network_trees.Goals as goal

pub all_trees-requires-clause-idle_free : goal.all_trees-requires-clause-idle_free
all_trees-requires-clause-idle_free c =
    idle_free_at c.parts_depart.ensures.idle_free (document_tree c.args.document.now) c.args.forward.now c.args.policy c.requires.policy

pub all_trees-requires-clause-fits : goal.all_trees-requires-clause-fits
all_trees-requires-clause-fits c =
    fits_as_switch (document_tree c.args.document.now) c.requires.compilable c.requires.values c.args.forward.now c.args.policy c.args.told.now.letters
    c.requires.policy c.requires.told.told.tests

pub returns : goal.returns
returns c = record {
  trees = c.in_ok-switches.ensures.trees;
  sound =
      let d = document_tree c.args.document.now in
      let policy = c.requires.policy in
      let told = c.requires.told.told in
      let of = c.args.told.now in
      let lettered = c.count.ensures.lettered in
      let letters = at_place of.letters.trees of.letters.root lettered.root in
      all_sound d c.requires.compilable of.letters of.classes
      (record {
        lawful = c.switches.ensures.lawful.lawful;
        lettered = lettered;
        letters = told.classes.letters;
        machine = c.is_lawful.ensures.machine;
        few = c.requires.told.tags;
      })
      c.args.forward.now c.args.policy policy (c.has_diagrams.ensures.diagrams c.args.policy policy.0 policy.1)
      (c.parts_depart.ensures.idle_free d.topology (parts_in d) policy.0 policy.2)
      (c.parts_ignore_lacking.ensures d.topology (parts_in d) policy.0 (lawful_parts d c.requires.compilable) policy.2)
      letters.0 letters.1 (told.ignores letters.0 letters.1) told.tests
      c.trees_are_sound.ensures.arriving c.trees_are_sound.ensures.leaving
      c.tests_stand_below_prerequisites.ensures.arriving c.tests_stand_below_prerequisites.ensures.leaving
      c.trees_test_ports.ensures.arriving c.trees_test_ports.ensures.leaving
      c.all_trees.new.first c.all_trees.new.second c.in_ok-switches.switches.items c.in_ok-switches.ensures.trees c.in_ok-switches.ensures.ports;
}
