use Rattle.std.proofs.Common.{length, ap, sym, subst, inl, ◌∙◌}
use Rattle.std.specs.Prelude.{All}
use Rattle.std.proofs.lemmas.Slice.Zip.{AllZip-long}
use Rattle.pq_lists.proofs.Places.{at_place}
use Rattle.pq_join.specs.Sound.{HasTags}
use Rattle.pq_join.specs.Switch.{TestPortsAt}
use Rattle.pq_join.specs.Tags.{tagging_of}
use Rattle.pq_layout.specs.Leaves.{departing}
use Rattle.pq_store.specs.Tree.{value}
use Rattle.pq_emit.specs.Network.{StandBelowAll}
use Rattle.pq_emit.specs.Switches.{IsSoundAt, IsSwitchAt}
use Rattle.pq_emit.proofs.SoundAtIds.{sound_all}
use Rattle.pq_emit.proofs.SoundLayouts.{sound_layout}
use Rattle.pq_emit.proofs.emission.emit.Goals as goal

-- there are trees of each switch
pub assembled-requires-clause-listed : goal.assembled-requires-clause-listed
assembled-requires-clause-listed c =
    let T = c.args.topology.now in
    let g = tagging_of c.args.letters.now c.args.classes.now in
    let p = at_place c.args.forward.now c.args.policy c.requires.policy in
    ap length c.deref.ensures.value
    ∙ AllZip-long (IsSwitchAt T g (departing T (value p.0)) c.all_trees-made.new.first c.all_trees-made.new.second) T.switches
    c.in-Ok.trees.items (c.in-Ok.ensures.trees p.0 p.1)

-- and entries can stand for them
pub assembled-requires-clause-sound : goal.assembled-requires-clause-sound
assembled-requires-clause-sound c =
    let T = c.args.topology.now in
    let a = c.args.letters.now in
    let m = c.args.classes.now in
    let lawful = c.switches.ensures.lawful.lawful in
    let lettered = c.count.ensures.lettered in
    let p = at_place c.args.forward.now c.args.policy c.requires.policy in
    let letters = at_place a.trees a.root lettered.root in
    let idle_free = c.requires.idle_free p.0 p.1 in
    let tags : HasTags T a m = record {
      lawful = lawful;
      lettered = lettered;
      letters = c.requires.letters;
      machine = c.is_lawful.ensures.machine;
      few = c.requires.classes;
    } in
    let ignores = c.requires.letters_ignore letters.0 letters.1 in
    let stand = c.tests_stand_below_prerequisites.ensures in
    let below : StandBelowAll T (tagging_of a m) (departing T (value p.0)) = λ d fits. (
      λ k t is f. stand.arriving T a m d fits letters.0 letters.1 ignores k t is f,
      λ b t is f. stand.leaving T a m d fits letters.0 letters.1 ignores p.0 idle_free (c.requires.policy_ignores p.0 p.1) b t is f,
    ) in
    let diagram = c.has_diagrams.ensures.diagrams c.args.policy p.0 p.1 in
    let sound = sound_layout T a m p.0 tags idle_free c.trees_are_sound.ensures.arriving c.trees_are_sound.ensures.leaving
    c.trees_test_ports.ensures.arriving c.trees_test_ports.ensures.leaving diagram (c.requires.policy_ports p.0 p.1) below in
    let policy_ports : TestPortsAt c.args.forward.now c.args.policy = λ t at v tested. inl (c.requires.policy_ports t at v tested) in
    let ports = c.in-Ok.ensures.ports policy_ports c.requires.letter_ports in
    subst (All (IsSoundAt c.all_trees-made.new.first c.all_trees-made.new.second)) (sym c.deref.ensures.value)
    (sound_all T (tagging_of a m) (departing T (value p.0)) c.all_trees-made.new.first c.all_trees-made.new.second sound c.in-Ok.trees.items
    lawful.switches ports (c.in-Ok.ensures.trees p.0 p.1))
