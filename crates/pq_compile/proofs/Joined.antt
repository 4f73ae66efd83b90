-- The trees of a document's network.
use Rattle.std.proofs.Common.{◌≡◌, ℕ, List, Some, inl, inr, sym, subst, ◌∙◌}
use Rattle.std.specs.declared.option.Option.{Option}
use Rattle.std.specs.Prelude.{All, slice_get}
use Rattle.std.proofs.lemmas.List.Elements.{All-nil, All-weaker}
use Rattle.std.proofs.lemmas.Option.{same_Some}
use Rattle.pq_fields.specs.declared.field.Field.TheVariants.{Port, Switch as SwitchField}
use Rattle.pq_fields.specs.Writes.{Written}
use Rattle.pq_model.specs.Topology.{Switch}
use Rattle.pq_letters.specs.Letters.{LettersValue}
use Rattle.pq_rewrite.specs.Calls.{IsIdleFreeAt}
use Rattle.pq_store.proofs.RoomLemmas.{room_for}
use Rattle.pq_store.specs.Room.{IsAmong}
use Rattle.pq_store.specs.Store.{HasAt}
use Rattle.pq_store.specs.Tree.{IsTested, Tree, value}
use Rattle.pq_classes.specs.Letters.{TestsQueries}
use Rattle.pq_auto.specs.Machine.{Machine}
use Rattle.pq_layout.specs.Leaves.{departing}
use Rattle.pq_layout.specs.Sound.{TestsPorts}
use Rattle.pq_policy.specs.Policy.{IsPolicyOver}
use Rattle.pq_pred.specs.Named.{MayStand}
use Rattle.pq_query.specs.Lawful.{IsQueryOver}
use Rattle.pq_rewrite.specs.declared.outgoing.Outgoing.{Outgoing}
use Rattle.pq_rewrite.specs.declared.trees.Arrive.{Arrive}
use Rattle.pq_rewrite.specs.declared.trees.SwitchTrees.{SwitchTrees}
use Rattle.pq_rewrite.specs.Rewriting.{IsIdleFree}
use Rattle.pq_store.specs.declared.test.Test.TheVariants.{Equal}
use Rattle.pq_store.specs.Diagram.{IsDiagram}
use Rattle.pq_values.proofs.Ported.{has_ports, tests_ports}
use Rattle.pq_join.specs.Sound.{ArrivingAreSound, ArrivingStandBelow, ArrivingTestPorts, HasTags, IgnoresLacking, LeavingAreSound}
use Rattle.pq_join.specs.Sound.{LeavingStandBelow, LeavingTestPorts}
use Rattle.pq_join.specs.Switch.{FitsAsSwitch, TestPortsAt}
use Rattle.pq_join.specs.Tags.{tagging_of}
use Rattle.pq_emit.specs.Network.{AllTestPortsOf, AreTreesAt, StandBelowAll}
use Rattle.pq_emit.specs.Switches.{IsSoundAt}
use Rattle.pq_emit.proofs.SoundAtIds.{sound_all}
use Rattle.pq_emit.proofs.SoundLayouts.{sound_layout}
use Rattle.pq_meaning.specs.Laws.{PartsAreIdleFree}
use Rattle.pq_meaning.specs.Parts.{IsUnionOfParts}
use Rattle.pq_compile.specs.Documents.{DocumentTree}
use Rattle.pq_compile.specs.Prepared.{HasFewValues, IsCompilable, parts_in, queries_in}
use Rattle.pq_compile.proofs.Values.{over, room}

-- what is at a place is the tree that is there
pub of_at : {L : Type 0} (P : Tree L → Type 0) (ts : List (Tree L)) (k : ℕ) (t : Tree L) → slice_get ts k ≡ Some t → HasAt P ts k → P t
of_at P ts k t at h = subst P (same_Some h.0 t (sym h.1 ∙ at)) h.2

pub idle_free_at : PartsAreIdleFree → (d : DocumentTree) (ts : List (Tree (List Written))) (k : ℕ)
    → HasAt (IsUnionOfParts d.topology (parts_in d)) ts k → IsIdleFreeAt ts k
idle_free_at law d ts k policy t at = law d.topology (parts_in d) t (of_at (IsUnionOfParts d.topology (parts_in d)) ts k t at policy)

-- there is room for the numbers of the policy's diagram, of the letters' and of the ports
pub fits_as_switch : (d : DocumentTree) → IsCompilable d → HasFewValues d → (ts : List (Tree (List Written))) (k : ℕ) (a : LettersValue)
    → HasAt (IsUnionOfParts d.topology (parts_in d)) ts k → TestsQueries d.topology (queries_in d) a → FitsAsSwitch d.topology ts k a
fits_as_switch d is few ts k a policy tests =
    room_for (λ ns within. (
      λ t at. ((of_at (IsUnionOfParts d.topology (parts_in d)) ts k t at policy).covers ns within.topology within.policies).tests,
      λ t at. tests t at ns within.dropped within.queries,
      All-weaker (λ (s : Switch). IsAmong s.datapath (ns SwitchField) × All (λ p. IsAmong p (ns Port)) s.ports)
          (λ s. All (λ p. IsAmong p (ns Port)) s.ports) (λ s h. h.1) d.topology.switches within.topology,
    )) (room d is few)

-- Ports.

module _ (d : DocumentTree) (is : IsCompilable d) where
  -- the policy's diagram tests numbers of ports alone
  pub policy_ports : (t : Tree (List Written)) → IsUnionOfParts d.topology (parts_in d) t → TestsPorts t
  policy_ports t union =
      let own = over d is in
      (has_ports d.topology (parts_in d) (record {
        topology = own.topology;
        policies = own.policies;
        queries = All-nil (IsQueryOver (MayStand d.topology));
      }) t union.covers).tests

  -- the letters' diagram tests numbers of ports, and port 0
  pub letter_ports : (a : LettersValue) → TestsQueries d.topology (queries_in d) a → TestPortsAt a.trees a.root
  letter_ports a tests t at v tested =
      let own = over d is in
      let told = tests_ports d.topology (queries_in d) (record {
        topology = own.topology;
        policies = All-nil (IsPolicyOver (MayStand d.topology));
        queries = own.queries;
      }) t (tests t at) in
      elim (told v tested) [ inl zero ↦ inr zero | inr number ↦ inl number ]

-- Entries can stand for the trees of all switches.
pub all_sound : (d : DocumentTree) → IsCompilable d → (a : LettersValue) (m : Machine) → HasTags d.topology a m → (forward : List (Tree (List Written))) (k : ℕ)
    → (policy : HasAt (IsUnionOfParts d.topology (parts_in d)) forward k) → IsDiagram policy.0 → IsIdleFree policy.0 → IgnoresLacking policy.0
    → (lt : Tree ℕ) → slice_get a.trees a.root ≡ Some lt → IgnoresLacking lt → TestsQueries d.topology (queries_in d) a
    → ArrivingAreSound → LeavingAreSound → ArrivingStandBelow → LeavingStandBelow → ArrivingTestPorts → LeavingTestPorts
    → (firsts : List (Tree (Option Arrive))) (seconds : List (Tree (List Outgoing))) (ts : List SwitchTrees)
    → AreTreesAt d.topology forward k a m firsts seconds ts → AllTestPortsOf forward k a firsts seconds ts → All (IsSoundAt firsts seconds) ts
all_sound d is a m tags forward k policy diagram idle_free ignores lt at letters_ignore tests arriving_sound leaving_sound arriving_below
    leaving_below arriving_ports leaving_ports firsts seconds ts trees ports =
    let T = d.topology in
    let g = tagging_of a m in
    let p = policy.0 in
    let own_ports = policy_ports d is p policy.2 in
    let below : StandBelowAll T g (departing T (value p)) = λ e fits. (
      λ k t made f. arriving_below T a m e fits lt at letters_ignore k t made f,
      λ b t made f. leaving_below T a m e fits lt at letters_ignore p idle_free ignores b t made f,
    ) in
    let sound = sound_layout T a m p tags idle_free arriving_sound leaving_sound arriving_ports leaving_ports diagram own_ports below in
    let policy_tests : TestPortsAt forward k =
    λ t there v tested. inl (own_ports v (subst (IsTested (Equal Port v)) (same_Some t p (sym there ∙ policy.1)) tested)) in
    sound_all T g (departing T (value p)) firsts seconds sound ts tags.lawful.switches (ports policy_tests (letter_ports d is a tests)) (trees p policy.1)
