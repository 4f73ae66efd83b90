-- The messages of a switch that are made of its trees.
use Rattle.std.proofs.Common.{◌≡◌, ◌<◌, ◌^◌, ℕ, List, Some, inl, sym, subst, ◌∙◌}
use Rattle.std.specs.declared.option.Option.{Option}
use Rattle.std.specs.Prelude.{slice_get}
use Rattle.std.proofs.lemmas.Option.{same_Some}
use Rattle.pq_fields.specs.declared.field.Field.TheVariants.{Port}
use Rattle.pq_fields.specs.Writes.{Written}
use Rattle.pq_auto.specs.Machine.{Machine}
use Rattle.pq_letters.specs.Letters.{LettersValue}
use Rattle.pq_model.specs.declared.message.Message.{Message}
use Rattle.pq_model.specs.Install.{IsLawfulList}
use Rattle.pq_model.specs.Topology.{Switch, Topology}
use Rattle.pq_rewrite.specs.declared.outgoing.Outgoing.{Outgoing}
use Rattle.pq_rewrite.specs.declared.trees.Arrive.{Arrive}
use Rattle.pq_rewrite.specs.declared.trees.SwitchTrees.{SwitchTrees}
use Rattle.pq_rewrite.specs.Rewriting.{IsIdleFree}
use Rattle.pq_store.specs.declared.test.Test.TheVariants.{Equal}
use Rattle.pq_store.specs.Diagram.{IsDiagram}
use Rattle.pq_store.specs.Store.{HasAt}
use Rattle.pq_store.specs.Tree.{IsTested, Tree, value}
use Rattle.pq_layout.specs.Actions.{key_word, tag_word}
use Rattle.pq_layout.specs.Leaves.{Departures, departing}
use Rattle.pq_layout.specs.Messages.{messages_of}
use Rattle.pq_layout.specs.Tagging.{Tagging, odd_tags}
use Rattle.pq_layout.specs.Trees.{IsArriving, IsLeaving, keys_of}
use Rattle.pq_lookup.specs.Sent.{AreFilled}
use Rattle.pq_rules.specs.Refusals.{FitRules}
use Rattle.pq_rules.specs.Tables.{arriving_trees, leaving_trees}
use Rattle.pq_classes.specs.Letters.{TestsQueries}
use Rattle.pq_meaning.specs.Parts.{IsUnionOfParts}
use Rattle.pq_join.specs.Sound.{ArrivingAreSound, ArrivingStandBelow, ArrivingTestPorts, HasTags, IgnoresLacking, LeavingAreSound}
use Rattle.pq_join.specs.Sound.{LeavingStandBelow, LeavingTestPorts}
use Rattle.pq_join.specs.Switch.{AllTestPorts, TestPortsAt}
use Rattle.pq_join.specs.Tags.{tagging_of}
use Rattle.pq_emit.specs.Network.{StandBelowAll}
use Rattle.pq_emit.specs.Switches.{IsSoundAt, IsSwitchAt, trees_at}
use Rattle.pq_emit.proofs.Located.{switch_located}
use Rattle.pq_emit.proofs.MetFaults.{fits_none}
use Rattle.pq_emit.proofs.PortsAtIds.{placed_ports, tests_with}
use Rattle.pq_emit.proofs.SoundLayouts.{sound_layout}
use Rattle.pq_emit.proofs.SoundAtIds.{within_store}
use Rattle.pq_compile.specs.Documents.{DocumentTree}
use Rattle.pq_compile.specs.Prepared.{IsCompilable, parts_in, queries_in}
use Rattle.pq_compile.proofs.Joined.{letter_ports, policy_ports}
use Rattle.pq_local.specs.Local.{IsServed}

-- entries can stand for the trees of a switch
pub one_sound : (d : DocumentTree) → IsCompilable d → (a : LettersValue) (m : Machine) → HasTags d.topology a m → (forward : List (Tree (List Written))) (k : ℕ)
    → (policy : HasAt (IsUnionOfParts d.topology (parts_in d)) forward k) → IsDiagram policy.0 → IsIdleFree policy.0 → IgnoresLacking policy.0
    → (lt : Tree ℕ) → slice_get a.trees a.root ≡ Some lt → IgnoresLacking lt → TestsQueries d.topology (queries_in d) a
    → ArrivingAreSound → LeavingAreSound → ArrivingStandBelow → LeavingStandBelow → ArrivingTestPorts → LeavingTestPorts
    → (firsts : List (Tree (Option Arrive))) (seconds : List (Tree (List Outgoing))) (s : Switch) (t : SwitchTrees) → s.datapath < 2 ^ 64
    → IsSwitchAt d.topology (tagging_of a m) (departing d.topology (value policy.0)) firsts seconds s t
    → AllTestPorts forward k a firsts t.arriving.items seconds t.leaving.items → IsSoundAt firsts seconds t
one_sound d is a m tags forward k policy diagram idle_free ignores lt at letters_ignore tests arriving_sound leaving_sound arriving_below
    leaving_below arriving_ports leaving_ports firsts seconds s t small are ports =
    let T = d.topology in
    let g = tagging_of a m in
    let p = policy.0 in
    let writes = departing T (value p) in
    let own_ports = policy_ports d is p policy.2 in
    let below : StandBelowAll T g writes = λ e fits. (
      λ k t made f. arriving_below T a m e fits lt at letters_ignore k t made f,
      λ b t made f. leaving_below T a m e fits lt at letters_ignore p idle_free ignores b t made f,
    ) in
    let sound = sound_layout T a m p tags idle_free arriving_sound leaving_sound arriving_ports leaving_ports diagram own_ports below in
    let policy_tests : TestPortsAt forward k =
    λ t there v tested. inl (own_ports v (subst (IsTested (Equal Port v)) (same_Some t p (sym there ∙ policy.1)) tested)) in
    let placed = placed_ports T g writes firsts seconds s.datapath t are.0 are.1 (ports policy_tests (letter_ports d is a tests)) in
    let both = sound s.datapath (arriving_trees firsts t.arriving.items) (leaving_trees seconds t.leaving.items) small
    (switch_located T g writes firsts seconds s t are)
    (tests_with key_word firsts t.arriving.items placed.0) (tests_with tag_word seconds t.leaving.items placed.1) in
    record {
      arriving_ids = within_store (IsArriving T g s.datapath) firsts (keys_of g) t.arriving.items are.0;
      leaving_ids = within_store (IsLeaving T g writes s.datapath) seconds (odd_tags g) t.leaving.items are.1;
      arriving = both.0;
      leaving = both.1;
    }

-- messages of trees that give tables
pub made_served : (T : Topology) (g : Tagging) (writes : Departures) (firsts : List (Tree (Option Arrive)))
    (seconds : List (Tree (List Outgoing))) (s : Switch) (t : SwitchTrees) (ms : List Message)
    → IsSwitchAt T g writes firsts seconds s t → ms ≡ messages_of (arriving_trees firsts t.arriving.items) (leaving_trees seconds t.leaving.items)
    → AreFilled (arriving_trees firsts t.arriving.items) (leaving_trees seconds t.leaving.items)
    → FitRules s.limit (arriving_trees firsts t.arriving.items) (leaving_trees seconds t.leaving.items) → IsLawfulList ms → IsServed T g writes s ms
made_served T g writes firsts seconds s t ms at is filled fits lawful =
    let none = fits_none s (trees_at firsts seconds t) fits in
    record {
      trees = trees_at firsts seconds t;
      are = switch_located T g writes firsts seconds s t at;
      made = record { messages = is; filled = filled };
      tables = none.0;
      groups = none.1;
      lawful = lawful;
    }
