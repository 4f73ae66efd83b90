-- Sound layouts at the ids of trees.
use Rattle.std.proofs.Common.{◌≡◌, ◌<◌, ℕ, List, [], ◌∷◌, length, ◌^◌}
use Rattle.std.specs.Prelude.{All, Option}
use Rattle.std.specs.List.{AllZip}
use Rattle.std.proofs.lemmas.List.Elements.{All-nil, All-cons, All-head, All-tail}
use Rattle.std.proofs.lemmas.Option.{slice_get_within}
use Rattle.pq_layout.specs.Leaves.{Departures}
use Rattle.pq_layout.specs.Tagging.{Tagging, odd_tags}
use Rattle.pq_layout.specs.Trees.{IsArriving, IsLeaving, keys_of}
use Rattle.pq_rules.specs.Tables.{arriving_trees, leaving_trees}
use Rattle.pq_model.specs.Install.{IsLawfulSwitch}
use Rattle.pq_model.specs.Topology.{Switch, Topology}
use Rattle.pq_rewrite.specs.declared.outgoing.Outgoing.{Outgoing}
use Rattle.pq_rewrite.specs.declared.trees.Arrive.{Arrive}
use Rattle.pq_rewrite.specs.declared.trees.SwitchTrees.{SwitchTrees}
use Rattle.pq_store.specs.Store.{HasAt}
use Rattle.pq_store.specs.Tree.{Tree}
use Rattle.pq_join.specs.Sound.{TestsPortsOrZero}
use Rattle.pq_layout.specs.Actions.{key_word, tag_word}
use Rattle.pq_layout.specs.Emission.{AreTrees}
use Rattle.pq_layout.specs.Messages.{ArrivingTrees, LeavingTrees}
use Rattle.pq_layout.specs.Sound.{AreSoundArriving, AreSoundLeaving}
use Rattle.pq_emit.specs.Network.{TestPortsOf}
use Rattle.pq_emit.proofs.PortsAtIds.{tests_with}
use Rattle.pq_emit.specs.Switches.{AreSwitchesAt, IsSoundAt, IsSwitchAt}
use Rattle.pq_emit.proofs.Located.{switch_located}

-- ids of trees are ids of the store
pub within_store : {A L : Type 0} (F : A → Tree L → Type 0) (ts : List (Tree L)) (ks : List A) (ids : List (A × ℕ))
    → AllZip (λ k p. (p.0 ≡ k) × HasAt (F k) ts p.1) ks ids → All (λ p. p.1 < length ts) ids
within_store F ts [] [] all = All-nil (λ p. p.1 < length ts)
within_store F ts [] (p ∷ ids) all = absurd all
within_store F ts (k ∷ ks) [] all = absurd all
within_store F ts (k ∷ ks) (p ∷ ids) all =
    All-cons (λ p. p.1 < length ts) p ids (slice_get_within ts p.1 all.0.1.0 all.0.1.1) (within_store F ts ks ids all.1)

module _ (T : Topology) (g : Tagging) (writes : Departures) (firsts : List (Tree (Option Arrive))) (seconds : List (Tree (List Outgoing)))
    (sound : (d : ℕ) (a : ArrivingTrees) (b : LeavingTrees) → d < 2 ^ 64 → AreTrees T g writes d a b → All (λ q. TestsPortsOrZero q.1) a
    → All (λ q. TestsPortsOrZero q.1) b
    → AreSoundArriving a × AreSoundLeaving b) where
  sound_each : (ss : List Switch) (ts : List SwitchTrees) → All IsLawfulSwitch ss → All (TestPortsOf firsts seconds) ts
      → AllZip (IsSwitchAt T g writes firsts seconds) ss ts
      → All (IsSoundAt firsts seconds) ts
  sound_each [] [] lawful ports all = All-nil (IsSoundAt firsts seconds)
  sound_each [] (t ∷ ts) lawful ports all = absurd all
  sound_each (s ∷ ss) [] lawful ports all = absurd all
  sound_each (s ∷ ss) (t ∷ ts) lawful ports all =
      let both = sound s.datapath (arriving_trees firsts t.arriving.items) (leaving_trees seconds t.leaving.items) (All-head IsLawfulSwitch s ss lawful).0
      (switch_located T g writes firsts seconds s t all.0)
      (tests_with key_word firsts t.arriving.items (All-head (TestPortsOf firsts seconds) t ts ports).0)
      (tests_with tag_word seconds t.leaving.items (All-head (TestPortsOf firsts seconds) t ts ports).1) in
      All-cons (IsSoundAt firsts seconds) t ts (record {
        arriving_ids = within_store (IsArriving T g s.datapath) firsts (keys_of g) t.arriving.items all.0.0;
        leaving_ids = within_store (IsLeaving T g writes s.datapath) seconds (odd_tags g) t.leaving.items all.0.1;
        arriving = both.0;
        leaving = both.1;
      }) (sound_each ss ts (All-tail IsLawfulSwitch s ss lawful) (All-tail (TestPortsOf firsts seconds) t ts ports) all.1)

  -- where entries can stand for the trees of a switch, the trees at the ids of all switches are sound
  pub sound_all : (ts : List SwitchTrees) → All IsLawfulSwitch T.switches → All (TestPortsOf firsts seconds) ts
      → AreSwitchesAt T g writes firsts seconds ts → All (IsSoundAt firsts seconds) ts
  sound_all ts lawful ports all = sound_each T.switches ts lawful ports all
