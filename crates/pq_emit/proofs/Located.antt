-- The trees at ids of stores are the trees of switches.
use Rattle.std.proofs.Common.{◌≡◌, ◌<◌, ◌+◌, ℕ, List, [], ◌∷◌, ◌++◌, map, take, length, get_or, sym, ap, subst, ◌∙◌}
use Rattle.std.specs.Prelude.{Option}
use Rattle.std.specs.List.{AllZip}
use Rattle.std.proofs.lemmas.List.{take_more}
use Rattle.std.proofs.lemmas.Slice.Zip.{all_zipped_more}
use Rattle.pq_fields.specs.Packet.{Numbers}
use Rattle.pq_layout.specs.Actions.{key_word, tag_word}
use Rattle.pq_layout.specs.Emission.{AreTrees}
use Rattle.pq_layout.specs.Leaves.{Departures, arrival, at_switch, leaving}
use Rattle.pq_layout.specs.Tagging.{Tagging, odd_tags}
use Rattle.pq_layout.specs.Trees.{AreArriving, AreLeaving, IsTreeOf, keys_of}
use Rattle.pq_model.specs.Topology.{Switch, Topology}
use Rattle.pq_rewrite.specs.declared.outgoing.Outgoing.{Outgoing}
use Rattle.pq_rewrite.specs.declared.trees.Arrive.{Arrive}
use Rattle.pq_rewrite.specs.declared.trees.SwitchTrees.{SwitchTrees}
use Rattle.pq_rules.specs.Tables.{arriving_trees, leaving_trees}
use Rattle.pq_rules.specs.Found.{trees_with, with_word}
use Rattle.pq_store.specs.Store.{HasAt, Keeps}
use Rattle.pq_store.specs.Tree.{Tree}
use Rattle.pq_emit.specs.Switches.{AreAllTrees, AreSwitchesAt, IsSwitchAt, trees_of}

-- at ids of trees of functions are these trees
located : {A L : Type 0} (word : A → ℕ) (F : A → Numbers → L) (ts : List (Tree L)) (ks : List A) (ids : List (A × ℕ))
    → AllZip (λ k p. (p.0 ≡ k) × HasAt (IsTreeOf (F k)) ts p.1) ks ids
    → AllZip (λ k p. (p.0 ≡ word k) × IsTreeOf (F k) p.1) ks (trees_with ts (map (λ p. (word p.0, p.1)) ids))
located word F ts [] [] all = tt
located word F ts [] (p ∷ ids) all = absurd all
located word F ts (k ∷ ks) [] all = absurd all
located {A} {L} word F ts (k ∷ ks) (p ∷ ids) all =
    let one = all.0.1 in
    let rest = trees_with ts (map (λ p. (word p.0, p.1)) ids) in
    let both : AllZip (λ k p. (p.0 ≡ word k) × IsTreeOf (F k) p.1) (k ∷ ks) ((word p.0, one.0) ∷ rest) =
    ((ap word all.0.0, one.2), located word F ts ks ids all.1) in
    subst (λ o. AllZip (λ k p. (p.0 ≡ word k) × IsTreeOf (F k) p.1) (k ∷ ks) (with_word {L = L} (word p.0) o ++ rest)) (sym one.1) both

-- the trees at the ids of a switch are its trees
pub switch_located : (T : Topology) (g : Tagging) (writes : Departures) (firsts : List (Tree (Option Arrive)))
    (seconds : List (Tree (List Outgoing))) (s : Switch) (t : SwitchTrees)
    → IsSwitchAt T g writes firsts seconds s t → AreTrees T g writes s.datapath (arriving_trees firsts t.arriving.items) (leaving_trees seconds t.leaving.items)
switch_located T g writes firsts seconds s t at = record {
  arriving = located key_word (λ k z. arrival T g k (at_switch s.datapath z)) firsts (keys_of g) t.arriving.items at.0;
  leaving = located tag_word (λ k z. leaving T g writes k (at_switch s.datapath z)) seconds (odd_tags g) t.leaving.items at.1;
}

each_located : (T : Topology) (g : Tagging) (writes : Departures) (firsts : List (Tree (Option Arrive)))
    (seconds : List (Tree (List Outgoing))) (ss : List Switch) (ts : List SwitchTrees)
    → AllZip (IsSwitchAt T g writes firsts seconds) ss ts → AllZip (λ s t. AreTrees T g writes s.datapath t.first t.second) ss (trees_of firsts seconds ts)
each_located T g writes firsts seconds [] [] all = tt
each_located T g writes firsts seconds [] (t ∷ ts) all = absurd all
each_located T g writes firsts seconds (s ∷ ss) [] all = absurd all
each_located T g writes firsts seconds (s ∷ ss) (t ∷ ts) all =
    (switch_located T g writes firsts seconds s t all.0, each_located T g writes firsts seconds ss ts all.1)

-- the trees at the ids of all switches are the trees of the network
pub all_located : (T : Topology) (g : Tagging) (writes : Departures) (firsts : List (Tree (Option Arrive)))
    (seconds : List (Tree (List Outgoing))) (trees : List SwitchTrees)
    → AreSwitchesAt T g writes firsts seconds trees → AreAllTrees T g writes (trees_of firsts seconds trees)
all_located T g writes firsts seconds trees all = each_located T g writes firsts seconds T.switches trees all

-- Stores that keep their ids keep what is there.

kept_ids : {A L : Type 0} (F : A → Tree L → Type 0) (old new : List (Tree L)) → Keeps old new → (ks : List A) (ids : List (A × ℕ))
    → AllZip (λ k p. (p.0 ≡ k) × HasAt (F k) old p.1) ks ids → AllZip (λ k p. (p.0 ≡ k) × HasAt (F k) new p.1) ks ids
kept_ids F old new keeps [] [] all = tt
kept_ids F old new keeps [] (p ∷ ids) all = absurd all
kept_ids F old new keeps (k ∷ ks) [] all = absurd all
kept_ids F old new keeps (k ∷ ks) (p ∷ ids) all =
    ((all.0.0, (all.0.1.0, keeps p.1 all.0.1.0 all.0.1.1, all.0.1.2)), kept_ids F old new keeps ks ids all.1)

kept_switches : (T : Topology) (g : Tagging) (writes : Departures) (firsts more : List (Tree (Option Arrive)))
    (seconds others : List (Tree (List Outgoing))) → Keeps firsts more → Keeps seconds others
    → (ss : List Switch) (ts : List SwitchTrees) → AllZip (IsSwitchAt T g writes firsts seconds) ss ts → AllZip (IsSwitchAt T g writes more others) ss ts
kept_switches T g writes firsts more seconds others left right [] [] all = tt
kept_switches T g writes firsts more seconds others left right [] (t ∷ ts) all = absurd all
kept_switches T g writes firsts more seconds others left right (s ∷ ss) [] all = absurd all
kept_switches T g writes firsts more seconds others left right (s ∷ ss) (t ∷ ts) all = (
  (
    kept_ids (λ k. IsTreeOf (λ z. arrival T g k (at_switch s.datapath z))) firsts more left (keys_of g) t.arriving.items all.0.0,
    kept_ids (λ k. IsTreeOf (λ z. leaving T g writes k (at_switch s.datapath z))) seconds others right (odd_tags g) t.leaving.items all.0.1,
  ),
  kept_switches T g writes firsts more seconds others left right ss ts all.1,
)

-- one more switch, whose trees are added to the stores
pub one_more : (T : Topology) (g : Tagging) (writes : Departures) (firsts more : List (Tree (Option Arrive)))
    (seconds others : List (Tree (List Outgoing))) → Keeps firsts more → Keeps seconds others
    → (ss : List Switch) (k : ℕ) (s : Switch) (ts pushed : List SwitchTrees) (t : SwitchTrees) → k < length ss → s ≡ get_or ss k s → pushed ≡ ts ++ t ∷ []
    → AreArriving T g s.datapath more t.arriving.items → AreLeaving T g writes s.datapath others t.leaving.items
    → AllZip (IsSwitchAt T g writes firsts seconds) (take k ss) ts → AllZip (IsSwitchAt T g writes more others) (take (k + 1) ss) pushed
one_more T g writes firsts more seconds others left right ss k s ts pushed t within at push arriving leaving all =
    let front : take (k + 1) ss ≡ take k ss ++ s ∷ [] = take_more ss k s within ∙ ap (λ j. take k ss ++ j ∷ []) (sym at) in
    let P = IsSwitchAt T g writes more others in
    subst (λ qs. AllZip P qs pushed) (sym front) (subst (λ us. AllZip P (take k ss ++ s ∷ []) us) (sym push)
    (all_zipped_more P (take k ss) ts s t (kept_switches T g writes firsts more seconds others left right (take k ss) ts all) (arriving, leaving)))
