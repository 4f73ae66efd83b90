-- The trees of a switch's tables at their ids.
use Rattle.std.specs.Prelude.{◌≡◌, ℕ, Bool, List, ◌++◌, Some, All, length, map, slice_get, ◌<◌}
use Rattle.std.specs.declared.option.Option.{Option}
use Rattle.pq_rewrite.specs.declared.outgoing.Outgoing.{Outgoing}
use Rattle.pq_rewrite.specs.declared.trees.Arrive.{Arrive}
use Rattle.pq_rewrite.specs.declared.trees.Key.{Key}
use Rattle.pq_store.specs.Tree.{Tree}
use Rattle.pq_store.specs.Store.{HasAt}
use Rattle.pq_layout.specs.Actions.{key_word, tag_word}
use Rattle.pq_layout.specs.Entries.{is_blank, table_of}
use Rattle.pq_layout.specs.Messages.{ArrivingTrees, LeavingTrees}
use Rattle.pq_layout.specs.Sound.{IsSoundArriving, IsSoundLeaving}
use Rattle.pq_rules.specs.Found.{matches_of, trees_with}

-- the ids of table 0 with their VLAN_VID words, and those of table 1
abbrev pub arriving_ids : List (Key × ℕ) → List (ℕ × ℕ)
arriving_ids ids = map (λ p. (key_word p.0, p.1)) ids

abbrev pub leaving_ids : List (ℕ × ℕ) → List (ℕ × ℕ)
leaving_ids ids = map (λ p. (tag_word p.0, p.1)) ids

-- the trees of table 0, and those of table 1
abbrev pub arriving_trees : List (Tree (Option Arrive)) → List (Key × ℕ) → ArrivingTrees
arriving_trees ts ids = trees_with ts (arriving_ids ids)

abbrev pub leaving_trees : List (Tree (List Outgoing)) → List (ℕ × ℕ) → LeavingTrees
leaving_trees ts ids = trees_with ts (leaving_ids ids)

-- the tree at an id is one that entries can stand for
abbrev pub IsArrivingId : List (Tree (Option Arrive)) → Key × ℕ → Type 0
IsArrivingId ts p = HasAt (IsSoundArriving (key_word p.0)) ts p.1

abbrev pub IsLeavingId : List (Tree (List Outgoing)) → ℕ × ℕ → Type 0
IsLeavingId ts p = HasAt (IsSoundLeaving (tag_word p.0)) ts p.1

-- whether the tree at an id is one blank leaf
abbrev pub IsBlankAt : {L : Type 0} → (L → Bool) → List (Tree L) → ℕ → Bool → Type 0
IsBlankAt {L} blank ts k b = (t : Tree L) → slice_get ts k ≡ Some t → b ≡ is_blank blank t

-- the entries of these roots and then those of what is left are those of all
abbrev pub Gathers : {L : Type 0} → (L → Bool) → List (Tree L) → List (ℕ × ℕ) → List (ℕ × ℕ) → List (ℕ × ℕ) → Type 0
Gathers blank ts ids roots left = matches_of (trees_with ts roots) ++ table_of blank (trees_with ts left) ≡ table_of blank (trees_with ts ids)

-- ids of trees of the store
abbrev pub AreArrivingWithin : List (Tree (Option Arrive)) → List (Key × ℕ) → Type 0
AreArrivingWithin ts ids = All (λ p. p.1 < length ts) ids
