-- Classes of states, each named by one of its states, the leader.
use Rattle.std.specs.Prelude.{ℕ, ◌<◌, ◌≡◌, ◌⊎◌, List, [], ◌∷◌, ◌++◌, length, map, Some, slice_get}
use Rattle.std.proofs.Math.ListN.{get_or}
use Rattle.pq_auto.specs.Machine.{Machine, AreSame}
use Rattle.pq_auto.specs.Refinement.{mark, row_of}

-- the leader of a state's class
abbrev pub leader_in : List ℕ → ℕ → ℕ
leader_in leaders s = get_or leaders s 0

-- the leaders of the next states
abbrev pub row_in : Machine → List ℕ → ℕ → List ℕ
row_in m leaders s = map (leader_in leaders) (row_of m s)

-- the leader, and those of the next states
abbrev pub key_in : Machine → List ℕ → ℕ → List ℕ
key_in m leaders s = leader_in leaders s ∷ row_in m leaders s

-- each state has a leader: what is the same has one leader, and a leader has the mark of its states
pub record AreLed (m : Machine) (leaders : List ℕ) : Type 0 where
  pub whole : length leaders ≡ length m.rows
  pub within : (s : ℕ) → s < length m.rows → leader_in leaders s < length m.rows
  pub coarse : (s t : ℕ) → s < length m.rows → t < length m.rows → AreSame m s t → leader_in leaders s ≡ leader_in leaders t
  pub fine : (s : ℕ) → s < length m.rows → mark m s ≡ mark m (leader_in leaders s)

-- the first state that had the key: one that was seen with it before, or this one
abbrev pub GivesFirst : List (List ℕ) → List ℕ → List ℕ → ℕ → ℕ → List (List ℕ) → List ℕ → Type 0
GivesFirst old firsts key s first new more =
    ((p : ℕ) × (slice_get old p ≡ Some key) × (first ≡ get_or firsts p 0) × (new ≡ old) × (more ≡ firsts))
    ⊎ (((p : ℕ) → slice_get old p ≡ Some key → ⊥) × (first ≡ s) × (new ≡ old ++ key ∷ []) × (more ≡ firsts ++ s ∷ []))

-- how far a round has come: the keys that were seen, each once, and the first state of each
pub record AreFirsts (m : Machine) (leaders : List ℕ) (seen : List (List ℕ)) (firsts : List ℕ) : Type 0 where
  pub long : length firsts ≡ length seen
  pub once : (p q : ℕ) (k : List ℕ) → slice_get seen p ≡ Some k → slice_get seen q ≡ Some k → p ≡ q
  pub keyed : (p : ℕ) (k : List ℕ) → slice_get seen p ≡ Some k → (get_or firsts p 0 < length m.rows) × (key_in m leaders (get_or firsts p 0) ≡ k)

-- the state stays with its leader where both lead to the same classes; else its leader is the first state with its key
abbrev pub IsNext : Machine → List ℕ → List (List ℕ) → List ℕ → ℕ → ℕ → Type 0
IsNext m leaders seen firsts s next =
    ((row_in m leaders s ≡ row_in m leaders (leader_in leaders s)) × (next ≡ leader_in leaders s))
    ⊎ ((row_in m leaders s ≡ row_in m leaders (leader_in leaders s) → ⊥)
    × ((p : ℕ) × (slice_get seen p ≡ Some (key_in m leaders s)) × (next ≡ get_or firsts p 0)))
