-- Automata of single expressions, and all of them side by side, with the parity of words.
use Rattle.std.specs.Prelude.{ℕ, suc, ◌==◌, Bool, not, if◌then◌else◌, List, [], ◌∷◌, length, map}
use Rattle.std.proofs.Common.{Vec, Global}
use Rattle.std.proofs.Math.ListN.{get_or}
use Rattle.pq_auto.specs.Machine.{Machine, accepted_at}

-- an instance holds the words that reach the state
abbrev pub holds_at : Machine → ℕ → Bool
holds_at t s = not (length (accepted_at t s) == 0)

-- lists that are stored
abbrev pub lists : List (Vec ℕ Global) → List (List ℕ)
lists vs = map (λ v. v.items) vs

-- 0 for words of even length, 1 for the others
abbrev pub other_parity : ℕ → ℕ
other_parity n = if n == 0 then 1 else 0

-- the next state of each automaton; the list has that of the first one at this place
abbrev pub steps_from : ℕ → List Machine → List ℕ → ℕ → List ℕ
steps_from i [] k l = []
steps_from i (t ∷ ts) k l = get_or (get_or t.rows (get_or k i 0) []) l 0 ∷ steps_from (suc i) ts k l

-- the next parity, and the next state of each automaton
abbrev pub steps : List Machine → List ℕ → ℕ → List ℕ
steps tables k l = other_parity (get_or k 0 0) ∷ steps_from 1 tables k l

-- state 0 of each automaton
abbrev pub starts : List Machine → List ℕ
starts [] = []
starts (t ∷ ts) = 0 ∷ starts ts

-- before any letter
abbrev pub begin : List Machine → List ℕ
begin tables = 0 ∷ starts tables

-- the places of the automata that hold the words, ascending, counted from this one
abbrev pub accepting_from : ℕ → List Machine → List ℕ → List ℕ
accepting_from i [] k = []
accepting_from i (t ∷ ts) k = if holds_at t (get_or k (suc i) 0) then i ∷ accepting_from (suc i) ts k else accepting_from (suc i) ts k

-- the places of the automata that hold the words, ascending
abbrev pub accepting : List Machine → List ℕ → List ℕ
accepting tables k = accepting_from 0 tables k

-- the state is of words of even length
abbrev pub is_even_key : List ℕ → Bool
is_even_key k = get_or k 0 0 == 0
