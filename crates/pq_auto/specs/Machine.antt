-- Automata over letters, whose states are numbered from 0; state 0 is reached by the empty word.
use Rattle.std.specs.Prelude.{ℕ, ◌<◌, ◌≡◌, Bool, true, not, List, [], ◌∷◌, length}
use Rattle.std.proofs.Math.ListN.{get_or}

-- an automaton: how many letters there are; for each state, the next state under each letter, whether words of even length reach it, and what it accepts
pub record Machine : Type 0 where
  pub letters : ℕ
  pub rows : List (List ℕ)
  pub even : List Bool
  pub accepted : List (List ℕ)

-- all numbers are below the bound: a word over this many letters
abbrev pub AllBelow : ℕ → List ℕ → Type 0
AllBelow n [] = Unit {0}
AllBelow n (l ∷ w) = (l < n) × AllBelow n w

-- the state that a word leads to from a state
abbrev pub follow : List (List ℕ) → ℕ → List ℕ → ℕ
follow rows s [] = s
follow rows s (l ∷ w) = follow rows (get_or (get_or rows s []) l 0) w

-- the state that a word leads to from state 0
abbrev pub reached : Machine → List ℕ → ℕ
reached a w = follow a.rows 0 w

-- whether words of even length reach the state
abbrev pub is_even_at : Machine → ℕ → Bool
is_even_at a s = get_or a.even s true

-- what the state accepts
abbrev pub accepted_at : Machine → ℕ → List ℕ
accepted_at a s = get_or a.accepted s []

-- the word has even length
abbrev pub has_even_length : List ℕ → Bool
has_even_length [] = true
has_even_length (l ∷ w) = not (has_even_length w)

-- there is a state 0, and each state has a parity, what it accepts, and a next state for each letter
pub record IsMachine (a : Machine) : Type 0 where
  pub some : 0 < length a.rows
  pub even : length a.even ≡ length a.rows
  pub accepted : length a.accepted ≡ length a.rows
  pub long : (s : ℕ) → s < length a.rows → length (get_or a.rows s []) ≡ a.letters
  pub within : (s : ℕ) → s < length a.rows → AllBelow (length a.rows) (get_or a.rows s [])

-- both states have one parity and accept the same, and so do those that each word leads to from them
abbrev pub AreSame : Machine → ℕ → ℕ → Type 0
AreSame a s t = (w : List ℕ) → AllBelow a.letters w →
    (is_even_at a (follow a.rows s w) ≡ is_even_at a (follow a.rows t w)) × (accepted_at a (follow a.rows s w) ≡ accepted_at a (follow a.rows t w))

-- no two states are the same: there is no automaton with fewer (after Myhill and Nerode)
abbrev pub IsLeastMachine : Machine → Type 0
IsLeastMachine a = (s t : ℕ) → s < length a.rows → t < length a.rows → AreSame a s t → s ≡ t

-- the automata say the same of each word: its parity and what accepts it
abbrev pub SaySame : Machine → Machine → Type 0
SaySame a b = (w : List ℕ) → AllBelow a.letters w
    → (is_even_at a (reached a w) ≡ is_even_at b (reached b w)) × (accepted_at a (reached a w) ≡ accepted_at b (reached b w))
