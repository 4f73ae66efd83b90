-- The states of an automaton, parted more and more finely, and the automaton of the last parts.
use Rattle.std.specs.Prelude.{ℕ, ◌<◌, ◌≡◌, Bool, true, false, List, [], ◌∷◌, length, map}
use Rattle.std.proofs.Math.ListN.{get_or}
use Rattle.pq_auto.specs.Machine.{Machine, AllBelow, AreSame, is_even_at, accepted_at, reached}
use Rattle.pq_auto.specs.Parts.{Parts, IsParted, class_of}

-- the states after one letter more
abbrev pub row_of : Machine → ℕ → List ℕ
row_of m s = get_or m.rows s []

-- 1 for even, 0 for odd
abbrev pub parity_number : Bool → ℕ
parity_number true = 1
parity_number false = 0

-- what tells states apart at once: the parity, then what the state accepts
abbrev pub mark : Machine → ℕ → List ℕ
mark m s = parity_number (is_even_at m s) ∷ accepted_at m s

-- what tells states apart after a letter: the state's own class, then the classes of its next states
abbrev pub signature : Machine → Parts → ℕ → List ℕ
signature m p s = class_of p s ∷ map (class_of p) (row_of m s)

-- the parts keep together what is the same, and tell marks apart
pub record IsRound (m : Machine) (p : Parts) : Type 0 where
  pub key : ℕ → List ℕ
  pub parted : IsParted key p
  pub whole : length p.classes ≡ length m.rows
  pub coarse : (s t : ℕ) → s < length m.rows → t < length m.rows → AreSame m s t → class_of p s ≡ class_of p t
  pub fine : (s t : ℕ) → s < length m.rows → t < length m.rows → class_of p s ≡ class_of p t → mark m s ≡ mark m t

-- classes lead to classes
pub record IsLast (m : Machine) (p : Parts) : Type 0 where
  pub round : IsRound m p
  pub leads : (s t : ℕ) → s < length m.rows → t < length m.rows → class_of p s ≡ class_of p t → map (class_of p) (row_of m s) ≡ map (class_of p) (row_of m t)

-- the automaton of the classes: each does what its first state does
abbrev pub quotient : Machine → Parts → Machine
quotient m p = record {
  letters = m.letters;
  rows = map (λ s. map (class_of p) (row_of m s)) p.firsts;
  even = map (is_even_at m) p.firsts;
  accepted = map (accepted_at m) p.firsts;
}

-- states were joined: the state that a word leads to tells the one that it leads to now
abbrev pub AreJoined : Machine → Machine → Type 0
AreJoined m c = (class : ℕ → ℕ) × ((w : List ℕ) → AllBelow m.letters w → reached c w ≡ class (reached m w))
