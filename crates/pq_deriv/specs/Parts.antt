-- Lists of numbers in parts.
use Rattle.std.specs.Prelude.{ℕ, zero, suc, ◌+◌, List, [], ◌∷◌, ◌++◌, length, take, drop}

-- this many parts, each after its length; where the numbers end too early, parts are short or empty
abbrev pub parts : ℕ → List ℕ → List (List ℕ)
parts zero r = []
parts (suc n) [] = [] ∷ parts n []
parts (suc n) (len ∷ r) = take len r ∷ parts n (drop len r)

-- the members of a set: how many there are, then each after its length; no numbers are the empty set
abbrev pub members : List ℕ → List (List ℕ)
members [] = []
members (n ∷ r) = parts n r

-- parts, each after its length
abbrev pub spelled : List (List ℕ) → List ℕ
spelled [] = []
spelled (p ∷ ps) = length p ∷ (p ++ spelled ps)

-- a set with these members
abbrev pub set_of : List (List ℕ) → List ℕ
set_of [] = []
set_of (p ∷ ps) = length (p ∷ ps) ∷ spelled (p ∷ ps)

-- the first part
abbrev pub first_part : List ℕ → List ℕ
first_part [] = []
first_part (len ∷ r) = take len r

-- what is after the first part
abbrev pub behind_part : List ℕ → List ℕ
behind_part [] = []
behind_part (len ∷ r) = drop len r

-- the first set, of sets of which each one that has members is after the number of empty ones before it, and after its length
abbrev pub first_set : List ℕ → List ℕ
first_set [] = []
first_set (zero ∷ r) = first_part r
first_set (suc gap ∷ r) = []

-- the sets after the first one
abbrev pub behind_set : List ℕ → List ℕ
behind_set [] = []
behind_set (zero ∷ r) = behind_part r
behind_set (suc gap ∷ r) = gap ∷ r

-- this many sets
abbrev pub spread : ℕ → List ℕ → List (List ℕ)
spread zero r = []
spread (suc n) r = first_set r ∷ spread n (behind_set r)

-- with an empty set in front
abbrev pub widened : List ℕ → List ℕ
widened [] = []
widened (gap ∷ r) = suc gap ∷ r

-- with a set in front
abbrev pub set_before : List ℕ → List ℕ → List ℕ
set_before [] r = widened r
set_before (n ∷ set) r = 0 ∷ length (n ∷ set) ∷ ((n ∷ set) ++ r)

-- sets, written so that empty ones take no numbers of their own
abbrev pub packed : List (List ℕ) → List ℕ
packed [] = []
packed (set ∷ sets) = set_before set (packed sets)

-- with this many empty sets in front
abbrev pub wide : ℕ → List ℕ → List ℕ
wide k [] = []
wide k (gap ∷ r) = (k + gap) ∷ r

-- how many empty sets are first
abbrev pub first_gap : List ℕ → ℕ
first_gap [] = 0
first_gap (gap ∷ r) = gap

-- what is after that number
abbrev pub behind_gap : List ℕ → List ℕ
behind_gap [] = []
behind_gap (gap ∷ r) = r
