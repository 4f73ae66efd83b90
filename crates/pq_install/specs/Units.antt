-- The first unit that is missing, cut or unlawful after the units before it.
use Rattle.std.specs.Prelude.{◌≡◌, ℕ, ◌<◌, ◌≤◌, ◌⊎◌, List, [], ◌∷◌, ◌++◌, length}
use Rattle.std.specs.Int.{w16, to_be_bytes}
use Rattle.std.specs.List.{flat_map}
use Rattle.pq_install.specs.declared.fault.Fault.{Fault}
use Rattle.pq_install.specs.declared.fault.Fault.TheVariants.{Damaged, Memory}
use Rattle.pq_install.specs.Front.{NoneAtFront, IsAtFront, counted_by}

-- no lawful unit is at the front, and this many bytes are left there
abbrev pub UnitFails : {X : Type 0} → (X → Type 0) → (X → List ℕ) → List ℕ → ℕ → Type 0
UnitFails P spell bytes left = (left ≡ length bytes) × NoneAtFront P spell bytes

-- of this many units some are at the front that together keep the rules, and no further one does
abbrev pub ListFails : {X : Type 0} → (List X → Type 0) → (X → List ℕ) → ℕ → List ℕ → ℕ → Type 0
ListFails {X} Rules spell count bytes left = (xs : List X) × (rest : List ℕ) × (length xs < count)
    × IsAtFront Rules (flat_map spell) bytes xs rest × UnitFails (λ x. Rules (xs ++ x ∷ [])) spell rest left

-- at most this many units that together keep the rules are at the front, after their count
abbrev pub IsSection : {X : Type 0} → ℕ → (List X → Type 0) → (X → List ℕ) → List ℕ → List X → List ℕ → Type 0
IsSection most Rules spell bytes xs rest = IsAtFront (λ ys. (length ys ≤ most) × Rules ys) (counted_by w16 spell) bytes xs rest

-- the count fails, or one of the units
abbrev pub CountedFails : {X : Type 0} → ℕ → (List X → Type 0) → (X → List ℕ) → List ℕ → ℕ → Type 0
CountedFails most Rules spell bytes left =
    UnitFails (λ n. n ≤ most) (to_be_bytes w16) bytes left ⊎
    ((count : ℕ) × (rest : List ℕ) × IsAtFront (λ n. n ≤ most) (to_be_bytes w16) bytes count rest × ListFails Rules spell count rest left)

-- what a fault tells is true of it; running out of memory has no cause
abbrev pub Tells : (ℕ → Type 0) → Fault → Type 0
Tells Fails (Damaged left) = Fails left
Tells Fails Memory = Unit {0}
