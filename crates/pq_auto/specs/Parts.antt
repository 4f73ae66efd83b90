-- Places that are parted by their keys: those with one key are in one class, and classes are numbered by their first places.
use Rattle.std.specs.Prelude.{ℕ, ◌<◌, ◌≤◌, ◌≡◌, ◌⊎◌, List, [], ◌∷◌, ◌++◌, length, Some, slice_get}
use Rattle.std.proofs.Math.ListN.{get_or}

-- the key of each class, the class of each place, and the first place of each class
pub record Parts : Type 0 where
  pub seen : List (List ℕ)
  pub classes : List ℕ
  pub firsts : List ℕ

-- the class of a place
abbrev pub class_of : Parts → ℕ → ℕ
class_of p i = get_or p.classes i 0

-- the first place of a class
abbrev pub first_of : Parts → ℕ → ℕ
first_of p c = get_or p.firsts c 0

-- the parts are those of these keys
pub record IsParted (key : ℕ → List ℕ) (p : Parts) : Type 0 where
  pub each : length p.seen ≡ length p.firsts
  pub keyed : (i : ℕ) → i < length p.classes → slice_get p.seen (class_of p i) ≡ Some (key i)
  pub together : (i j : ℕ) → i < length p.classes → j < length p.classes → key i ≡ key j → class_of p i ≡ class_of p j
  pub within : (c : ℕ) → c < length p.firsts → first_of p c < length p.classes
  pub first : (c : ℕ) → c < length p.firsts → class_of p (first_of p c) ≡ c
  pub least : (i : ℕ) → i < length p.classes → first_of p (class_of p i) ≤ i
  pub ascend : (c d : ℕ) → c < d → d < length p.firsts → first_of p c < first_of p d

-- the number of a key among those seen: that of an equal one, or the next
abbrev pub GivesNumber : List (List ℕ) → List ℕ → ℕ → List (List ℕ) → Type 0
GivesNumber old key c new =
    ((new ≡ old) × (slice_get old c ≡ Some key)) ⊎ ((new ≡ old ++ key ∷ []) × (c ≡ length old) × ((d : ℕ) → slice_get old d ≡ Some key → ⊥))
