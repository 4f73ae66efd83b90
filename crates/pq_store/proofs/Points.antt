-- Points that differ in what one test asks.
use Rattle.std.proofs.Common.{◌≡◌, ℕ, ◌^◌, ◌<◌, Bool, true, false, refl, ◌∙◌, ap, subst, inl, inr, eq-eqb, arith}
use Rattle.std.specs.Prelude.{◌==◌, ◌&&◌, if◌then◌else◌}
use Rattle.std.proofs.lemmas.Bool.Decides.{eqb_tells}
use Rattle.pq_fields.specs.declared.field.Field.{Field}
use Rattle.pq_fields.specs.Packet.{rank, width_of}
use Rattle.pq_store.specs.declared.test.Test.{Test}
use Rattle.pq_store.specs.declared.test.Test.TheVariants.{Equal, Bit}
use Rattle.pq_store.specs.Test.{IsLawful, Precedes}
use Rattle.pq_store.specs.Tree.{Tree}
use Rattle.pq_store.specs.Tree.Tree.{Tip, Fork}
use Rattle.pq_store.specs.Diagram.{IsBefore, Ascends, SkipsBelow}
use Rattle.pq_store.proofs.Point.{Point, answer, leaf_at, InRange}
use Rattle.pq_store.proofs.Order.{rank_injective, before_side}

-- the point with another number in a field
abbrev pub set_number : Field → ℕ → Point → Point
set_number f v p = record { number = λ g. if rank f == rank g then v else p.number g; bit = p.bit }

-- the point with another bit at a place of a field
abbrev pub set_bit : Field → ℕ → Bool → Point → Point
set_bit f i b p = record { number = p.number; bit = λ g j. if (rank f == rank g) && (i == j) then b else p.bit g j }

-- the second test asks for something else than the first: for another field's number, or for another bit
abbrev pub IsApart : Test → Test → Type 0
IsApart (Equal f v) (Equal g w) = rank f ≡ rank g → ⊥
IsApart (Equal f v) (Bit g j) = Unit {0}
IsApart (Bit f i) (Equal g w) = Unit {0}
IsApart (Bit f i) (Bit g j) = rank f ≡ rank g → i ≡ j → ⊥

-- the points answer alike but for what the test asks
abbrev pub AreAlike : Test → Point → Point → Type 0
AreAlike s p q = (t : Test) → IsApart s t → answer t p ≡ answer t q

-- a point in range with one answer to the test, and alike another but for it
pub record IsTurned (s : Test) (b : Bool) (p q : Point) : Type 0 where
  pub in_range : InRange q
  pub answers : answer s q ≡ b
  pub alike : AreAlike s p q

-- a number that fits its field keeps the point in range
number_in_range : (f : Field) (k : ℕ) (p : Point) → k < 2 ^ width_of f → InRange p → InRange (set_number f k p)
number_in_range f k p fits range g whole = elim (eqb_tells (rank f) (rank g)) [
  | inl same ↦ rw same.0 (subst (λ h. k < 2 ^ width_of h) (rank_injective f g same.1) fits)
  | inr other ↦ rw other.0 (range g whole)
]

-- the number is set
pub number_is : (f : Field) (k : ℕ) (p : Point) → (set_number f k p).number f ≡ k
number_is f k p = rw (eq-eqb (rank f) (rank f) refl) refl

-- another number of the field changes only answers to tests of it
number_alike : (f : Field) (v k : ℕ) (p : Point) → AreAlike (Equal f v) p (set_number f k p)
number_alike f v k p (Equal g w) apart = elim (eqb_tells (rank f) (rank g)) [ inl same ↦ absurd (apart same.1) | inr other ↦ rw other.0 refl ]
number_alike f v k p (Bit g j) apart = refl

-- another number of the test's field turns the point
pub number_turns : (f : Field) (v k : ℕ) (b : Bool) (p : Point) → k < 2 ^ width_of f → (k == v) ≡ b → InRange p → IsTurned (Equal f v) b p (set_number f k p)
number_turns f v k b p fits answers range = record {
  in_range = number_in_range f k p fits range;
  answers = ap (λ n. n == v) (number_is f k p) ∙ answers;
  alike = number_alike f v k p;
}

-- the bit is set
bit_is : (f : Field) (i : ℕ) (b : Bool) (p : Point) → (set_bit f i b p).bit f i ≡ b
bit_is f i b p = rw (eq-eqb (rank f) (rank f) refl, eq-eqb i i refl) refl

-- another bit changes only answers to tests of it
bit_alike : (f : Field) (i : ℕ) (b : Bool) (p : Point) → AreAlike (Bit f i) p (set_bit f i b p)
bit_alike f i b p (Equal g w) apart = refl
bit_alike f i b p (Bit g j) apart = elim (eqb_tells (rank f) (rank g)) [
  | inl same ↦ elim (eqb_tells i j) [ inl place ↦ absurd (apart same.1 place.1) | inr other ↦ rw (same.0, other.0) refl ]
  | inr other ↦ rw other.0 refl
]

-- another bit at the test's place turns the point
pub bit_turns : (f : Field) (i : ℕ) (b : Bool) (p : Point) → InRange p → IsTurned (Bit f i) b p (set_bit f i b p)
bit_turns f i b p range = record { in_range = range; answers = bit_is f i b p; alike = bit_alike f i b p }

-- a point that passes the test
abbrev pub yes_point : Test → Point → Point
yes_point (Equal f v) p = set_number f v p
yes_point (Bit f i) p = set_bit f i true p

-- the point with this number, or without the bit
abbrev pub no_point : Test → ℕ → Point → Point
no_point (Equal f v) k p = set_number f k p
no_point (Bit f i) k p = set_bit f i false p

-- a point that passes the test is alike but for the test
pub yes_turns : (s : Test) (p : Point) → IsLawful s → InRange p → IsTurned s true p (yes_point s p)
yes_turns (Equal f v) p lawful range = number_turns f v v true p lawful.1 (eq-eqb v v refl) range
yes_turns (Bit f i) p lawful range = bit_turns f i true p range

module _ {L : Type 0} where
  -- a test is apart from those after it that ask for another field's number, or for another bit
  pub apart : (s t : Test) (y n : Tree L) → Precedes s t → SkipsBelow s (Fork t y n) → IsApart s t
  apart (Equal f v) (Equal g w) y n first skips = skips.0
  apart (Equal f v) (Bit g j) y n first skips = tt
  apart (Bit f i) (Equal g w) y n first skips = tt
  apart (Bit f i) (Bit g j) y n (inl less) skips = λ same place. omega arith
  apart (Bit f i) (Bit g j) y n (inr less) skips = λ same place. omega arith

  -- what skips the field, skips it in the yes side
  pub skips_yes : (s t : Test) (y n : Tree L) → SkipsBelow s (Fork t y n) → SkipsBelow s y
  skips_yes (Equal f v) (Equal g w) y n skips = skips.1
  skips_yes (Equal f v) (Bit g j) y n skips = skips.0
  skips_yes (Bit f i) t y n skips = tt

  -- what skips the field, skips it in the no side
  pub skips_no : (s t : Test) (y n : Tree L) → SkipsBelow s (Fork t y n) → SkipsBelow s n
  skips_no (Equal f v) (Equal g w) y n skips = skips.2
  skips_no (Equal f v) (Bit g j) y n skips = skips.1
  skips_no (Bit f i) t y n skips = tt

  -- a tree after the test that skips its field says the same at points that are alike but for it
  pub says_same : (s : Test) (t : Tree L) (p q : Point) → AreAlike s p q → IsBefore s t → Ascends t → SkipsBelow s t → leaf_at t p ≡ leaf_at t q
  says_same s (Tip l) p q alike first ascends skips = refl
  says_same s (Fork t y n) p q alike first ascends skips =
      let yes_same = says_same s y p q alike (before_side s t y first ascends.0) ascends.2 (skips_yes s t y n skips) in
      let no_same = says_same s n p q alike (before_side s t n first ascends.1) ascends.3 (skips_no s t y n skips) in
      rw (alike t (apart s t y n first skips), yes_same, no_same) refl
