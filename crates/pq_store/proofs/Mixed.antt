-- Points that answer the tests before one as a first point does, and the others as a second.
use Rattle.std.proofs.Common.{◌≡◌, ◌≤◌, ◌<◌, ◌^◌, ℕ, Bool, true, false, refl, sym, ap, inl, inr, eq-eqb, ne_eqb, arith}
use Rattle.std.specs.Prelude.{◌==◌, ◌&&◌, ◌||◌, if◌then◌else◌, nat_lt}
use Rattle.std.proofs.lemmas.Bool.{ltb-true, lt-ltb}
use Rattle.pq_fields.specs.declared.field.Field.{Field}
use Rattle.pq_fields.specs.Packet.{rank, width_of}
use Rattle.pq_store.specs.declared.test.Test.{Test}
use Rattle.pq_store.specs.declared.test.Test.TheVariants.{Equal, Bit}
use Rattle.pq_store.specs.Test.{field_of, place_of, IsLawful, Precedes}
use Rattle.pq_store.specs.Tree.{Tree}
use Rattle.pq_store.specs.Tree.Tree.{Tip, Fork}
use Rattle.pq_store.specs.Diagram.{IsBefore, Ascends}
use Rattle.pq_store.proofs.Point.{Point, answer, leaf_at, InRange}
use Rattle.pq_store.proofs.Order.{kinds_differ, before_side}
use Rattle.pq_store.proofs.Points.{IsApart}

-- no number is below one that is at most as large
not_less : (a b : ℕ) → b ≤ a → nat_lt a b ≡ false
not_less a b large = by (nat_lt a b) refl
  where
    by : (c : Bool) → nat_lt a b ≡ c → nat_lt a b ≡ false
    by true is = absurd (omega (arith, ltb-true a b is))
    by false is = is

-- before the test as the first point, from it on as the second
abbrev pub mixed : Test → Point → Point → Point
mixed s x p = record {
  number = λ g. if nat_lt (rank g) (rank (field_of s)) then x.number g else p.number g;
  bit = λ g j. if nat_lt (rank g) (rank (field_of s)) || ((rank g == rank (field_of s)) && nat_lt j (place_of s)) then x.bit g j else p.bit g j;
}

-- numbers of earlier fields are those of the first point
pub early_number : (s : Test) (x p : Point) (g : Field) → rank g < rank (field_of s) → (mixed s x p).number g ≡ x.number g
early_number s x p g less = rw (lt-ltb (rank g) (rank (field_of s)) less) refl

-- numbers of others are those of the second
late_number : (s : Test) (x p : Point) (g : Field) → rank (field_of s) ≤ rank g → (mixed s x p).number g ≡ p.number g
late_number s x p g later = rw (not_less (rank g) (rank (field_of s)) later) refl

-- the point is in range
pub mixed_in_range : (s : Test) (x p : Point) → InRange x → InRange p → InRange (mixed s x p)
mixed_in_range s x p x_in p_in g whole = by (nat_lt (rank g) (rank (field_of s)))
  where
    by : (b : Bool) → (if b then x.number g else p.number g) < 2 ^ width_of g
    by true = x_in g whole
    by false = p_in g whole

-- to a test that precedes the one, and asks for something else, it answers as the first point
pub mixed_early : (r s : Test) (x p : Point) → Precedes r s → IsApart r s → IsLawful r → IsLawful s → answer r (mixed s x p) ≡ answer r x
mixed_early (Equal g w) s x p (inl less) apart r_is s_is = ap (λ n. n == w) (early_number s x p g less)
mixed_early (Equal g w) (Equal h v) x p (inr same) apart r_is s_is = absurd (apart same.0)
mixed_early (Equal g w) (Bit h i) x p (inr same) apart r_is s_is = absurd (kinds_differ g h r_is.0 s_is.0 same.0)
mixed_early (Bit g j) s x p (inl less) apart r_is s_is = rw (lt-ltb (rank g) (rank (field_of s)) less) refl
mixed_early (Bit g j) s x p (inr same) apart r_is s_is =
    rw (not_less (rank g) (rank (field_of s)) (omega arith), eq-eqb (rank g) (rank (field_of s)) same.0, lt-ltb j (place_of s) same.1) refl

-- to a test that the one precedes it answers as the second point
mixed_late : (s t : Test) (x p : Point) → Precedes s t → answer t (mixed s x p) ≡ answer t p
mixed_late s (Equal g w) x p (inl less) = ap (λ n. n == w) (late_number s x p g (omega arith))
mixed_late s (Equal g w) x p (inr same) = ap (λ n. n == w) (late_number s x p g (omega arith))
mixed_late s (Bit g j) x p (inl less) = rw (not_less (rank g) (rank (field_of s)) (omega arith), ne_eqb (rank g) (rank (field_of s)) (λ e. omega arith)) refl
mixed_late s (Bit g j) x p (inr same) =
    rw (not_less (rank g) (rank (field_of s)) (omega arith), eq-eqb (rank g) (rank (field_of s)) (sym same.0), not_less j (place_of s) (omega arith)) refl

module _ {L : Type 0} where
  -- a tree after the test says what it says at the second point
  pub mixed_same : (s : Test) (x p : Point) (t : Tree L) → IsBefore s t → Ascends t → leaf_at t (mixed s x p) ≡ leaf_at t p
  mixed_same s x p (Tip l) first ascends = refl
  mixed_same s x p (Fork t y n) first ascends =
      let yes_same = mixed_same s x p y (before_side s t y first ascends.0) ascends.2 in
      let no_same = mixed_same s x p n (before_side s t n first ascends.1) ascends.3 in
      rw (mixed_late s t x p first, yes_same, no_same) refl
