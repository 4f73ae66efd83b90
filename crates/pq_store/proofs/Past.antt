-- What a diagram says past a test that precedes it.
use Rattle.std.proofs.Common.{◌≡◌, ℕ, suc, ◌+◌, ◌^◌, ◌<◌, ◌≤◌, true, false, List, [], ◌∷◌, ◌++◌, length, length-append, refl, sym, ◌∙◌, ap}
use Rattle.std.proofs.Common.{subst, inl, inr, eq-eqb, eqb-true, ne_eqb, arith}
use Rattle.std.specs.Prelude.{◌==◌, if◌then◌else◌}
use Rattle.std.proofs.Math.Nat.{le-max_right}
use Rattle.std.proofs.lemmas.Bool.Decides.{eqb_tells}
use Rattle.pq_fields.specs.declared.field.Field.{Field}
use Rattle.pq_fields.specs.Packet.{rank, width_of}
use Rattle.pq_store.specs.declared.test.Test.{Test}
use Rattle.pq_store.specs.declared.test.Test.TheVariants.{Equal, Bit}
use Rattle.pq_store.specs.Test.{is_address, IsLawful, field_of, Precedes}
use Rattle.pq_store.specs.Tree.{Tree, rest, past}
use Rattle.pq_store.specs.Tree.Tree.{Tip, Fork}
use Rattle.pq_store.specs.Diagram.{IsBefore, Ascends, Skips, SkipsBelow, counts, most, Fits, IsDiagram}
use Rattle.pq_store.proofs.Fresh.{IsNone, fresh}
use Rattle.pq_store.proofs.Point.{Point, answer, leaf_at, InRange}
use Rattle.pq_store.proofs.Order.{rank_injective, kinds_differ, before_side}
use Rattle.pq_store.proofs.Points.{set_number, number_is, no_point, IsTurned, number_turns, bit_turns}
use Rattle.pq_store.proofs.Sides.{no_diagram}

-- a number that is in neither of two lists is not in the first
none_left : (v : ℕ) (xs ys : List ℕ) → IsNone v (xs ++ ys) → IsNone v xs
none_left v [] ys none = tt
none_left v (x ∷ xs) ys none = (none.0, none_left v xs ys none.1)

-- nor in the second
none_right : (v : ℕ) (xs ys : List ℕ) → IsNone v (xs ++ ys) → IsNone v ys
none_right v [] ys none = none
none_right v (x ∷ xs) ys none = none_right v xs ys none.1

-- what a test of a later field precedes is of a later field
still_later : (f : Field) (s t : Test) → rank f < rank (field_of s) → Precedes s t → rank f < rank (field_of t)
still_later f s t later (inl less) = omega arith
still_later f s t later (inr less) = omega arith

-- what a test precedes is of its field or of a later one
later_field : (s t : Test) → Precedes s t → (rank (field_of s) ≡ rank (field_of t) → ⊥) → rank (field_of s) < rank (field_of t)
later_field s t (inl less) other = less
later_field s t (inr less) other = absurd (other less.0)

module _ {L : Type 0} where
  -- the numbers of the field that are tested at the front of the tree
  abbrev asked : Field → Tree L → List ℕ
  asked f (Tip l) = []
  asked f (Fork (Equal g w) y n) = if rank f == rank g then w ∷ asked f n else []
  asked f (Fork (Bit g i) y n) = []

  -- a point with none of them reaches the tree after
  asked_none : (f : Field) (t : Tree L) (p : Point) → IsNone (p.number f) (asked f t) → leaf_at t p ≡ leaf_at (rest f t) p
  asked_none f (Tip l) p none = refl
  asked_none f (Fork (Equal g w) y n) p none = elim (eqb_tells (rank f) (rank g)) [
    | inl same ↦
        let others : (p.number f ≡ w → ⊥) × IsNone (p.number f) (asked f n) = rw same.0 at none in
        let field : p.number g ≡ p.number f = ap p.number (sym (rank_injective f g same.1)) in
        rw same.0 (elim (eqb_tells (p.number g) w) [ inl is ↦ absurd (others.0 (sym field ∙ is.1)) | inr not ↦ rw not.0 (asked_none f n p others.1) ])
    | inr other ↦ rw other.0 refl
  ]
  asked_none f (Fork (Bit g i) y n) p none = refl

  -- a number whose test precedes the tree is none of them
  asked_others : (f : Field) (v : ℕ) (t : Tree L) → IsBefore (Equal f v) t → Ascends t → IsNone v (asked f t)
  asked_others f v (Tip l) first ascends = tt
  asked_others f v (Fork (Equal g w) y n) first ascends = elim (eqb_tells (rank f) (rank g)) [
    | inl same ↦ rw same.0 (differ first same.1, asked_others f v n (before_side (Equal f v) (Equal g w) n first ascends.1) ascends.3)
    | inr other ↦ rw other.0 tt
  ]
    where
      differ : Precedes (Equal f v) (Equal g w) → rank f ≡ rank g → v ≡ w → ⊥
      differ (inl less) same place = omega arith
      differ (inr less) same place = omega arith
  asked_others f v (Fork (Bit g i) y n) first ascends = tt

  -- there are no more of them than a path tests
  asked_few : (f : Field) (t : Tree L) → length (asked f t) ≤ most f t
  asked_few f (Tip l) = omega arith
  asked_few f (Fork (Equal g w) y n) = elim (eqb_tells (rank f) (rank g)) [
    | inl same ↦ let few = asked_few f n in rw (same.0) (omega (arith, le-max_right (most f y) (most f n)))
    | inr other ↦ rw other.0 (omega arith)
  ]
  asked_few f (Fork (Bit g i) y n) = omega arith

  -- where the answer is yes, a tree after the test says what it says past it
  pub hit : (s : Test) (t : Tree L) (p : Point) → answer s p ≡ true → IsBefore s t → Ascends t → leaf_at t p ≡ leaf_at (past s t) p
  hit (Equal f v) t p yes_is first ascends = asked_none f t p (rw (eqb-true (p.number f) v yes_is) (asked_others f v t first ascends))
  hit (Bit f i) t p yes_is first ascends = refl

  -- a tree after a test of a later field skips the field
  later_skips : (f : Field) (s : Test) (t : Tree L) → rank f < rank (field_of s) → IsBefore s t → Ascends t → Skips f t
  later_skips f s (Tip l) later first ascends = tt
  later_skips f s (Fork (Equal g w) y n) later first ascends =
      let below : rank f < rank g = still_later f s (Equal g w) later first in
      ((λ same. omega arith), later_skips f (Equal g w) y below ascends.0 ascends.2, later_skips f (Equal g w) n below ascends.1 ascends.3)
  later_skips f s (Fork (Bit g i) y n) later first ascends =
      let below : rank f < rank g = still_later f s (Bit g i) later first in
      (later_skips f (Bit g i) y below ascends.0 ascends.2, later_skips f (Bit g i) n below ascends.1 ascends.3)

  -- after the numbers of a field at its front a diagram skips the field
  rest_skips : (f : Field) (v : ℕ) (t : Tree L) → is_address f ≡ false → IsBefore (Equal f v) t → IsDiagram t → Skips f (rest f t)
  rest_skips f v (Tip l) number first d = tt
  rest_skips f v (Fork (Equal g w) y n) number first d = elim (eqb_tells (rank f) (rank g)) [
    | inl same ↦ rw same.0 (rest_skips f v n number (before_side (Equal f v) (Equal g w) n first d.ascends.1) (no_diagram (Equal g w) y n d))
    | inr other ↦
        let below : rank f < rank g = later_field (Equal f v) (Equal g w) first other.1 in
        rw other.0 (other.1, later_skips f (Equal g w) y below d.ascends.0 d.ascends.2, later_skips f (Equal g w) n below d.ascends.1 d.ascends.3)
  ]
  rest_skips f v (Fork (Bit g i) y n) number first d =
      let below : rank f < rank g = later_field (Equal f v) (Bit g i) first (kinds_differ f g number d.lawful.0.0) in
      (later_skips f (Bit g i) y below d.ascends.0 d.ascends.2, later_skips f (Bit g i) n below d.ascends.1 d.ascends.3)

  -- past a test of a number that precedes it a diagram skips the field
  pub past_skips : (s : Test) (t : Tree L) → IsLawful s → IsBefore s t → IsDiagram t → SkipsBelow s (past s t)
  past_skips (Equal f v) t lawful first d = rest_skips f v t lawful.0 first d
  past_skips (Bit f i) t lawful first d = tt

  -- the trees, the test and some more leave a number of the field
  abbrev pub LeavesNumber : ℕ → Test → Tree L → Tree L → Type 0
  LeavesNumber more (Equal f v) t u = suc (more + (most f t + most f u)) < 2 ^ width_of f
  LeavesNumber more (Bit f i) t u = Unit {0}

  -- where a test over one tree fits, and another tree fits, there is room
  pub room : (s : Test) (y t u : Tree L) → Fits (Fork s y t) → Fits u → LeavesNumber 0 s t u
  room (Equal f v) y t u fit other =
      let one : counts f (Equal f v) ≡ 1 = rw (eq-eqb (rank f) (rank f) refl) refl in
      omega (arith, fit f, other f, le-max_right (most f y) (most f t))
  room (Bit f i) y t u fit other = tt

  -- the number answers no to the test, and to the tests of its field at the front of the trees
  abbrev pub IsFree : Test → Tree L → Tree L → ℕ → Type 0
  IsFree (Equal f v) t u k = (k < 2 ^ width_of f) × (k ≡ v → ⊥) × IsNone k (asked f t) × IsNone k (asked f u)
  IsFree (Bit f i) t u k = Unit {0}

  -- with room there is one that is none of some more
  pub free_number : (s : Test) (t u : Tree L) (more : List ℕ) → LeavesNumber (length more) s t u → (k : ℕ) × IsFree s t u k × IsNone k more
  free_number (Equal f v) t u more has_room =
      let found = fresh (2 ^ width_of f) (v ∷ more ++ (asked f t ++ asked f u))
      (omega (arith, length-append more (asked f t ++ asked f u), length-append (asked f t) (asked f u), asked_few f t, asked_few f u)) in
      let none = none_right found.0 more (asked f t ++ asked f u) found.2.1 in (
        found.0,
        (found.1, found.2.0, none_left found.0 (asked f t) (asked f u) none, none_right found.0 (asked f t) (asked f u) none),
        none_left found.0 more (asked f t ++ asked f u) found.2.1,
      )
  free_number (Bit f i) t u more has_room =
      let found = fresh (suc (length more)) more (omega arith) in
      (found.0, tt, found.2)

  -- a point alike but for the test, to which it says no, where both trees say what they say past it
  pub record Misses (s : Test) (t u : Tree L) (p point : Point) : Type 0 where
    pub turned : IsTurned s false p point
    pub left : leaf_at t point ≡ leaf_at (past s t) point
    pub right : leaf_at u point ≡ leaf_at (past s u) point

  -- a free number makes one
  pub miss : (s : Test) (t u : Tree L) (k : ℕ) (p : Point) → IsFree s t u k → InRange p → Misses s t u p (no_point s k p)
  miss (Equal f v) t u k p free range =
      let is : (set_number f k p).number f ≡ k = number_is f k p in
      record {
        turned = number_turns f v k false p free.0 (ne_eqb k v free.1) range;
        left = asked_none f t (set_number f k p) (subst (λ m. IsNone m (asked f t)) (sym is) free.2);
        right = asked_none f u (set_number f k p) (subst (λ m. IsNone m (asked f u)) (sym is) free.3);
      }
  miss (Bit f i) t u k p free range = record { turned = bit_turns f i false p range; left = refl; right = refl }
