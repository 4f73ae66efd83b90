-- Packets with one field's number set: what tests say of them.
use Rattle.std.proofs.Common.{ℕ, ◌-◌, ◌/◌, ◌%◌, ◌^◌, ◌<◌, ◌≡◌, ◌∙◌, refl, ap, inl, inr, arith}
use Rattle.std.specs.Prelude.{◌==◌, if◌then◌else◌}
use Rattle.pq_fields.specs.declared.field.Field.{Field}
use Rattle.pq_fields.specs.Packet.{Numbers, number_in, with_number, rank, width_of}
use Rattle.pq_store.specs.declared.test.Test.{Test}
use Rattle.pq_store.specs.declared.test.Test.TheVariants.{Equal, Bit}
use Rattle.pq_store.specs.Test.{field_of, passes}
use Rattle.pq_store.specs.Tree.{Tree, value}
use Rattle.pq_store.specs.Tree.Tree.{Tip, Fork}
use Rattle.pq_store.specs.Diagram.{IsBefore, Ascends}
use Rattle.pq_store.proofs.Order.{rank_injective}
use Rattle.pq_store.proofs.PrefixNumbers.{number_with, number_with_other}
use Rattle.pq_apply.specs.Restricting.{decides, IsLater}

-- a test of the field answers by the number alone
pub passes_set : (s : Test) (f : Field) (v : ℕ) (x : Numbers) → rank (field_of s) ≡ rank f → passes s (with_number f v x) ≡ decides s v
passes_set (Equal g w) f v x same = ap (λ n. n == w) (ap (λ h. number_in h (with_number f v x)) (rank_injective g f same) ∙ number_with f v x)
passes_set (Bit g i) f v x same =
    ap (λ n. n / 2 ^ (width_of g - 1 - i) % 2 == 1) (ap (λ h. number_in h (with_number f v x)) (rank_injective g f same) ∙ number_with f v x)

-- a test of another field answers as before
pub passes_kept : (s : Test) (f : Field) (v : ℕ) (x : Numbers) → (rank (field_of s) ≡ rank f → ⊥) → passes s (with_number f v x) ≡ passes s x
passes_kept (Equal g w) f v x other = ap (λ n. n == w) (number_with_other f g v x other)
passes_kept (Bit g i) f v x other = ap (λ n. n / 2 ^ (width_of g - 1 - i) % 2 == 1) (number_with_other f g v x other)

module _ {L : Type 0} where
  -- what a test of a later field precedes is of a later field
  later_side : (f : Field) (s : Test) (side : Tree L) → rank f < rank (field_of s) → IsBefore s side → IsLater f side
  later_side f s (Tip l) later before = tt
  later_side f s (Fork r y n) later (inl less) = omega arith
  later_side f s (Fork r y n) later (inr less) = omega arith

  -- a diagram of later fields says the same
  pub later_same : (f : Field) (v : ℕ) (x : Numbers) (t : Tree L) → IsLater f t → Ascends t → value t (with_number f v x) ≡ value t x
  later_same f v x (Tip l) later ascends = refl
  later_same f v x (Fork s y n) later ascends =
      let test = passes_kept s f v x (λ e. omega arith) in
      let yes_same = later_same f v x y (later_side f s y later ascends.0) ascends.2 in
      let no_same = later_same f v x n (later_side f s n later ascends.1) ascends.3 in
      λ k. if test k then yes_same k else no_same k
