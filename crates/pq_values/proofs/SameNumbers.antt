-- Numbers of fields that compare as equal are the same.
use Rattle.std.proofs.Common.{◌≡◌, ℕ, ◌==◌, ◌&&◌, Bool, true, false, rules, refl, sym, ap, ◌∙◌, inl, inr}
use Rattle.std.specs.contracts.prelude.U64PartialEq.TheImpl.{ghosts as u64s}
use Rattle.std.proofs.lemmas.Bool.{true≢false}
use Rattle.std.proofs.lemmas.Bool.Decides.{eqb_tells}
use denote.Enum.Bare.{same_true, true_same}
use Rattle.pq_fields.specs.declared.field.Field.{Field}
use Rattle.pq_fields.specs.contracts.field.Field.{the_type}
use Rattle.pq_fields.specs.contracts.field.FieldPartialEq.TheImpl.{ghosts as fields}
use Rattle.pq_fields.specs.Packet.{rank}
use Rattle.pq_query.specs.Resolved.{is_field}
use Rattle.pq_store.proofs.Order.{rank_injective}
use Rattle.pq_values.specs.Known.{is_same}
use Rattle.pq_values.specs.Stated.{Stated}

-- fields compare as equal where they are one
pub field_tells : (f g : Field) → fields.eq f g ≡ is_field f g
field_tells f g = by (fields.eq f g) refl
  where
    by : (b : Bool) → fields.eq f g ≡ b → b ≡ is_field f g
    by true is = elim (eqb_tells (rank f) (rank g)) [
      | inl same ↦ sym same.0
      | inr other ↦ absurd (other.1 (ap rank (same_true the_type (search rules) f g is)))
    ]
    by false is = elim (eqb_tells (rank f) (rank g)) [
      | inl same ↦ absurd (true≢false (sym (true_same the_type f g (rank_injective f g same.1)) ∙ is))
      | inr other ↦ sym other.0
    ]

-- so do numbers of fields
pub pair_tells : (f : Field) (n : ℕ) → (λ (s : Stated). fields.eq f s.0 && u64s.eq n s.1) ≡ is_same (f, n)
pair_tells f n = λ i s. field_tells f s.0 i && (n == s.1)
