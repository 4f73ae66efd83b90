-- Points: packets with no tie between a number and its bits.
use Rattle.std.specs.Prelude.{ℕ, ◌≡◌, ◌<◌, ◌^◌, Bool, false, ◌==◌, if◌then◌else◌}
use Rattle.pq_fields.specs.declared.field.Field.{Field}
use Rattle.pq_fields.specs.Packet.{width_of}
use Rattle.pq_store.specs.declared.test.Test.{Test}
use Rattle.pq_store.specs.declared.test.Test.TheVariants.{Equal, Bit}
use Rattle.pq_store.specs.Test.{is_address}
use Rattle.pq_store.specs.Tree.{Tree}
use Rattle.pq_store.specs.Tree.Tree.{Tip, Fork}

-- a number for each field, and bits for each
pub record Point : Type 0 where
  pub number : Field → ℕ
  pub bit : Field → ℕ → Bool

-- whether the point passes the test
abbrev pub answer : Test → Point → Bool
answer (Equal f v) p = p.number f == v
answer (Bit f i) p = p.bit f i

-- the leaf that the point reaches
abbrev pub leaf_at : {L : Type 0} → Tree L → Point → L
leaf_at (Tip l) p = l
leaf_at (Fork t y n) p = if answer t p then leaf_at y p else leaf_at n p

-- the numbers of the fields that are not addresses fit their widths
abbrev pub InRange : Point → Type 0
InRange p = (f : Field) → is_address f ≡ false → p.number f < 2 ^ width_of f
