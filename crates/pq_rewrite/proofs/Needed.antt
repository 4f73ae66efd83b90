-- The numbers of writes, and those in prerequisites, are few.
use Rattle.std.proofs.Common.{ℕ, ◌≤◌, ◌≡◌, List, [], ◌∷◌, length, Option, None, Some, refl, arith}
use Rattle.pq_fields.specs.declared.field.Field.{Field}
use Rattle.pq_fields.specs.Writes.{Written, written_in}
use Rattle.pq_store.specs.Room.{AreFew, IsAmong}
use Rattle.pq_store.proofs.RoomLemmas.{roomy}
use Rattle.pq_apply.proofs.Required.{needs_among}
use Rattle.pq_rewrite.specs.Rewriting.{CoversWrites}

-- the numbers in prerequisites
abbrev needed : List ℕ
needed = 0x0800 ∷ 0x86dd ∷ 6 ∷ 17 ∷ []

-- they, and a number to write where there is one
abbrev and_needed : Option ℕ → List ℕ
and_needed None = needed
and_needed (Some n) = n ∷ needed

-- the numbers to write into each field, and those in prerequisites
abbrev pub numbers_of : Written → Field → List ℕ
numbers_of w f = and_needed (written_in f w)

-- each number to write is among them
written_among : (o : Option ℕ) (n : ℕ) → o ≡ Some n → IsAmong n (and_needed o)
written_among None n is = absurd cc
written_among (Some m) n is = (0, m, omega arith, refl, cc)

-- and so are those in prerequisites
pub numbers_cover : (w : Written) → CoversWrites (numbers_of w) w
numbers_cover w f n is = (
  λ whole. written_among (written_in f w) n is,
  needs_among (numbers_of w) (0, 0x0800, omega arith, refl, refl) (1, 0x86dd, omega arith, refl, refl) (2, 6, omega arith, refl, refl)
      (3, 17, omega arith, refl, refl) f,
)

-- these are few
few_each : (o : Option ℕ) → length (and_needed o) ≤ 9
few_each None = omega arith
few_each (Some n) = omega arith

-- so there are few of each field
pub numbers_few : (w : Written) → AreFew (numbers_of w)
numbers_few w f whole = omega (arith, few_each (written_in f w), roomy f)
