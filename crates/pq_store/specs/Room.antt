-- The numbers that come together in one diagram, and the room that each field has for them.
use Rattle.std.specs.Prelude.{ℕ, ◌-◌, ◌/◌, ◌^◌, ◌≤◌, ◌≡◌, false, List, length}
use Rattle.std.specs.List.{Any}
use Rattle.pq_fields.specs.declared.field.Field.{Field}
use Rattle.pq_fields.specs.Packet.{width_of}
use Rattle.pq_store.specs.declared.test.Test.{Test}
use Rattle.pq_store.specs.declared.test.Test.TheVariants.{Equal, Bit}
use Rattle.pq_store.specs.Test.{is_address}
use Rattle.pq_store.specs.Tree.{Tree, IsTested}

-- the number is among these
abbrev pub IsAmong : ℕ → List ℕ → Type 0
IsAmong v ns = Any (λ n. v ≡ n) ns

-- the number is among the field's, if the field is tested by whole numbers: addresses are tested by bits
abbrev pub IsCounted : (Field → List ℕ) → Field → ℕ → Type 0
IsCounted ns f v = is_address f ≡ false → IsAmong v (ns f)

-- the number that the test tests is among these
abbrev pub IsTestWithin : (Field → List ℕ) → Test → Type 0
IsTestWithin ns (Equal f v) = IsAmong v (ns f)
IsTestWithin ns (Bit f i) = Unit {0}

-- the numbers that the tree tests are among these
abbrev pub Within : {L : Type 0} → (Field → List ℕ) → Tree L → Type 0
Within ns t = (f : Field) (v : ℕ) → IsTested (Equal f v) t → IsAmong v (ns f)

-- of each field that is tested by whole numbers there are at most half of its numbers minus one
abbrev pub AreFew : (Field → List ℕ) → Type 0
AreFew ns = (f : Field) → is_address f ≡ false → length (ns f) ≤ 2 ^ width_of f / 2 - 1

-- some lists of numbers, few enough, satisfy this
pub record HasRoom (P : (Field → List ℕ) → Type 0) : Type 0 where
  pub numbers : Field → List ℕ
  pub few : AreFew numbers
  pub within : P numbers
