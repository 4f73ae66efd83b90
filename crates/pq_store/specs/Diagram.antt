-- Which trees are diagrams: for each function from packets there is at most one.
use Rattle.std.specs.Prelude.{ℕ, ◌+◌, ◌-◌, ◌/◌, ◌^◌, ◌≤◌, ◌≡◌, ◌==◌, if◌then◌else◌, max}
use Rattle.pq_fields.specs.declared.field.Field.{Field}
use Rattle.pq_fields.specs.Packet.{rank, width_of}
use Rattle.pq_store.specs.declared.test.Test.{Test}
use Rattle.pq_store.specs.declared.test.Test.TheVariants.{Equal, Bit}
use Rattle.pq_store.specs.Test.{IsLawful, Precedes}
use Rattle.pq_store.specs.Tree.{Tree, past}
use Rattle.pq_store.specs.Tree.Tree.{Tip, Fork}

abbrev pub AllLawful : {L : Type 0} → Tree L → Type 0
AllLawful (Tip l) = Unit {0}
AllLawful (Fork t y n) = IsLawful t × AllLawful y × AllLawful n

-- the test precedes the one at the root
abbrev pub IsBefore : {L : Type 0} → Test → Tree L → Type 0
IsBefore s (Tip l) = Unit {0}
IsBefore s (Fork t y n) = Precedes s t

-- tests ascend on every path
abbrev pub Ascends : {L : Type 0} → Tree L → Type 0
Ascends (Tip l) = Unit {0}
Ascends (Fork t y n) = IsBefore t y × IsBefore t n × Ascends y × Ascends n

-- no number of the field is tested
abbrev pub Skips : {L : Type 0} → Field → Tree L → Type 0
Skips f (Tip l) = Unit {0}
Skips f (Fork (Equal g v) y n) = (rank f ≡ rank g → ⊥) × Skips f y × Skips f n
Skips f (Fork (Bit g i) y n) = Skips f y × Skips f n

-- no number of the test's field is tested, where the test is of a number
abbrev pub SkipsBelow : {L : Type 0} → Test → Tree L → Type 0
SkipsBelow (Equal f v) t = Skips f t
SkipsBelow (Bit f i) t = Unit {0}

-- below the yes side of a test of a number no number of that field is tested
abbrev pub AsksOnce : {L : Type 0} → Tree L → Type 0
AsksOnce (Tip l) = Unit {0}
AsksOnce (Fork t y n) = SkipsBelow t y × AsksOnce y × AsksOnce n

-- the sides are equal: the packets that pass the test reach what they would reach past it
abbrev pub HasEqualSides : {L : Type 0} → Test → Tree L → Tree L → Type 0
HasEqualSides t y n = y ≡ past t n

-- no node has equal sides
abbrev pub IsReduced : {L : Type 0} → Tree L → Type 0
IsReduced (Tip l) = Unit {0}
IsReduced (Fork t y n) = (HasEqualSides t y n → ⊥) × IsReduced y × IsReduced n

-- 1 for a test of a number of the field
abbrev pub counts : Field → Test → ℕ
counts f (Equal g v) = if rank f == rank g then 1 else 0
counts f (Bit g i) = 0

-- the most numbers of the field that a path tests
abbrev pub most : {L : Type 0} → Field → Tree L → ℕ
most f (Tip l) = 0
most f (Fork t y n) = counts f t + max (most f y) (most f n)

-- no path tests more than half of a field's numbers minus one
abbrev pub Fits : {L : Type 0} → Tree L → Type 0
Fits t = (f : Field) → most f t ≤ 2 ^ width_of f / 2 - 1

-- the one tree of its value (Bryant 1986, with tests of whole numbers beside those of bits)
pub record IsDiagram {L : Type 0} (t : Tree L) : Type 0 where
  pub lawful : AllLawful t
  pub ascends : Ascends t
  pub asks_once : AsksOnce t
  pub reduced : IsReduced t
  pub fits : Fits t
