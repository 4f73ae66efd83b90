-- The tree that a node of a diagram stands for, and its value on a packet.
use Rattle.std.specs.Prelude.{◌≡◌, ◌⊎◌, ◌==◌, if◌then◌else◌}
use Rattle.pq_fields.specs.declared.field.Field.{Field}
use Rattle.pq_fields.specs.Packet.{Numbers, rank}
use Rattle.pq_store.specs.declared.test.Test.{Test}
use Rattle.pq_store.specs.declared.test.Test.TheVariants.{Equal, Bit}
use Rattle.pq_store.specs.Test.{passes}

-- a leaf, or a test with a yes side and a no side
pub data Tree (L : Type 0) : Type 0 where
  Tip : L → Tree L
  Fork : Test → Tree L → Tree L → Tree L

-- the leaf that the packet reaches
abbrev pub value : {L : Type 0} → Tree L → Numbers → L
value (Tip l) x = l
value (Fork t y n) x = if passes t x then value y x else value n x

-- the tree after the tests of the field's numbers at its front: each of them answers no
abbrev pub rest : {L : Type 0} → Field → Tree L → Tree L
rest f (Tip l) = Tip l
rest f (Fork (Equal g v) y n) = if rank f == rank g then rest f n else Fork (Equal g v) y n
rest f (Fork (Bit g i) y n) = Fork (Bit g i) y n

-- what a tree says of the packets that pass the test, where it asks the test's field only later
abbrev pub past : {L : Type 0} → Test → Tree L → Tree L
past (Equal f v) t = rest f t
past (Bit f i) t = t

-- the first tree is in the second
abbrev pub IsPartOf : {L : Type 0} → Tree L → Tree L → Type 0
IsPartOf t (Tip l) = t ≡ Tip l
IsPartOf t (Fork s y n) = (t ≡ Fork s y n) ⊎ (IsPartOf t y ⊎ IsPartOf t n)

-- the test is in the tree
abbrev pub IsTested : {L : Type 0} → Test → Tree L → Type 0
IsTested s (Tip l) = ⊥
IsTested s (Fork t y n) = (s ≡ t) ⊎ (IsTested s y ⊎ IsTested s n)
