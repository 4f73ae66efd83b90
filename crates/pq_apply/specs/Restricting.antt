-- The steps by which a field's number is set in a diagram.
use Rattle.std.specs.Prelude.{ℕ, ◌≤◌, ◌<◌, ◌≡◌, Bool, List, Some, slice_get, ◌==◌, if◌then◌else◌}
use Rattle.pq_fields.specs.declared.field.Field.{Field}
use Rattle.pq_fields.specs.Packet.{rank}
use Rattle.pq_store.specs.declared.test.Test.{Test}
use Rattle.pq_store.specs.declared.test.Test.TheVariants.{Equal, Bit}
use Rattle.pq_store.specs.Test.{field_of}
use Rattle.pq_store.specs.Tree.{Tree}
use Rattle.pq_store.specs.Tree.Tree.{Tip, Fork}
use Rattle.pq_store.specs.Diagram.{most}
use Rattle.pq_store.specs.Store.{ShowsBranch}
use Rattle.pq_apply.specs.Atoms.{bit_at}
use Rattle.pq_apply.specs.Restriction.{IsRestriction}
use Rattle.pq_apply.specs.declared.restriction.Step.{Step}
use Rattle.pq_apply.specs.declared.restriction.Step.TheVariants.{Keep, Side, Both}

-- the answer to a test of a field with this number
abbrev pub decides : Test → ℕ → Bool
decides (Equal g w) v = v == w
decides (Bit g i) v = bit_at g v i

-- the root is of a later field
abbrev pub IsLater : {L : Type 0} → Field → Tree L → Type 0
IsLater f (Tip l) = Unit {0}
IsLater f (Fork s y n) = rank f < rank (field_of s)

module _ {L : Type 0} where
  -- what is to be done at a place: nothing, to go to a side, or to set the number in both sides
  abbrev pub StepsAt : Field → ℕ → List (Tree L) → ℕ → Step → Type 0
  StepsAt f v ts k Keep = (t : Tree L) × (slice_get ts k ≡ Some t) × IsLater f t
  StepsAt f v ts k (Side next) =
      (s : Test) × (i : ℕ) × (j : ℕ) × ShowsBranch ts k s i j × (rank (field_of s) ≡ rank f) × (next ≡ (if decides s v then i else j))
  StepsAt f v ts k (Both s i j) = ShowsBranch ts k s i j × (rank (field_of s) < rank f)

  -- one place has the restriction of the tree at another, with no more numbers on a path
  pub record IsRestrictedAt (f : Field) (v : ℕ) (ts : List (Tree L)) (k id : ℕ) : Type 0 where
    pub tree : Tree L
    pub restricted : Tree L
    pub tree_is : slice_get ts k ≡ Some tree
    pub restricted_is : slice_get ts id ≡ Some restricted
    pub restricts : IsRestriction f v tree restricted
    pub few : (g : Field) → most g restricted ≤ most g tree
