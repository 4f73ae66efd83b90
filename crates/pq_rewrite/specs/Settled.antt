-- Trees that write: each number only into packets that have the field with another.
use Rattle.std.specs.Prelude.{ℕ, ◌≡◌, List, [], ◌∷◌, Option, None, Some, if◌then◌else◌}
use Rattle.pq_fields.specs.declared.field.Field.{Field}
use Rattle.pq_fields.specs.Packet.{Numbers, Fit}
use Rattle.pq_fields.specs.Writes.{Written, on, with_write, written_in}
use Rattle.pq_store.specs.Tree.{Tree, value}
use Rattle.pq_store.specs.Room.{Within}
use Rattle.pq_rewrite.specs.Choices.{differs}
use Rattle.pq_rewrite.specs.Rewriting.{CoversWrites, IsGiving}

-- the tree gives each packet written, and tests only the numbers of the writes and those in prerequisites
pub record IsSettled (w : Written) (t : Tree (List Written)) : Type 0 where
  pub giving : IsGiving (λ x y. y ≡ on w x) t
  pub tests : (ns : Field → List ℕ) → CoversWrites ns w → Within ns t

-- what is to be written, and the number for this field too where it changes the packet
abbrev pub with_change : Field → Option ℕ → Numbers → Written → Written
with_change f None x done = done
with_change f (Some n) x done = if differs f n x then with_write f n done else done

-- and so for each of these fields
abbrev pub with_changes : List Field → Written → Numbers → Written → Written
with_changes [] w x done = done
with_changes (f ∷ fs) w x done = with_changes fs w x (with_change f (written_in f w) x done)

-- the tree has on each packet what is to be written, and these fields of the writes where they change the packet
pub record IsSettledFrom (fs : List Field) (w done : Written) (t : Tree (List Written)) : Type 0 where
  pub gives : (x : Numbers) → Fit x → value t x ≡ with_changes fs w x done ∷ []
  pub tests : (ns : Field → List ℕ) → CoversWrites ns w → Within ns t
