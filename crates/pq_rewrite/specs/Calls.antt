-- What the calls on trees over sets of writes promise.
use Rattle.std.specs.Prelude.{ℕ, ◌≡◌, ◌⊎◌, Bool, true, List, [], ◌∷◌, Some, slice_get}
use Rattle.pq_fields.specs.declared.field.Field.{Field}
use Rattle.pq_fields.specs.Packet.{Numbers, Fit}
use Rattle.pq_fields.specs.Writes.{Written, no_writes, on, with_write, written_in}
use Rattle.pq_store.specs.declared.test.Test.{Test}
use Rattle.pq_store.specs.Tree.{Tree, value, IsTested}
use Rattle.pq_store.specs.Store.{HasAt}
use Rattle.pq_store.specs.Room.{HasRoom, IsCounted, Within}
use Rattle.pq_apply.specs.Predicates.{NeedsAmong}
use Rattle.pq_apply.specs.Junction.{FitTogetherAll}
use Rattle.pq_rewrite.specs.Rewriting.{IsGiving, IsToWrite, IsIdleFree, Gives, Covers}

-- the tree at a place is idle-free
abbrev pub IsIdleFreeAt : List (Tree (List Written)) → ℕ → Type 0
IsIdleFreeAt ts k = (t : Tree (List Written)) → slice_get ts k ≡ Some t → IsIdleFree t

-- there is room for the numbers that a tree tests
abbrev pub FitsAloneAt : List (Tree Bool) → ℕ → Type 0
FitsAloneAt cs k = (c : Tree Bool) → slice_get cs k ≡ Some c → FitTogetherAll (c ∷ [])

-- the tree gives the packet where the condition holds, and nothing elsewhere
pub record IsKeeping (c : Tree Bool) (t : Tree (List Written)) : Type 0 where
  pub giving : IsGiving (λ x y. (value c x ≡ true) × (y ≡ x)) t
  pub tests : (s : Test) → IsTested s t → IsTested s c
  pub writes : (f : Field) (n : ℕ) → IsToWrite f n t → ⊥

abbrev pub KeepsWhereAt : List (Tree Bool) → ℕ → List (Tree (List Written)) → ℕ → Type 0
KeepsWhereAt cs k ts id = (c : Tree Bool) → slice_get cs k ≡ Some c → HasAt (IsKeeping c) ts id

-- the tree gives the packet with the number written into the field
pub record IsWriting (f : Field) (n : ℕ) (t : Tree (List Written)) : Type 0 where
  pub giving : IsGiving (λ x y. y ≡ on (with_write f n no_writes) x) t
  pub tests : (ns : Field → List ℕ) → IsCounted ns f n → NeedsAmong ns f → Within ns t
  pub writes : (g : Field) (m : ℕ) → IsToWrite g m t → (g ≡ f) × (m ≡ n)

-- the tree gives what one of two trees gives
pub record IsUnion (t u r : Tree (List Written)) : Type 0 where
  pub giving : IsGiving (λ x y. Gives t x y ⊎ Gives u x y) r
  pub tests : (s : Test) → IsTested s r → IsTested s t ⊎ IsTested s u
  pub writes : (f : Field) (n : ℕ) → IsToWrite f n r → IsToWrite f n t ⊎ IsToWrite f n u

abbrev pub UnitesAt : List (Tree (List Written)) → ℕ → ℕ → List (Tree (List Written)) → ℕ → Type 0
UnitesAt old i j new id =
    (t u : Tree (List Written)) → slice_get old i ≡ Some t → slice_get old j ≡ Some u → HasAt (IsUnion t u) new id

-- two trees may come in sequence: there is room for what they test and write, and for the prerequisites of what they write
abbrev pub FitInSequence : Tree (List Written) → Tree (List Written) → Type 0
FitInSequence t u = HasRoom (λ ns. Covers ns t × Covers ns u)

abbrev pub FitInSequenceAt : List (Tree (List Written)) → ℕ → ℕ → Type 0
FitInSequenceAt ts i j = (t u : Tree (List Written)) → slice_get ts i ≡ Some t → slice_get ts j ≡ Some u → FitInSequence t u

-- the tree gives what the second gives on what the first gives
pub record IsSequence (t u r : Tree (List Written)) : Type 0 where
  pub giving : IsGiving (λ x y. (z : Numbers) × Gives t x z × Gives u z y) r
  pub tests : (ns : Field → List ℕ) → Covers ns t → Covers ns u → Within ns r
  pub writes : (f : Field) (n : ℕ) → IsToWrite f n r → IsToWrite f n t ⊎ IsToWrite f n u

abbrev pub SequencesAt : List (Tree (List Written)) → ℕ → ℕ → List (Tree (List Written)) → ℕ → Type 0
SequencesAt old i j new id =
    (t u : Tree (List Written)) → slice_get old i ≡ Some t → slice_get old j ≡ Some u → HasAt (IsSequence t u) new id

-- the numbers in prerequisites of the fields that are written are among these
abbrev pub NeedsOf : (Field → List ℕ) → Written → Type 0
NeedsOf ns w = (f : Field) (n : ℕ) → written_in f w ≡ Some n → NeedsAmong ns f

module _ {M : Type 0} where
  -- a tree may come after writes: there is room for the numbers that it tests, and those in prerequisites of the fields that are written
  abbrev pub FitsAfter : Written → Tree M → Type 0
  FitsAfter w t = HasRoom (λ ns. Within ns t × NeedsOf ns w)

  abbrev pub FitsAfterAt : Written → List (Tree M) → ℕ → Type 0
  FitsAfterAt w ts k = (t : Tree M) → slice_get ts k ≡ Some t → FitsAfter w t

  -- the tree has on each packet the value of the other on the packet written
  pub record IsAfter (w : Written) (t r : Tree M) : Type 0 where
    pub gives : (x : Numbers) → Fit x → value r x ≡ value t (on w x)
    pub tests : (ns : Field → List ℕ) → Within ns t → NeedsOf ns w → Within ns r

  abbrev pub ComesAfterAt : Written → List (Tree M) → ℕ → List (Tree M) → ℕ → Type 0
  ComesAfterAt w from k into id = (t : Tree M) → slice_get from k ≡ Some t → HasAt (IsAfter w t) into id
