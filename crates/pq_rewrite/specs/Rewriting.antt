-- Trees over sets of writes: what they give on a packet, and which of them are idle-free.
use Rattle.std.specs.Prelude.{ℕ, ◌≡◌, ◌↔◌, List, Some, slice_get, true}
use Rattle.std.specs.List.{All, AllPairs, Any}
use Rattle.std.specs.declared.cmp.Ordering.TheVariants.{Less}
use Rattle.pq_fields.specs.declared.field.Field.{Field}
use Rattle.pq_fields.specs.Order.{writes_cmp}
use Rattle.pq_fields.specs.Packet.{Numbers, Fit, has_field, number_in}
use Rattle.pq_fields.specs.Writes.{Written, AllFit, on, written_in}
use Rattle.pq_store.specs.Tree.{Tree, value}
use Rattle.pq_store.specs.Room.{IsCounted, Within}
use Rattle.pq_apply.specs.Predicates.{NeedsAmong}

-- each is before all after it, so each is once
abbrev pub Ascend : List Written → Type 0
Ascend ws = AllPairs (λ v w. writes_cmp v w ≡ Less) ws

-- the packet has each field that is written, with another number
abbrev pub ChangesAll : Numbers → Written → Type 0
ChangesAll x w = (f : Field) (n : ℕ) → written_in f w ≡ Some n → (has_field f x ≡ true) × (number_in f x ≡ n → ⊥)

-- the packet is given by one of the writes
abbrev pub IsWrittenBy : Numbers → List Written → Numbers → Type 0
IsWrittenBy x ws y = Any (λ w. y ≡ on w x) ws

-- the ascending list of idle-free writes that give just these packets on this one
pub record IsGiven (x : Numbers) (P : Numbers → Type 0) (ws : List Written) : Type 0 where
  pub ascend : Ascend ws
  pub fit : All AllFit ws
  pub idle_free : All (ChangesAll x) ws
  pub gives : (y : Numbers) → IsWrittenBy x ws y ↔ P y

-- on each packet the tree has the list for these packets
abbrev pub IsGiving : (Numbers → Numbers → Type 0) → Tree (List Written) → Type 0
IsGiving P t = (x : Numbers) → Fit x → IsGiven x (P x) (value t x)

-- the tree gives the second packet on the first
abbrev pub Gives : Tree (List Written) → Numbers → Numbers → Type 0
Gives t x y = IsWrittenBy x (value t x) y

-- writes at a leaf change every packet that reaches it, in each field that they write
abbrev pub IsIdleFree : Tree (List Written) → Type 0
IsIdleFree t = IsGiving (Gives t) t

-- the tree writes this number into the field of some packet
abbrev pub IsToWrite : Field → ℕ → Tree (List Written) → Type 0
IsToWrite f n t = (x : Numbers) × Fit x × Any (λ w. written_in f w ≡ Some n) (value t x)

-- the numbers that are tested, those that are written, and those in prerequisites of the fields so written, are among these
pub record Covers (ns : Field → List ℕ) (t : Tree (List Written)) : Type 0 where
  pub tests : Within ns t
  pub writes : (f : Field) (n : ℕ) → IsToWrite f n t → IsCounted ns f n × NeedsAmong ns f

-- the numbers of the writes, and those in prerequisites of their fields, are among these
abbrev pub CoversWrites : (Field → List ℕ) → Written → Type 0
CoversWrites ns w = (f : Field) (n : ℕ) → written_in f w ≡ Some n → IsCounted ns f n × NeedsAmong ns f

-- idle-free trees that give the same packets everywhere have one id
abbrev pub IsCanonicalRewriting : List (Tree (List Written)) → Type 0
IsCanonicalRewriting ts =
    (i j : ℕ) (t u : Tree (List Written)) → slice_get ts i ≡ Some t → slice_get ts j ≡ Some u → IsIdleFree t → IsIdleFree u
    → ((x y : Numbers) → Fit x → Gives t x y ↔ Gives u x y) → i ≡ j
