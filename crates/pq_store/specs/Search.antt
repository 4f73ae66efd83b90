-- The search for least packets: parts of all packets that begin alike, and what is found of them so far.
use Rattle.std.specs.Prelude.{ℕ, ◌+◌, ◌-◌, ◌/◌, ◌%◌, ◌^◌, ◌≤◌, ◌<◌, ◌≡◌, ◌⊎◌, ◌==◌, Bool, true, false, List, ◌++◌, Option, Some, None}
use Rattle.std.specs.Prelude.{slice_get, slice_index_or, IfSome}
use Rattle.std.specs.List.{All, Any, AllPairs}
use Rattle.pq_fields.specs.declared.field.Field.{Field}
use Rattle.pq_fields.specs.Packet.{Numbers, Fit, number_in, rank, width_of, with_number}
use Rattle.pq_store.specs.declared.test.Test.{Test}
use Rattle.pq_store.specs.declared.test.Test.TheVariants.{Equal, Bit}
use Rattle.pq_store.specs.declared.least.Least.{Least}
use Rattle.pq_store.specs.declared.least.Link.{Link}
use Rattle.pq_store.specs.Test.{field_of}
use Rattle.pq_store.specs.Tree.{Tree, value, rest}
use Rattle.pq_store.specs.Tree.Tree.{Tip, Fork}
use Rattle.pq_store.specs.Diagram.{most}
use Rattle.pq_store.specs.Store.{ShowsBranch}
use Rattle.pq_store.specs.Least.{precedes}

-- the packets have the same numbers in the fields before this one
abbrev pub Agrees : Field → Numbers → Numbers → Type 0
Agrees f x p = (g : Field) → rank g < rank f → number_in g x ≡ number_in g p

-- the numbers of the fields after this one are 0
abbrev pub IsClear : Field → Numbers → Type 0
IsClear f p = (g : Field) → rank f < rank g → number_in g p ≡ 0

-- the packets agree before this field, and in it their numbers are in one span of such a length
abbrev pub Shares : Field → ℕ → Numbers → Numbers → Type 0
Shares f span x p = Agrees f x p × (number_in f x / span ≡ number_in f p / span)

-- the packet is the first that shares so much
abbrev pub Begins : Field → ℕ → Numbers → Type 0
Begins f span p = IsClear f p × (number_in f p % span ≡ 0)

-- how many numbers of its field a test and the later ones may tell apart
abbrev pub span_of : Test → ℕ
span_of (Equal f v) = 2 ^ width_of f
span_of (Bit f i) = 2 ^ (width_of f - i)

-- the tree asks of the field from this number on, and only then of later fields
abbrev pub AsksFrom : {L : Type 0} → Field → ℕ → Tree L → Type 0
AsksFrom f from (Tip l) = Unit {0}
AsksFrom f from (Fork (Equal g v) y n) = (rank f < rank g) ⊎ ((rank f ≡ rank g) × (from ≤ v))
AsksFrom f from (Fork (Bit g i) y n) = rank f < rank g

-- the place is marked
abbrev pub IsSeen : List Bool → ℕ → Type 0
IsSeen seen k = slice_index_or seen k false ≡ true

-- the next number that may be untested, where one is sought
abbrev pub raised : Option ℕ → Option ℕ
raised (Some free) = Some (free + 1)
raised None = None

-- the gap's number, where it is below the value
abbrev pub IsUntestedBelow : Option ℕ → ℕ → Option ℕ → Type 0
IsUntestedBelow gap value (Some free) = (gap ≡ Some free) × (free < value)
IsUntestedBelow gap value None = IfSome gap (λ free. value ≤ free)

module _ {L : Type 0} where
  -- the packet shares with another what is asked before the tree's root
  abbrev pub Reaching : Tree L → Numbers → Numbers → Type 0
  Reaching (Tip l) x p = (g : Field) → number_in g x ≡ number_in g p
  Reaching (Fork t y n) x p = Shares (field_of t) (span_of t) x p

  -- the packet is the first that shares what is asked before the tree's root
  abbrev pub IsFirst : Tree L → Numbers → Type 0
  IsFirst (Tip l) p = Unit {0}
  IsFirst (Fork t y n) p = Begins (field_of t) (span_of t) p

  -- so for the tree at a place
  abbrev pub IsFirstAt : List (Tree L) → ℕ → Numbers → Type 0
  IsFirstAt ts k p = (t : Tree L) → slice_get ts k ≡ Some t → IsFirst t p

  -- the leaf that the packet reaches has this id
  abbrev pub Hits : List (Tree L) → Tree L → Numbers → ℕ → Type 0
  Hits ts t x leaf = slice_get ts leaf ≡ Some (Tip (value t x))

  -- the leaf that the packet reaches is found
  abbrev pub IsFound : List (Tree L) → List Least → Tree L → Numbers → Type 0
  IsFound ts found t x = Any (λ e. Hits ts t x e.leaf) found

  -- each leaf under the tree is found
  abbrev pub AreFound : List (Tree L) → List Least → Tree L → Type 0
  AreFound ts found t = (x : Numbers) → Fit x → IsFound ts found t x

  -- the packet reaches the leaf, and none before it does
  pub record IsLeastIn (ts : List (Tree L)) (t : Tree L) (e : Least) : Type 0 where
    pub fit : Fit e.packet
    pub hits : Hits ts t e.packet e.leaf
    pub least : (x : Numbers) → Fit x → Hits ts t x e.leaf → precedes x e.packet ≡ false

  -- what holds throughout a search under a root
  pub record IsSound (ts : List (Tree L)) (root : Tree L) (found : List Least) (seen : List Bool) : Type 0 where
    pub each : All (IsLeastIn ts root) found
    pub ascending : AllPairs (λ d e. precedes d.packet e.packet ≡ true) found
    pub settled : (k : ℕ) (t : Tree L) → IsSeen seen k → slice_get ts k ≡ Some t → AreFound ts found t
    pub marked : All (λ e. IsSeen seen e.leaf) found

  -- before a packet all is found, and nothing else
  pub record IsReady (ts : List (Tree L)) (root : Tree L) (found : List Least) (p : Numbers) : Type 0 where
    pub covered : (x : Numbers) → Fit x → precedes x p ≡ true → IsFound ts found root x
    pub behind : All (λ e. precedes e.packet p ≡ true) found

  -- the packets that share with the first one what is asked before a tree reach it
  abbrev pub Leads : Tree L → Tree L → Numbers → Type 0
  Leads root t p = (x : Numbers) → Fit x → Reaching t x p → value root x ≡ value t x

  -- the packets that agree before the field, and have this number in it or a later one, reach the tree
  abbrev pub LeadsFrom : Tree L → Tree L → Field → ℕ → Numbers → Type 0
  LeadsFrom root t f from p = (x : Numbers) → Fit x → Agrees f x p → from ≤ number_in f x → value root x ≡ value t x

  -- leaves were found under the tree, each by a packet of this kind
  pub record IsSearched (ts : List (Tree L)) (root t : Tree L) (kind : Numbers → Type 0) (old new : List Least) (seen : List Bool) : Type 0 where
    pub more : List Least
    pub grown : new ≡ old ++ more
    pub kinds : All (λ e. Fit e.packet × kind e.packet) more
    pub all : AreFound ts new t
    pub sound : IsSound ts root new seen

  -- a visit of a tree
  abbrev pub Visits : List (Tree L) → Tree L → Numbers → List Least → List Bool → List Least → List Bool → Type 0
  Visits ts t p old before new after = (root : Tree L) → IsSound ts root old before → IsReady ts root old p → Leads root t p
      → IsSearched ts root t (λ x. Reaching t x p) old new after

  -- the number that what is after the field's numbers may be reached by, or that it was visited
  abbrev pub IsGap : List (Tree L) → Tree L → List Least → Option ℕ → ℕ → Type 0
  IsGap ts end found (Some free) from = free ≡ from
  IsGap ts end found None from = AreFound ts found end

  -- a visit of a tree whose numbers of a field go on from one
  abbrev pub VisitsFrom : List (Tree L) → Tree L → Field → Option ℕ → Numbers → List Least → List Bool → List Least → List Bool → Type 0
  VisitsFrom ts t f gap p old before new after = (root : Tree L) (from : ℕ) → AsksFrom f from t → IsGap ts (rest f t) old gap from
      → IsSound ts root old before → IsReady ts root old (with_number f from p) → LeadsFrom root t f from p
      → IsSearched ts root t (λ x. Agrees f x p) old new after

  -- this many numbers were tested before, and there is room for those below
  abbrev pub HasGapRoom : Field → Option ℕ → Tree L → Type 0
  HasGapRoom f None t = Unit {0}
  HasGapRoom f (Some free) t = free + most f t ≤ 2 ^ width_of f / 2 - 1

  -- what a visit of a tree whose numbers of a field go on asks
  pub record GoesOn (f : Field) (gap : Option ℕ) (t : Tree L) : Type 0 where
    pub asks : AsksFrom f 0 t
    pub room : HasGapRoom f gap t

  -- the tree begins with a test of the field's numbers
  abbrev pub begins : Field → Tree L → Bool
  begins f (Tip l) = false
  begins f (Fork (Equal g v) y n) = rank f == rank g
  begins f (Fork (Bit g i) y n) = false

  -- a number of the field that is tested first at a place, with its sides
  abbrev pub IsLink : List (Tree L) → ℕ → Field → Option Link → Type 0
  IsLink ts k f (Some l) = ShowsBranch ts k (Equal f l.value) l.yes l.no
  IsLink ts k f None = (t : Tree L) → slice_get ts k ≡ Some t → begins f t ≡ false
