-- Laws of diagrams: each function from packets has one, which tests only what the function depends on.
use Rattle.std.specs.Prelude.{ℕ, ◌^◌, ◌<◌, ◌≡◌, ◌==◌, ◌||◌, if◌then◌else◌, Bool, true, false, List, [], ◌∷◌}
use Rattle.pq_fields.specs.declared.field.Field.{Field}
use Rattle.pq_fields.specs.declared.field.Field.TheVariants.{EthType, IpProto}
use Rattle.pq_fields.specs.Packet.{Numbers, Fit, has_field, rank, width_of, with_number}
use Rattle.pq_store.specs.declared.test.Test.{Test}
use Rattle.pq_store.specs.declared.test.Test.TheVariants.{Equal, Bit}
use Rattle.pq_store.specs.Test.{field_of, passes}
use Rattle.pq_store.specs.Tree.{Tree, value, IsTested}
use Rattle.pq_store.specs.Tree.Tree.{Tip, Fork}
use Rattle.pq_store.specs.Diagram.{IsDiagram}

-- diagrams with equal values on every packet are one, of whatever stores
abbrev pub HasOneDiagram : Type 0 → Type 0
HasOneDiagram L = (t u : Tree L) → IsDiagram t → IsDiagram u → ((x : Numbers) → Fit x → value t x ≡ value u x) → t ≡ u

-- no test of the field is in the tree
abbrev pub IsUntested : {L : Type 0} → Field → Tree L → Type 0
IsUntested f t = (s : Test) → IsTested s t → field_of s ≡ f → ⊥

-- on these packets the value is the same whatever the field's number
abbrev pub Ignores : {L : Type 0} → Field → (Numbers → Type 0) → Tree L → Type 0
Ignores f Here t = (x : Numbers) (n : ℕ) → Fit x → n < 2 ^ width_of f → Here x → value t (with_number f n x) ≡ value t x

-- a diagram whose value is the same whatever a field's number doesn't test the field
abbrev pub IgnoredFieldsAreUntested : Type 0 → Type 0
IgnoredFieldsAreUntested L = (f : Field) (t : Tree L) → IsDiagram t → Ignores f (λ x. Unit {0}) t → IsUntested f t

-- the packet passes each of these tests
abbrev pub PassesAll : List Test → Numbers → Type 0
PassesAll [] x = Unit {0}
PassesAll (s ∷ ss) x = (passes s x ≡ true) × PassesAll ss x

-- each packet that passes these tests has the field
abbrev pub MakePresent : List Test → Field → Type 0
MakePresent passed f = (x : Numbers) → Fit x → PassesAll passed x → has_field f x ≡ true

-- the test is of the EtherType or the IP protocol, the fields in prerequisites
abbrev pub is_prerequisite : Test → Bool
is_prerequisite (Equal f v) = (rank f == rank EthType) || (rank f == rank IpProto)
is_prerequisite (Bit f i) = false

-- the tests, with this one if it is of these fields
abbrev pub and_prerequisite : Test → List Test → List Test
and_prerequisite s passed = if is_prerequisite s then s ∷ passed else passed

-- each test of the field is below its prerequisites: the tests of these fields on the path to it that are answered yes, after
-- some above the tree, make each packet have the field
abbrev pub StandsBelow : {L : Type 0} → Field → List Test → Tree L → Type 0
StandsBelow f passed (Tip l) = Unit {0}
StandsBelow f passed (Fork s y n) = (field_of s ≡ f → MakePresent passed f) × StandsBelow f (and_prerequisite s passed) y × StandsBelow f passed n

-- where the value is the same whatever the number of a field that the packet lacks, each test of the field is below its prerequisites
abbrev pub PrerequisitesStandFirst : Type 0 → Type 0
PrerequisitesStandFirst L = (f : Field) (t : Tree L) → IsDiagram t → Ignores f (λ x. has_field f x ≡ false) t → StandsBelow f [] t
