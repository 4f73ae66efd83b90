-- What the diagram of letters tests.
use Rattle.std.specs.Prelude.{ℕ, ◌≡◌, false, List, All, Some, slice_get}
use Rattle.pq_fields.specs.declared.field.Field.{Field}
use Rattle.pq_fields.specs.declared.field.Field.TheVariants.{Port}
use Rattle.pq_fields.specs.Packet.{has_field}
use Rattle.pq_fields.specs.Pred.{PredTree}
use Rattle.pq_model.specs.Topology.{Topology}
use Rattle.pq_query.specs.Query.{QueryTree}
use Rattle.pq_store.specs.Laws.{Ignores}
use Rattle.pq_store.specs.Room.{IsAmong, Within}
use Rattle.pq_store.specs.Tree.{Tree}
use Rattle.pq_apply.specs.Predicates.{IsPredWithin}
use Rattle.pq_letters.specs.Letters.{LettersValue}
use Rattle.pq_classes.specs.Room.{IsQueryWithin}

-- the diagram tests only the numbers of these predicates and those in prerequisites
abbrev pub TestsPreds : List PredTree → LettersValue → Type 0
TestsPreds ps a = (t : Tree ℕ) → slice_get a.trees a.root ≡ Some t → (ns : Field → List ℕ) → All (IsPredWithin ns) ps → Within ns t

-- it tests only the numbers of these queries, those in prerequisites, and port 0
abbrev pub TestsQueries : Topology → List QueryTree → LettersValue → Type 0
TestsQueries T qs a = (t : Tree ℕ) → slice_get a.trees a.root ≡ Some t → (ns : Field → List ℕ) → IsAmong 0 (ns Port) → All (IsQueryWithin ns T) qs → Within ns t

-- a packet's letter doesn't depend on the number in a field that the packet lacks
abbrev pub IgnoresLacking : LettersValue → Type 0
IgnoresLacking a = (t : Tree ℕ) → slice_get a.trees a.root ≡ Some t → (f : Field) → Ignores f (λ x. has_field f x ≡ false) t
