-- Choices between two diagrams by what holds of a packet, and the steps to a diagram on packets that are written first.
use Rattle.std.specs.Prelude.{ℕ, ◌≡◌, Bool, true, not, ◌==◌, ◌&&◌, if◌then◌else◌, List, Option, None, Some, slice_get}
use Rattle.pq_fields.specs.declared.field.Field.{Field}
use Rattle.pq_fields.specs.declared.pred.Pred.{Pred}
use Rattle.pq_fields.specs.Packet.{Numbers, Fit, has_field, number_in}
use Rattle.pq_fields.specs.Pred.{IsLawfulPred, holds, pred_tree}
use Rattle.pq_fields.specs.Writes.{Written, on, written_in}
use Rattle.pq_store.specs.declared.test.Test.{Test}
use Rattle.pq_store.specs.Test.{field_of, passes}
use Rattle.pq_store.specs.Tree.{Tree, value}
use Rattle.pq_store.specs.Tree.Tree.{Tip}
use Rattle.pq_store.specs.Store.{HasAt, ShowsBranch}
use Rattle.pq_store.specs.Room.{HasRoom, IsCounted, IsTestWithin, Within}
use Rattle.pq_apply.specs.Predicates.{IsPredWithin, NeedsAmong}
use Rattle.pq_rewrite.specs.Calls.{IsAfter}
use Rattle.pq_rewrite.specs.declared.written.Step.{Step}
use Rattle.pq_rewrite.specs.declared.written.Step.TheVariants.{Leaf, Side, Both}

-- a lawful predicate that says whether a packet has the field, with the numbers in the field's prerequisites alone
pub record IsPresence (f : Field) (p : Pred) : Type 0 where
  pub lawful : IsLawfulPred (pred_tree p)
  pub tells : (x : Numbers) → holds (pred_tree p) x ≡ has_field f x
  pub within : (ns : Field → List ℕ) → NeedsAmong ns f → IsPredWithin ns (pred_tree p)

-- without a predicate each packet has the field
abbrev pub TellsPresence : Field → Option Pred → Type 0
TellsPresence f None = (x : Numbers) → has_field f x ≡ true
TellsPresence f (Some p) = IsPresence f p

-- the tree has the value of the one where this holds of a packet, and of the other elsewhere
pub record IsChoiceBy {L : Type 0} (c : Numbers → Bool) (Needs : (Field → List ℕ) → Type 0) (y n r : Tree L) : Type 0 where
  pub gives : (x : Numbers) → Fit x → value r x ≡ (if c x then value y x else value n x)
  pub tests : (ns : Field → List ℕ) → Needs ns → Within ns y → Within ns n → Within ns r

module _ {L : Type 0} where
  -- two trees may be chosen from: there is room for the numbers that the choice and they test
  abbrev pub FitBy : ((Field → List ℕ) → Type 0) → Tree L → Tree L → Type 0
  FitBy Needs y n = HasRoom (λ ns. Needs ns × Within ns y × Within ns n)

  abbrev pub FitByAt : ((Field → List ℕ) → Type 0) → List (Tree L) → ℕ → ℕ → Type 0
  FitByAt Needs ts i j = (y n : Tree L) → slice_get ts i ≡ Some y → slice_get ts j ≡ Some n → FitBy Needs y n

  abbrev pub ChoosesByAt : (Numbers → Bool) → ((Field → List ℕ) → Type 0) → List (Tree L) → ℕ → ℕ → List (Tree L) → ℕ → Type 0
  ChoosesByAt c Needs old i j new id = (y n : Tree L) → slice_get old i ≡ Some y → slice_get old j ≡ Some n → HasAt (IsChoiceBy c Needs y n) new id

-- by whether a packet has the field
abbrev pub field_needs : Field → (Field → List ℕ) → Type 0
field_needs f ns = NeedsAmong ns f

-- by whether a packet has the field with another number
abbrev pub differs : Field → ℕ → Numbers → Bool
differs f n x = has_field f x && not (number_in f x == n)

abbrev pub change_needs : Field → ℕ → (Field → List ℕ) → Type 0
change_needs f n ns = IsCounted ns f n × NeedsAmong ns f

-- by whether a packet passes the test once it is written
abbrev pub passes_after : Written → Test → Numbers → Bool
passes_after w t x = passes t (on w x)

abbrev pub test_needs : Written → Test → (Field → List ℕ) → Type 0
test_needs w t ns = IsTestWithin ns t × ((n : ℕ) → written_in (field_of t) w ≡ Some n → NeedsAmong ns (field_of t))

module _ {L : Type 0} where
  -- what is at a place, or the one side that packets reach once they are written
  abbrev pub IsStepAt : Written → List (Tree L) → ℕ → Step L → Type 0
  IsStepAt w ts k (Leaf l) = slice_get ts k ≡ Some (Tip l.now)
  IsStepAt w ts k (Side next) =
      (t : Test) × (i : ℕ) × (j : ℕ) × ShowsBranch ts k t i j × (answer : Bool) × ((x : Numbers) → passes_after w t x ≡ answer)
      × (next ≡ (if answer then i else j))
  IsStepAt w ts k (Both t i j) = ShowsBranch ts k t i j

  -- one place has what comes after the writes of the tree at another
  pub record IsToldAt (w : Written) (from : List (Tree L)) (k : ℕ) (into : List (Tree L)) (id : ℕ) : Type 0 where
    pub tree : Tree L
    pub told : Tree L
    pub tree_is : slice_get from k ≡ Some tree
    pub told_is : slice_get into id ≡ Some told
    pub comes : IsAfter w tree told
