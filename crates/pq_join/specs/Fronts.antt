-- Diagrams by the tests at their front.
use Rattle.std.specs.Prelude.{ℕ, ◌≡◌, ◌≤◌, ◌⊎◌, List, Some, slice_get, if◌then◌else◌}
use Rattle.pq_fields.specs.declared.field.Field.{Field}
use Rattle.pq_fields.specs.Packet.{Numbers, rank}
use Rattle.pq_store.specs.declared.test.Test.{Test}
use Rattle.pq_store.specs.Test.{field_of, passes}
use Rattle.pq_store.specs.Tree.{Tree, value, IsTested}
use Rattle.pq_store.specs.Room.{HasRoom, IsTestWithin, Within}
use Rattle.pq_store.specs.Store.{HasAt}

module _ {L : Type 0} where
  -- no test of the tree is of a field before this one
  abbrev pub Starts : Field → Tree L → Type 0
  Starts f t = (s : Test) → IsTested s t → rank f ≤ rank (field_of s)

  abbrev pub StartsAt : Field → List (Tree L) → ℕ → Type 0
  StartsAt f ts k = (t : Tree L) → slice_get ts k ≡ Some t → Starts f t

  -- the tree has the value of the one on packets that pass the test, and of the other elsewhere
  pub record IsChoiceByTest (s : Test) (y n r : Tree L) : Type 0 where
    pub gives : (x : Numbers) → value r x ≡ (if passes s x then value y x else value n x)
    pub tests : (q : Test) → IsTested q r → (q ≡ s) ⊎ (IsTested q y ⊎ IsTested q n)

  abbrev pub ChoosesByTestAt : Test → List (Tree L) → ℕ → ℕ → List (Tree L) → ℕ → Type 0
  ChoosesByTestAt s old i j new id =
      (y n : Tree L) → slice_get old i ≡ Some y → slice_get old j ≡ Some n → HasAt (IsChoiceByTest s y n) new id

  -- there is room for the number of a test and those of two trees
  abbrev pub FitByTestAt : Test → List (Tree L) → ℕ → ℕ → Type 0
  FitByTestAt s ts i j =
      (y n : Tree L) → slice_get ts i ≡ Some y → slice_get ts j ≡ Some n → HasRoom (λ ns. IsTestWithin ns s × Within ns y × Within ns n)
