-- The choice between two diagrams by a third.
use Rattle.std.specs.Prelude.{ℕ, ◌≡◌, ◌⊎◌, Bool, List, Some, slice_get, if◌then◌else◌}
use Rattle.pq_fields.specs.Packet.{Numbers}
use Rattle.pq_store.specs.declared.test.Test.{Test}
use Rattle.pq_store.specs.Tree.{Tree, value, IsTested}
use Rattle.pq_store.specs.Room.{HasRoom, Within}
use Rattle.pq_store.specs.Store.{HasAt}

module _ {L : Type 0} where
  -- a condition and two trees may come together in one: there is room for the numbers that they test
  abbrev pub FitAsChoice : Tree Bool → Tree L → Tree L → Type 0
  FitAsChoice c y n = HasRoom (λ ns. Within ns c × Within ns y × Within ns n)

  -- so may those at three places
  abbrev pub FitAsChoiceAt : List (Tree Bool) → ℕ → List (Tree L) → ℕ → ℕ → Type 0
  FitAsChoiceAt cs k ts i j =
      (c : Tree Bool) (y n : Tree L) → slice_get cs k ≡ Some c → slice_get ts i ≡ Some y → slice_get ts j ≡ Some n → FitAsChoice c y n

  -- the tree has on each packet the value of one or the other, and tests only what the three test
  pub record IsChoice (c : Tree Bool) (y n chosen : Tree L) : Type 0 where
    pub gives : (p : Numbers) → value chosen p ≡ (if value c p then value y p else value n p)
    pub tests : (s : Test) → IsTested s chosen → IsTested s c ⊎ (IsTested s y ⊎ IsTested s n)

  -- a new place has the choice between the trees of two old ones
  abbrev pub ChoosesAt : List (Tree Bool) → ℕ → List (Tree L) → ℕ → ℕ → List (Tree L) → ℕ → Type 0
  ChoosesAt cs k old i j new id =
      (c : Tree Bool) (y n : Tree L) → slice_get cs k ≡ Some c → slice_get old i ≡ Some y → slice_get old j ≡ Some n → HasAt (IsChoice c y n) new id
