-- The product of two diagrams: on each packet what is made of their two leaves.
use Rattle.std.specs.Prelude.{ℕ, ◌≡◌, ◌⊎◌, List, Some, slice_get}
use Rattle.std.specs.Borrow.{Bor}
use Rattle.pq_fields.specs.Packet.{Numbers}
use Rattle.pq_store.specs.declared.test.Test.{Test}
use Rattle.pq_store.specs.Tree.{Tree, value, IsTested}
use Rattle.pq_store.specs.Room.{HasRoom, Within}

-- a call with references to these two may answer so
abbrev pub Gives : {A B R : Type 0} → (Bor A → Bor B → R → Type 0) → A → B → R → Type 0
Gives {A} {B} post a b r = (s : Bor A) × (t : Bor B) × (s.now ≡ a) × (t.now ≡ b) × post s t r

-- two trees may come together in one: there is room for the numbers that they test
abbrev pub FitTogether : {A B : Type 0} → Tree A → Tree B → Type 0
FitTogether t u = HasRoom (λ ns. Within ns t × Within ns u)

-- so may those at two places
abbrev pub FitTogetherAt : {A B : Type 0} → List (Tree A) → ℕ → List (Tree B) → ℕ → Type 0
FitTogetherAt {A} {B} ls x rs y = (t : Tree A) (u : Tree B) → slice_get ls x ≡ Some t → slice_get rs y ≡ Some u → FitTogether t u

-- the tree at place k is on each packet what R makes of two trees, and tests only what they test
pub record IsProduct {A B C : Type 0} (R : A → B → C → Type 0) (ls : List (Tree A)) (x : ℕ) (rs : List (Tree B)) (y : ℕ)
    (us : List (Tree C)) (k : ℕ) : Type 0 where
  pub product : Tree C
  pub is : slice_get us k ≡ Some product
  pub gives : (t : Tree A) (u : Tree B) → slice_get ls x ≡ Some t → slice_get rs y ≡ Some u → (p : Numbers) → R (value t p) (value u p) (value product p)
  pub tests : (t : Tree A) (u : Tree B) → slice_get ls x ≡ Some t → slice_get rs y ≡ Some u → (s : Test) → IsTested s product → IsTested s t ⊎ IsTested s u
