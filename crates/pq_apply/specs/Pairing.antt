-- The steps to a product of two diagrams.
use Rattle.std.specs.Prelude.{ℕ, ◌≡◌, ◌⊎◌, List, Some, slice_get}
use Rattle.pq_fields.specs.Packet.{Numbers}
use Rattle.pq_store.specs.declared.test.Test.{Test}
use Rattle.pq_store.specs.Test.{IsLawful}
use Rattle.pq_store.specs.Tree.{Tree, value, IsTested}
use Rattle.pq_store.specs.Tree.Tree.{Tip}
use Rattle.pq_store.specs.Diagram.{IsDiagram}
use Rattle.pq_apply.specs.declared.products.Top.{Top}
use Rattle.pq_apply.specs.declared.products.Top.TheVariants.{Leaves, First}
use Rattle.pq_apply.specs.Split.{LeadsRoot, root_of}

module _ {A B : Type 0} where
  -- the test is the first of the roots at two places
  pub record IsFirstAt (ls : List (Tree A)) (x : ℕ) (rs : List (Tree B)) (y : ℕ) (s : Test) : Type 0 where
    pub left : Tree A
    pub right : Tree B
    pub left_is : slice_get ls x ≡ Some left
    pub right_is : slice_get rs y ≡ Some right
    pub lawful : IsLawful s
    pub leads_left : LeadsRoot s (root_of left)
    pub leads_right : LeadsRoot s (root_of right)
    pub root : (root_of left ≡ Some s) ⊎ (root_of right ≡ Some s)

  -- the leaves at two places, or the first of their tests
  abbrev pub IsTopAt : List (Tree A) → ℕ → List (Tree B) → ℕ → Top A B → Type 0
  IsTopAt ls x rs y (Leaves a b) = (slice_get ls x ≡ Some (Tip a.now)) × (slice_get rs y ≡ Some (Tip b.now))
  IsTopAt ls x rs y (First s) = IsFirstAt ls x rs y s

module _ {A B C : Type 0} (R : A → B → C → Type 0) where
  -- the diagram is on each packet what R makes of two trees, and tests only what they test
  pub record IsPaired (t : Tree A) (u : Tree B) (paired : Tree C) : Type 0 where
    pub diagram : IsDiagram paired
    pub gives : (p : Numbers) → R (value t p) (value u p) (value paired p)
    pub tests : (s : Test) → IsTested s paired → IsTested s t ⊎ IsTested s u

  -- it is at a place, and the two trees at places of theirs
  pub record IsPairedAt (ls : List (Tree A)) (x : ℕ) (rs : List (Tree B)) (y : ℕ) (us : List (Tree C)) (k : ℕ) : Type 0 where
    pub left : Tree A
    pub right : Tree B
    pub paired : Tree C
    pub left_is : slice_get ls x ≡ Some left
    pub right_is : slice_get rs y ≡ Some right
    pub is : slice_get us k ≡ Some paired
    pub pairs : IsPaired left right paired
