-- Diagrams with each leaf replaced.
use Rattle.std.proofs.Common.{ℕ, ◌≡◌, ◌⊎◌, Bool, true, List, Some, inl, inr, subst}
use Rattle.std.specs.Prelude.{slice_get}
use Rattle.pq_fields.specs.declared.field.Field.{Field}
use Rattle.pq_store.specs.declared.test.Test.{Test}
use Rattle.pq_store.specs.declared.test.Test.TheVariants.{Equal}
use Rattle.pq_store.specs.Tree.{Tree, IsTested, value}
use Rattle.pq_store.specs.Tree.Tree.{Tip}
use Rattle.pq_store.specs.Room.{Within}
use Rattle.pq_store.specs.Store.{AreDiagrams, Keeps}
use Rattle.pq_store.proofs.RoomLemmas.{room_for, tip_within}
use Rattle.pq_apply.specs.Product.{FitTogetherAt, IsProduct}
use Rattle.pq_join.specs.Arriving.{MakesAt}
use Rattle.pq_join.specs.Maps.{FitsAloneAt, MapsAt}

module _ {A : Type 0} where
  -- a tree that fits alone fits together with a leaf
  pub fits_with_leaf : (ts : List (Tree A)) (k : ℕ) (us : List (Tree Bool)) (i : ℕ) → FitsAloneAt ts k → slice_get us i ≡ Some (Tip true)
      → FitTogetherAt ts k us i
  fits_with_leaf ts k us i fits leaf t u t_is u_is =
      let same : Tip true ≡ u = cc in
      room_for (λ ns within. (within, subst (Within ns) same (tip_within ns true))) (fits t t_is)

-- what tests only what two trees test tests only these numbers where they do
pub within_both : {A B C : Type 0} (ns : Field → List ℕ) (t : Tree A) (u : Tree B) (r : Tree C)
    → ((s : Test) → IsTested s r → IsTested s t ⊎ IsTested s u) → Within ns t → Within ns u → Within ns r
within_both ns t u r tests left right f v tested = elim (tests (Equal f v) tested) [ inl own ↦ left f v own | inr own ↦ right f v own ]

module _ {A C : Type 0} where
  -- the product with a leaf has each leaf replaced
  pub product_maps : (R : A → Bool → C → Type 0) (ts : List (Tree A)) (k : ℕ) (us : List (Tree Bool)) (i : ℕ) (new : List (Tree C)) (id : ℕ)
      → slice_get us i ≡ Some (Tip true)
      → IsProduct R ts k us i new id → MapsAt R ts k new id
  product_maps R ts k us i new id leaf product t t_is = (
    product.product,
    product.is,
    record {
      gives = product.gives t (Tip true) t_is leaf;
      tests = λ s tested. elim (product.tests t (Tip true) t_is leaf s tested) [ inl own ↦ own | inr other ↦ absurd other ];
    },
  )

  -- and where what replaces is told by the leaf alone, the tree is what is made of the other
  pub maps_make : (make : A → C) (R : A → Bool → C → Type 0) (ts : List (Tree A)) (k : ℕ) (new : List (Tree C)) (id : ℕ)
      → ((a : A) (b : Bool) (c : C) → R a b c → c ≡ make a) → AreDiagrams new → MapsAt R ts k new id → MakesAt make ts k new id
  maps_make make R ts k new id tells diagrams maps t t_is =
      let made = maps t t_is in (
        made.0,
        made.1,
        record {
          gives = λ x. tells (value t x) true (value made.0 x) (made.2.gives x);
          tests = made.2.tests;
          diagram = diagrams id made.0 made.1;
        },
      )

  -- it stays while the store grows
  pub made_still : (make : A → C) (ts : List (Tree A)) (k : ℕ) (old new : List (Tree C)) (id : ℕ) → Keeps old new → MakesAt make ts k old id
      → MakesAt make ts k new id
  made_still make ts k old new id keeps made t t_is = let m = made t t_is in (m.0, keeps id m.0 m.1, m.2)
