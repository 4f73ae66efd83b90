-- The diagram of numbers, from that of signatures.
use Rattle.std.proofs.Common.{ℕ, ◌≡◌, Bool, true, List, Some, subst, inl, inr}
use Rattle.std.specs.Prelude.{slice_get}
use Rattle.pq_store.specs.Tree.{Tree, value}
use Rattle.pq_store.specs.Tree.Tree.{Tip}
use Rattle.pq_store.specs.Room.{Within}
use Rattle.pq_store.proofs.RoomLemmas.{room_for, tip_within}
use Rattle.pq_apply.specs.Product.{FitTogetherAt, IsProduct}
use Rattle.pq_letters.specs.Numbering.{FitsAlone, NumbersAt, place_in}

-- a tree that fits alone fits together with a leaf
pub fits_with_leaf : (ts : List (Tree (List Bool))) (us : List (Tree Bool)) (x y : ℕ)
    → ((t : Tree (List Bool)) → slice_get ts x ≡ Some t → FitsAlone t) → slice_get us y ≡ Some (Tip true) → FitTogetherAt ts x us y
fits_with_leaf ts us x y fits leaf t u t_is u_is =
    let same : Tip true ≡ u = cc in
    room_for (λ ns within. (within, subst (Within ns) same (tip_within ns true))) (fits t t_is)

-- the product with a leaf by the places of signatures has these places
pub numbers_product : (signatures : List (List Bool)) (R : List Bool → Bool → ℕ → Type 0)
    → ((s : List Bool) (b : Bool) (n : ℕ) → R s b n → n ≡ place_in signatures s)
    → (ts : List (Tree (List Bool))) (us : List (Tree Bool)) (x y : ℕ) (rs : List (Tree ℕ)) (id : ℕ) → slice_get us y ≡ Some (Tip true)
    → IsProduct R ts x us y rs id → NumbersAt signatures ts x rs id
numbers_product signatures R places ts us x y rs id leaf product t t_is = (
  product.product,
  product.is,
  record {
    gives = λ p. places (value t p) true (value product.product p) (product.gives t (Tip true) t_is leaf p);
    tests = λ s tested. elim (product.tests t (Tip true) t_is leaf s tested) [ inl own ↦ own | inr other ↦ absurd other ];
  },
)
