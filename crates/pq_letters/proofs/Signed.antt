-- Diagrams that say which of some predicates hold.
use Rattle.std.proofs.Common.{ℕ, ◌<◌, ◌≤◌, ◌≡◌, ◌∙◌, Bool, true, false, List, [], ◌∷◌, ◌++◌, take, drop, get_or, length, Some}
use Rattle.std.proofs.Common.{if◌then◌else◌, refl, sym, ap, subst, inl, inr, arith}
use Rattle.std.specs.Prelude.{slice_get, All}
use Rattle.std.proofs.lemmas.List.{map-append, take-append-drop}
use Rattle.std.proofs.lemmas.List.Elements.{All-head}
use Rattle.std.proofs.lemmas.Option.{get_or_from_slice_get}
use Rattle.pq_store.specs.declared.test.Test.TheVariants.{Equal}
use Rattle.pq_store.specs.Tree.{Tree, value}
use Rattle.pq_store.specs.Tree.Tree.{Tip}
use Rattle.pq_lists.proofs.Places.{at_place}
use Rattle.pq_lists.proofs.Holding.{all_back, all_front}
use Rattle.pq_apply.specs.Choice.{ChoosesAt}
use Rattle.pq_store.proofs.RoomLemmas.{room_for}
use Rattle.pq_apply.specs.Junction.{FitTogetherAll, trees_at}
use Rattle.pq_apply.specs.Product.{FitTogetherAt, IsProduct}
use Rattle.pq_store.specs.Room.{Within}
use Rattle.pq_apply.proofs.Pairs.{fit_there}
use Rattle.pq_letters.specs.Letters.{SignedAt, truths}

-- a choice between the two signatures of one predicate says whether it holds
pub one_says : (cs : List (Tree Bool)) (old new : List (Tree (List Bool))) (k i j id : ℕ) → slice_get old i ≡ Some (Tip (true ∷ []))
    → slice_get old j ≡ Some (Tip (false ∷ []))
    → ChoosesAt cs k old i j new id → (u : Tree Bool) → slice_get cs k ≡ Some u → SignedAt (u ∷ []) new id
one_says cs old new k i j id yes_is no_is chooses u u_is =
    let found = chooses u (Tip (true ∷ [])) (Tip (false ∷ [])) u_is yes_is no_is in
    let choice = found.2 in (
      found.0,
      found.1,
      record {
        gives = λ x. choice.gives x ∙ by (value u x);
        tests = λ ns all f v tested. elim (choice.tests (Equal f v) tested) [
          | inl here ↦ All-head (Within ns) u [] all f v here
          | inr leaf ↦ absurd (elim leaf [ inl none ↦ none | inr none ↦ none ])
        ];
      },
    )
  where
    by : (b : Bool) → (if b then true ∷ [] else false ∷ []) ≡ b ∷ []
    by true = refl
    by false = refl

-- a product that appends signatures says what the first tree says and then what the second says
pub both_say : (R : List Bool → List Bool → List Bool → Type 0) (ls rs new : List (Tree (List Bool))) (x y id : ℕ)
    → ((a b c : List Bool) → R a b c → c ≡ a ++ b)
    → IsProduct R ls x rs y new id → (us vs : List (Tree Bool)) → SignedAt us ls x → SignedAt vs rs y → SignedAt (us ++ vs) new id
both_say R ls rs new x y id appends made us vs (t, t_is, left) (u, u_is, right) = (
  made.product,
  made.is,
  record {
    gives = λ p.
        appends (value t p) (value u p) (value made.product p) (made.gives t u t_is u_is p)
        ∙ (ap (λ s. s ++ value u p) (left.gives p)
        ∙ (ap (λ s. truths us p ++ s) (right.gives p)
        ∙ sym (map-append (λ w. value w p) us vs)));
    tests = λ ns all f v tested. elim (made.tests t u t_is u_is (Equal f v) tested) [
      | inl in_left ↦ left.tests ns (all_front (Within ns) us vs all) f v in_left
      | inr in_right ↦ right.tests ns (all_back (Within ns) us vs all) f v in_right
    ];
  },
)

-- the trees that say what others say may come together where the others may
pub both_fit : (us vs : List (Tree Bool)) (ls rs : List (Tree (List Bool))) (x y : ℕ) → FitTogetherAll (us ++ vs) → SignedAt us ls x
    → SignedAt vs rs y → FitTogetherAt ls x rs y
both_fit us vs ls rs x y fit (t, t_is, left) (u, u_is, right) =
    fit_there ls x rs y t u t_is u_is
    (room_for (λ ns within. (left.tests ns (all_front (Within ns) us vs within), right.tests ns (all_back (Within ns) us vs within))) fit)

-- the trees at the first places and then those at the places after them are the trees at all places
pub both_parts : (ts : List (Tree Bool)) (ids front back : List ℕ) (m : ℕ) → front ≡ take m ids → back ≡ drop m ids
    → trees_at ts front ++ trees_at ts back ≡ trees_at ts ids
both_parts ts ids front back m front_is back_is =
    sym (map-append (λ id. get_or ts id (Tip false)) front back)
    ∙ ap (trees_at ts) (ap (λ k. k ++ back) front_is ∙ (ap (λ k. take m ids ++ k) back_is ∙ take-append-drop m ids))

-- at one place there is one tree
pub only_tree : (ts : List (Tree Bool)) (ids : List ℕ) (i : ℕ) (u : Tree Bool) → length ids < 2 → 1 ≤ length ids → i ≡ get_or ids 0 i
    → slice_get ts i ≡ Some u → trees_at ts ids ≡ u ∷ []
only_tree ts [] i u short long is u_is = absurd (omega arith)
only_tree ts (id ∷ []) i u short long is u_is = ap (λ k. get_or ts k (Tip false) ∷ []) (sym is)
    ∙ ap (λ t. t ∷ []) (get_or_from_slice_get ts i u (Tip false) u_is)
only_tree ts (a ∷ b ∷ ids) i u short long is u_is = absurd (omega arith)

-- so what says whether that tree is true says which of all are
pub only_says : (ts : List (Tree Bool)) (ids : List ℕ) (i : ℕ) (new : List (Tree (List Bool))) (id : ℕ) → length ids < 2 → 1 ≤ length ids
    → i ≡ get_or ids 0 i → All (λ k. k < length ts) ids
    → ((u : Tree Bool) → slice_get ts i ≡ Some u → SignedAt (u ∷ []) new id) → SignedAt (trees_at ts ids) new id
only_says ts ids i new id short long is within signed =
    let u = at_place ts i (subst (λ k. k < length ts) (sym is) (within 0 i long)) in
    subst (λ us. SignedAt us new id) (sym (only_tree ts ids i u.0 short long is u.1)) (signed u.0 u.1)
