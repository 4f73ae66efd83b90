-- Trees that give the same packets, and trees of writes one after another.
use Rattle.std.proofs.Common.{ℕ, ◌≡◌, List, [], ◌++◌, inl, inr, Some}
use Rattle.std.specs.Prelude.{◌⊎◌, ◌↔◌}
use Rattle.std.specs.List.{All, Any}
use Rattle.pq_fields.specs.declared.field.Field.{Field}
use Rattle.pq_fields.specs.Packet.{Numbers, Fit}
use Rattle.pq_fields.specs.Writes.{Written, AllFit, on}
use Rattle.pq_store.specs.declared.test.Test.TheVariants.{Equal}
use Rattle.pq_store.specs.Tree.{Tree, value}
use Rattle.pq_store.specs.Tree.Tree.{Tip}
use Rattle.pq_store.specs.Store.{HasAt}
use Rattle.pq_store.specs.Room.{Within}
use Rattle.pq_store.proofs.RoomLemmas.{room_for}
use Rattle.pq_apply.specs.Product.{FitTogetherAt}
use Rattle.pq_rewrite.specs.Calls.{IsIdleFreeAt, IsUnion}
use Rattle.pq_rewrite.specs.Merged.{IsMerge, MergesAt}
use Rattle.pq_rewrite.specs.Rewriting.{ChangesAll, CoversWrites, Gives, IsGiving, IsIdleFree}
use Rattle.pq_rewrite.specs.Sequence.{FitInTurn, IsInTurn}
use Rattle.pq_rewrite.proofs.Halves.{all_halves, any_halves}
use Rattle.pq_rewrite.proofs.Merging.{merge_given, merge_within}
use Rattle.pq_rewrite.proofs.Sets.{any_none, given_none, given_same}
use Rattle.pq_rewrite.proofs.Standing.{has_there}

-- a tree that gives some packets gives those that are the same
pub giving_as : (P Q : Numbers → Numbers → Type 0) (t : Tree (List Written)) → ((x y : Numbers) → Fit x → P x y ↔ Q x y) → IsGiving P t → IsGiving Q t
giving_as P Q t same giving x fit = given_same x (P x) (Q x) (value t x) (λ y. same x y fit) (giving x fit)

-- it is idle-free
pub giving_idle_free : (P : Numbers → Numbers → Type 0) (t : Tree (List Written)) → IsGiving P t → IsIdleFree t
giving_idle_free P t giving = giving_as P (Gives t) t (λ x y fit. let g = (giving x fit).gives y in (g.1, g.0)) giving

-- the union of two gives what one or the other is to give
pub union_giving : (P Q : Numbers → Numbers → Type 0) (t u r : Tree (List Written)) → IsGiving P t → IsGiving Q u → IsUnion t u r
    → IsGiving (λ x y. P x y ⊎ Q x y) r
union_giving P Q t u r left right union =
    giving_as (λ x y. Gives t x y ⊎ Gives u x y) (λ x y. P x y ⊎ Q x y) r (λ x y fit. (into x y fit, back x y fit)) union.giving
  where
    into : (x y : Numbers) → Fit x → Gives t x y ⊎ Gives u x y → P x y ⊎ Q x y
    into x y fit (inl given) = inl (((left x fit).gives y).0 given)
    into x y fit (inr given) = inr (((right x fit).gives y).0 given)

    back : (x y : Numbers) → Fit x → P x y ⊎ Q x y → Gives t x y ⊎ Gives u x y
    back x y fit (inl p) = inl (((left x fit).gives y).1 p)
    back x y fit (inr q) = inr (((right x fit).gives y).1 q)

-- and tests only numbers that both may test
pub union_within : (ns : Field → List ℕ) (t u r : Tree (List Written)) → Within ns t → Within ns u → IsUnion t u r → Within ns r
union_within ns t u r left right union f v tested = elim (union.tests (Equal f v) tested) [ inl in_t ↦ left f v in_t | inr in_u ↦ right f v in_u ]

-- a tree at a place that gives some packets is idle-free
pub has_idle_free : (P : Tree (List Written) → Type 0) (Q : Numbers → Numbers → Type 0) → ((t : Tree (List Written)) → P t → IsGiving Q t)
    → (ts : List (Tree (List Written))) (k : ℕ) → HasAt P ts k → IsIdleFreeAt ts k
has_idle_free P Q giving ts k has t is = giving_idle_free Q t (giving t (has_there P ts k t has is))

-- the leaf without writes gives what is written by none
pub none_in_turn : (w : Written) → IsInTurn w [] (Tip [])
none_in_turn w = record {
  giving = λ x fit first second. given_none x (λ y. Any (λ v. y ≡ on v (on w x)) []) (λ y. any_none (λ v. y ≡ on v (on w x)));
  tests = λ ns covers f v none. absurd none;
}

-- two halves of writes may come after others where all may
pub turn_parts : (front back : List Written) → FitInTurn (front ++ back) → FitInTurn front × FitInTurn back
turn_parts front back fit =
    let fits = all_halves AllFit front back fit.0 in (
      (fits.0, room_for (λ ns within. (all_halves (CoversWrites ns) front back within).0) fit.1),
      (fits.1, room_for (λ ns within. (all_halves (CoversWrites ns) front back within).1) fit.1),
    )

module _ (w : Written) (front back : List Written) where
  -- the tree that is merged of those of two halves gives what is written by either
  halves_in_turn : (t u r : Tree (List Written)) → IsInTurn w front t → IsInTurn w back u → IsMerge t u r → IsInTurn w (front ++ back) r
  halves_in_turn t u r left right merge = record {
    giving = λ x fit first second.
        let parts = all_halves (ChangesAll (on w x)) front back second in
        given_same x (λ y. Any (λ v. y ≡ on v (on w x)) front ⊎ Any (λ v. y ≡ on v (on w x)) back)
        (λ y. Any (λ v. y ≡ on v (on w x)) (front ++ back)) (value r x)
        (λ y. any_halves (λ v. y ≡ on v (on w x)) front back)
        (merge_given t u r merge (λ y. Any (λ v. y ≡ on v (on w x)) front) (λ y. Any (λ v. y ≡ on v (on w x)) back) x
        (left.giving x fit first parts.0) (right.giving x fit first parts.1));
    tests = λ ns covers.
        let parts = all_halves (CoversWrites ns) front back covers in
        merge_within t u r merge ns (left.tests ns parts.0) (right.tests ns parts.1);
  }

  module _ (ts : List (Tree (List Written))) (i j : ℕ) (left : HasAt (IsInTurn w front) ts i) (right : HasAt (IsInTurn w back) ts j) where
    -- their trees may come together
    pub turn_halves_fit : FitInTurn (front ++ back) → FitTogetherAt ts i ts j
    turn_halves_fit fit t u t_is u_is =
        let first = has_there (IsInTurn w front) ts i t left t_is in
        let second = has_there (IsInTurn w back) ts j u right u_is in
        room_for (λ ns within. let parts = all_halves (CoversWrites ns) front back within in (first.tests ns parts.0, second.tests ns parts.1)) fit.1

    -- and what is merged of them is the tree of all
    pub turn_merged : (new : List (Tree (List Written))) (id : ℕ) → MergesAt ts i j new id → HasAt (IsInTurn w (front ++ back)) new id
    turn_merged new id merges =
        let made = merges left.0 right.0 left.1 right.1 in
        (made.0, made.1, halves_in_turn left.0 right.0 made.0 left.2 right.2 made.2)
