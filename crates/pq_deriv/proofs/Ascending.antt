-- Lists that ascend, each element once.
use Rattle.std.proofs.Common.{Less, Equal, Greater, ◌≡◌, suc, ◌≤◌, ◌⊎◌, inl, inr, List, [], ◌∷◌, length, map, arith, refl, sym, ap, subst, ◌∙◌, rules}
use Rattle.std.specs.declared.cmp.Ordering.{Ordering}
use Rattle.std.specs.Ordering.{ordering_reverse, match_ordering}
use Rattle.std.specs.Cmp.{IsTotalOrder}
use Rattle.std.specs.List.{AllByRecursion}
use Rattle.std.specs.List.Sorted.{IsStrictlySortedBy}
use Rattle.std.specs.BTreeSet.{insert_key}
use Rattle.pq_lists.proofs.Holding.{all_weaker}
use Rattle.pq_deriv.specs.Choices.{IsOneOf, sublists}
use Rattle.pq_deriv.proofs.Choices.{one_changed, one_before, one_behind}

-- what is true of all elements is true of each
pub of_one : {X : Type 0} (P : X → Type 0) (xs : List X) (x : X) → AllByRecursion P xs → IsOneOf xs x → P x
of_one P [] x all one = absurd one
of_one P (y ∷ xs) x all (inl is) = subst P is all.0
of_one P (y ∷ xs) x all (inr one) = of_one P xs x all.1 one

-- what follows from two things for each follows for all
pub for_both : {X : Type 0} (P Q R : X → Type 0) (xs : List X) → ((x : X) → P x → Q x → R x) → AllByRecursion P xs → AllByRecursion Q xs → AllByRecursion R xs
for_both P Q R [] follows ps qs = ps
for_both P Q R (x ∷ xs) follows ps qs = (follows x ps.0 qs.0, for_both P Q R xs follows ps.1 qs.1)

-- a list that an ordering chooses
by_order : {X : Type 0} (P : X → Type 0) (o : Ordering) (less equal greater : X) → (o ≡ Less → P less) → (o ≡ Equal → P equal)
    → (o ≡ Greater → P greater) → P (match_ordering o less equal greater)
by_order P Less less equal greater a b c = a refl
by_order P Equal less equal greater a b c = b refl
by_order P Greater less equal greater a b c = c refl

module _ {K : Type 0} (cmp : K → K → Ordering) (total : IsTotalOrder cmp) where
  -- not both are below
  one_way : (x y : K) → cmp x y ≡ Less → cmp y x ≡ Less → ⊥
  one_way x y up down = search (sym up ∙ total.antisymm x y ∙ ap ordering_reverse down, rules)

  -- of elements that ascend, each after one of the list is another one of it
  later : (a x y : K) (all : List K) → AllByRecursion (λ z. cmp a z ≡ Less) all → cmp x y ≡ Less → (a ≡ x) ⊎ IsOneOf all x
      → (a ≡ y) ⊎ IsOneOf all y → IsOneOf all y
  later a x y all whole above one (inr other) = other
  later a x y all whole above (inl is) (inl same) =
      absurd (one_way x y above
      (subst (λ (z : K). cmp y z ≡ Less) (sym same ∙ is) (subst (λ (z : K). cmp z y ≡ Less) (sym is ∙ same) above)))
  later a x y all whole above (inr one) (inl same) =
      absurd (one_way x y above (subst (λ (z : K). cmp z x ≡ Less) same (of_one (λ z. cmp a z ≡ Less) all x whole one)))

  -- an ascending list of some elements of an ascending list leaves out the others
  pub one_sublist : (all xs : List K) → IsStrictlySortedBy cmp all → IsStrictlySortedBy cmp xs → AllByRecursion (IsOneOf all) xs → IsOneOf (sublists all) xs
  unfolding IsStrictlySortedBy
  one_sublist [] [] whole up ones = inl refl
  one_sublist [] (x ∷ xs) whole up ones = absurd ones.0
  one_sublist (a ∷ all) [] whole up ones = one_behind (map (λ s. a ∷ s) (sublists all)) (sublists all) [] (one_sublist all [] whole.1 up ones)
  one_sublist (a ∷ all) (x ∷ xs) whole up ones =
      let rest : AllByRecursion (IsOneOf all) xs = for_both (λ y. cmp x y ≡ Less) (IsOneOf (a ∷ all)) (IsOneOf all) xs
      (λ y above one. later a x y all whole.0 above ones.0 one) up.0 ones.1 in
      elim ones.0 [
        | inl is ↦ one_before (map (λ s. a ∷ s) (sublists all)) (sublists all) (x ∷ xs)
            (subst (λ (z : K). IsOneOf (map (λ s. a ∷ s) (sublists all)) (z ∷ xs)) is
            (one_changed (λ s. a ∷ s) (sublists all) xs (one_sublist all xs whole.1 up.1 rest)))
        | inr one ↦ one_behind (map (λ s. a ∷ s) (sublists all)) (sublists all) (x ∷ xs) (one_sublist all (x ∷ xs) whole.1 up (one, rest))
      ]

  -- what is above an element is above what is below it
  lower : (x y : K) (ys : List K) → cmp x y ≡ Less → AllByRecursion (λ z. cmp y z ≡ Less) ys → AllByRecursion (λ z. cmp x z ≡ Less) ys
  lower x y ys below above = all_weaker (λ z. cmp y z ≡ Less) (λ z. cmp x z ≡ Less) (λ z. total.trans x y z below) ys above

  -- all elements, with one that is put at its place
  pub all_inserted : (P : K → Type 0) (xs : List K) (k : K) → AllByRecursion P xs → P k → AllByRecursion P (insert_key cmp xs k)
  all_inserted P [] k all also = (also, tt)
  all_inserted P (x ∷ xs) k all also =
      by_order (AllByRecursion P) (cmp k x) (k ∷ x ∷ xs) (x ∷ xs) (x ∷ insert_key cmp xs k) (λ is. (also, all)) (λ is. all)
      (λ is. (all.0, all_inserted P xs k all.1 also))

  pub ascends_inserted : (xs : List K) (k : K) → IsStrictlySortedBy cmp xs → IsStrictlySortedBy cmp (insert_key cmp xs k)
  unfolding IsStrictlySortedBy
  ascends_inserted [] k up = (tt, tt)
  ascends_inserted (x ∷ xs) k up =
      by_order (IsStrictlySortedBy cmp) (cmp k x) (k ∷ x ∷ xs) (x ∷ xs) (x ∷ insert_key cmp xs k)
      (λ is. ((is, lower k x xs is up.0), up)) (λ is. up)
      (λ is. (all_inserted (λ z. cmp x z ≡ Less) xs k up.0 (total.antisymm x k ∙ ap ordering_reverse is), ascends_inserted xs k up.1))

  pub count_inserted : (xs : List K) (k : K) → length (insert_key cmp xs k) ≤ suc (length xs)
  count_inserted [] k = omega arith
  count_inserted (x ∷ xs) k =
      by_order (λ (ys : List K). length ys ≤ suc (length (x ∷ xs))) (cmp k x) (k ∷ x ∷ xs) (x ∷ xs) (x ∷ insert_key cmp xs k)
      (λ is. omega arith) (λ is. omega arith) (λ is. omega (arith, count_inserted xs k))

  pub one_kept : (xs : List K) (k x : K) → IsOneOf xs x → IsOneOf (insert_key cmp xs k) x
  one_kept [] k x one = absurd one
  one_kept (y ∷ xs) k x one =
      by_order (λ (ys : List K). IsOneOf ys x) (cmp k y) (k ∷ y ∷ xs) (y ∷ xs) (y ∷ insert_key cmp xs k)
      (λ is. inr one) (λ is. one) (λ is. elim one [ inl same ↦ inl same | inr later ↦ inr (one_kept xs k x later) ])

  pub one_inserted : ((x y : K) → cmp x y ≡ Equal → x ≡ y) → (xs : List K) (k : K) → IsOneOf (insert_key cmp xs k) k
  one_inserted exact [] k = inl refl
  one_inserted exact (x ∷ xs) k =
      by_order (λ (ys : List K). IsOneOf ys k) (cmp k x) (k ∷ x ∷ xs) (x ∷ xs) (x ∷ insert_key cmp xs k)
      (λ is. inl refl) (λ is. inl (sym (exact k x is))) (λ is. inr (one_inserted exact xs k))
