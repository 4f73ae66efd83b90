-- A list in the order of its keys, with ties as they was, is the list sorted by these keys.
use Rattle.std.proofs.Common.{◌≡◌, ℕ, suc, ◌<◌, ◌≤◌, Bool, true, false, not, cond, ◌&&◌, ◌||◌, ◌==◌, nat_lt, if◌then◌else◌, List, [], ◌∷◌}
use Rattle.std.proofs.Common.{length, get_or, refl, sym, ap, subst, ◌∙◌, arith}
use Rattle.std.specs.declared.cmp.Ordering.TheVariants.{Less, Equal, Greater}
use Rattle.std.specs.Cmp.{IsStrictWeakOrder}
use Rattle.std.specs.Cmp.Lexicographic.{slice_cmp, nat_list_cmp_total}
use Rattle.std.specs.List.{AllByRecursion, filter}
use Rattle.std.specs.List.Sorted.{IsSortedBy, IsStableBy, ties}
use Rattle.std.specs.Ordering.{nat_cmp, is_lt, ordering_then}
use Rattle.std.proofs.lemmas.Bool.{true≢false}
use Rattle.std.proofs.lemmas.List.Sorted.{sorted_far, ranks_by}
use Rattle.pq_fields.specs.Packet.{is_before}
use Rattle.pq_model.specs.Sorting.{put_by, sort_by}

full_is_no_empty : {A : Type 0} (x : A) (xs : List A) → x ∷ xs ≡ [] → ⊥
full_is_no_empty x xs e = subst (λ l. elim l as (λ _. Type 0) [ [] ↦ ⊥ | y ∷ ys ↦ Unit {0} ]) e tt

abbrev head_of : {A : Type 0} → A → List A → A
head_of d [] = d
head_of d (x ∷ xs) = x

abbrev tail_of : {A : Type 0} → List A → List A
tail_of [] = []
tail_of (x ∷ xs) = xs

-- the order of lists of numbers, as `<` answers it
pub before-cmp : (xs ys : List ℕ) → is_lt (slice_cmp nat_cmp xs ys) ≡ is_before xs ys
before-cmp [] [] = refl
before-cmp (x ∷ xs) [] = refl
before-cmp [] (y ∷ ys) = refl
before-cmp (x ∷ xs) (y ∷ ys) = by (nat_lt x y) (x == y) refl refl (before-cmp xs ys)
  where
    by : (b c : Bool) → nat_lt x y ≡ b → (x == y) ≡ c → is_lt (slice_cmp nat_cmp xs ys) ≡ is_before xs ys
        → is_lt (ordering_then (cond b Less (cond c Equal Greater)) (slice_cmp nat_cmp xs ys)) ≡ b || (c && is_before xs ys)
    by true c p q h = refl
    by false true p q h = h
    by false false p q h = refl

pub before_is_order : {A : Type 0} (key : A → List ℕ) → IsStrictWeakOrder (λ a b. is_before (key a) (key b))
before_is_order {A} key = subst IsStrictWeakOrder (λ i a b. before-cmp (key a) (key b) i) (ranks_by nat_list_cmp_total key)

module _ {A : Type 0} (lt : A → A → Bool) (o : IsStrictWeakOrder lt) where
  -- none is below one before it
  abbrev pub Rises : List A → Type 0
  Rises [] = Unit {0}
  Rises (x ∷ xs) = AllByRecursion (λ y. lt y x ≡ false) xs × Rises xs

  itself : (x : A) → lt x x ≡ false
  itself x = by (lt x x) refl
    where
      by : (b : Bool) → lt x x ≡ b → b ≡ false
      by true e = sym e ∙ o.one_way x x e
      by false e = refl

  ties_itself : (x : A) → ties lt x x ≡ true
  ties_itself x = λ i. not (itself x i) && not (itself x i)

  not_below : (x z : A) → ties lt z x ≡ true → lt z x ≡ false
  not_below x z h = by (lt z x) (lt x z) h
    where
      by : (b c : Bool) → not b && not c ≡ true → b ≡ false
      by true c h = sym h
      by false c h = refl

  not_above : (x z : A) → ties lt z x ≡ true → lt x z ≡ false
  not_above x z h = by (lt z x) (lt x z) h
    where
      by : (b c : Bool) → not b && not c ≡ true → c ≡ false
      by true true h = sym h
      by false true h = sym h
      by b false h = refl

  -- what ties with x does not tie with what is below x
  apart : (x y z : A) → lt y x ≡ true → ties lt z x ≡ true → ties lt z y ≡ false
  apart x y z below h = by (ties lt z y) refl
    where
      by : (b : Bool) → ties lt z y ≡ b → b ≡ false
      by true e = sym below ∙ o.chain y z x (not_above y z e) (not_below x z h)
      by false e = refl

  all_of : (P : A → Type 0) (xs : List A) → ((k : ℕ) (d : A) → k < length xs → P (get_or xs k d)) → AllByRecursion P xs
  all_of P [] h = tt
  all_of P (x ∷ xs) h = (h 0 x (omega arith), all_of P xs (λ k d below. h (suc k) d (omega arith)))

  rises_of : (xs : List A) → ((i j : ℕ) (d : A) → i ≤ j → j < length xs → lt (get_or xs j d) (get_or xs i d) ≡ false) → Rises xs
  rises_of [] h = tt
  rises_of (x ∷ xs) h = (
    all_of (λ y. lt y x ≡ false) xs (λ k d below. h 0 (suc k) d (omega arith) (omega arith)),
    rises_of xs (λ i j d le below. h (suc i) (suc j) d (omega arith) (omega arith)),
  )

  found : (P : A → Type 0) (p : A → Bool) (x : A) (xs rest : List A) → AllByRecursion P xs → filter p xs ≡ x ∷ rest → P x
  found P p x [] rest all e = absurd (full_is_no_empty x rest (sym e))
  found P p x (y ∷ ys) rest (here, all) e = by (p y) e (found P p x ys rest all)
    where
      by : (b : Bool) → cond b (y ∷ filter p ys) (filter p ys) ≡ x ∷ rest → (filter p ys ≡ x ∷ rest → P x) → P x
      by true e more = subst P (ap (head_of x) e) here
      by false e more = more e

  starts : (x : A) (xs : List A) → filter (ties lt x) (x ∷ xs) ≡ x ∷ filter (ties lt x) xs
  starts x xs = ap (λ b. cond b (x ∷ filter (ties lt x) xs) (filter (ties lt x) xs)) (ties_itself x)

  -- two lists that rise and have the same ties are the same
  pub same_risen : (xs ys : List A) → Rises xs → Rises ys → ((z : A) → filter (ties lt z) xs ≡ filter (ties lt z) ys) → xs ≡ ys
  same_risen [] [] r s h = refl
  same_risen [] (y ∷ ys) r s h = absurd (full_is_no_empty y _ (sym (h y ∙ starts y ys)))
  same_risen (x ∷ xs) [] r s h = absurd (full_is_no_empty x _ (sym (starts x xs) ∙ h x))
  same_risen (x ∷ xs) (y ∷ ys) r s h =
      let above : lt x y ≡ false = found (λ w. lt w y ≡ false) (ties lt x) x (y ∷ ys) _ (itself y, s.0) (sym (h x) ∙ starts x xs) in
      let below : lt y x ≡ false = found (λ w. lt w x ≡ false) (ties lt y) y (x ∷ xs) _ (itself x, r.0) (h y ∙ starts y ys) in
      let tied : ties lt x y ≡ true = (λ i. not (above i) && not (below i)) in
      let head : x ≡ y = ap (head_of x) (sym (starts x xs) ∙ h x ∙ ap (λ b. cond b (y ∷ filter (ties lt x) ys) (filter (ties lt x) ys)) tied) in
      λ i. head i ∷ same_risen xs ys r.1 s.1 (λ z. by z (ties lt z x) (ties lt z y) (ap (ties lt z) head) (h z)) i
    where
      by : (z : A) (b c : Bool) → b ≡ c → cond b (x ∷ filter (ties lt z) xs) (filter (ties lt z) xs) ≡ cond c (y ∷ filter (ties lt z) ys)
          (filter (ties lt z) ys) → filter (ties lt z) xs ≡ filter (ties lt z) ys
      by z true true e h = ap tail_of h
      by z true false e h = absurd (true≢false e)
      by z false true e h = absurd (true≢false (sym e))
      by z false false e h = h

module _ {A : Type 0} (key : A → List ℕ) where
  abbrev below : A → A → Bool
  below a b = is_before (key a) (key b)

  pub order : IsStrictWeakOrder below
  order = before_is_order key

  pub filter-choice : (p : A → Bool) (b : Bool) (xs ys : List A) → filter p (if b then xs else ys) ≡ cond b (filter p xs) (filter p ys)
  filter-choice p true xs ys = refl
  filter-choice p false xs ys = refl

  passed : (x y : A) (b c d : Bool) (put rest : List A) → put ≡ cond c (x ∷ rest) rest → (b ≡ true → c ≡ true → d ≡ false) →
      cond b (cond d (y ∷ put) put) (cond c (x ∷ cond d (y ∷ rest) rest) (cond d (y ∷ rest) rest)) ≡ cond c (x ∷ cond d (y ∷ rest) rest)
      (cond d (y ∷ rest) rest)
  passed x y true true true put rest more far = absurd (true≢false (far refl refl))
  passed x y true true false put rest more far = more
  passed x y true false true put rest more far = ap (λ l. y ∷ l) more
  passed x y true false false put rest more far = more
  passed x y false c d put rest more far = refl

  put-ties : (x z : A) (ys : List A) → filter (ties below z) (put_by key x ys) ≡ filter (ties below z) (x ∷ ys)
  put-ties x z [] = refl
  put-ties x z (y ∷ ys) = filter-choice (ties below z) (below y x) (y ∷ put_by key x ys) (x ∷ y ∷ ys)
      ∙ passed x y (below y x) (ties below z x) (ties below z y) _ _ (put-ties x z ys) (apart below order x y z)

  sort-ties : (z : A) (xs : List A) → filter (ties below z) (sort_by key xs) ≡ filter (ties below z) xs
  sort-ties z [] = refl
  sort-ties z (x ∷ xs) = put-ties x z (sort_by key xs) ∙ ap (λ l. cond (ties below z x) (x ∷ l) l) (sort-ties z xs)

  pub put-all : (P : A → Type 0) (x : A) (ys : List A) → P x → AllByRecursion P ys → AllByRecursion P (put_by key x ys)
  put-all P x [] here all = (here, tt)
  put-all P x (y ∷ ys) here (first, all) = by (below y x) (put-all P x ys here all)
    where
      by : (b : Bool) → AllByRecursion P (put_by key x ys) → AllByRecursion P (if b then y ∷ put_by key x ys else x ∷ y ∷ ys)
      by true more = (first, more)
      by false more = (here, (first, all))

  -- what holds of all values holds of all that are sorted
  pub sort-all : (P : A → Type 0) (xs : List A) → AllByRecursion P xs → AllByRecursion P (sort_by key xs)
  sort-all P [] all = tt
  sort-all P (x ∷ xs) (here, all) = put-all P x (sort_by key xs) here (sort-all P xs all)

  pub all_above : (x y : A) (ys : List A) → below y x ≡ false → AllByRecursion (λ w. below w y ≡ false) ys → AllByRecursion (λ w. below w x ≡ false) ys
  all_above x y [] h all = tt
  all_above x y (w ∷ ys) h (here, all) = (order.chain w y x here h, all_above x y ys h all)

  put-rises : (x : A) (ys : List A) → Rises below order ys → Rises below order (put_by key x ys)
  put-rises x [] r = (tt, tt)
  put-rises x (y ∷ ys) (above, r) = by (below y x) refl (put-rises x ys r)
    where
      by : (b : Bool) → below y x ≡ b → Rises below order (put_by key x ys) → Rises below order (if b then y ∷ put_by key x ys else x ∷ y ∷ ys)
      by true e more = (put-all (λ w. below w y ≡ false) x ys (order.one_way y x e) above, more)
      by false e more = ((e, all_above x y ys e above), (above, r))

  pub sort-rises : (xs : List A) → Rises below order (sort_by key xs)
  sort-rises [] = tt
  sort-rises (x ∷ xs) = put-rises x (sort_by key xs) (sort-rises xs)

  -- what a stable sort leaves
  pub sorted_stably : (xs ys : List A) → IsSortedBy below ys → IsStableBy below xs ys → ys ≡ sort_by key xs
  sorted_stably xs ys sorted stable = same_risen below order ys (sort_by key xs) (rises_of below order ys (sorted_far below order ys sorted)) (sort-rises xs)
      (λ z. stable z ∙ sym (sort-ties z xs))
