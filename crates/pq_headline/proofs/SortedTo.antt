-- Keys that tell values apart: a list in another order sorts to the one that rises.
use Rattle.std.proofs.Common.{◌≡◌, ◌∙◌, Bool, true, false, cond, not, ◌&&◌, ℕ, List, [], ◌∷◌, ◌++◌, filter, refl, sym, ap}
use Rattle.std.specs.List.{AllByRecursion}
use Rattle.std.specs.List.Sorted.{ties}
use Rattle.std.proofs.lemmas.Bool.{true≢false}
use Rattle.pq_fields.specs.Packet.{is_before}
use Rattle.pq_model.specs.Install.{AscendsBy}
use Rattle.pq_model.specs.Orders.{IsReordering}
use Rattle.pq_model.specs.Sorting.{sort_by}
use Rattle.pq_model.proofs.Reorderings.{all-front, all-reordering, reordering-filter, reordering-sym, reordering-trans}
use Rattle.pq_model.proofs.Sorted.{Rises, all_above, order, same_risen, sort-rises}
use Rattle.pq_model.proofs.NumberLists.{same_list}
use Rattle.pq_headline.proofs.Reordered.{sort-reorders}

module _ {A : Type 0} where
  -- a value moves to the front of a list of it alone
  slides : (z u : A) (front back : List A) → u ≡ z → AllByRecursion (λ w. w ≡ z) front → u ∷ (front ++ back) ≡ front ++ u ∷ back
  slides z u [] back is all = refl
  slides z u (f ∷ front) back is (here, all) =
      let same : u ≡ f = is ∙ sym here in
      (λ i. same i ∷ sym same i ∷ (front ++ back)) ∙ ap (λ l. f ∷ l) (slides z u front back is all)

  -- a list of one value alone has one order
  alone : (z : A) (us vs : List A) → AllByRecursion (λ w. w ≡ z) us → IsReordering us vs → us ≡ vs
  alone z [] vs all h = sym h
  alone z (u ∷ us) vs (here, all) (front, back, is, h) =
      let rest = all-reordering (λ w. w ≡ z) us (front ++ back) h all in
      ap (λ l. u ∷ l) (alone z us (front ++ back) all h) ∙ slides z u front back here (all-front (λ w. w ≡ z) front back rest) ∙ sym is

module _ {A : Type 0} (key : A → List ℕ) where
  abbrev pub below : A → A → Bool
  below a b = is_before (key a) (key b)

  -- a list whose keys ascend rises
  pub ascending_rises : (xs : List A) → AscendsBy key xs → Rises below (order key) xs
  ascending_rises [] up = tt
  ascending_rises (x ∷ []) up = (tt, tt)
  ascending_rises (x ∷ y ∷ zs) up =
      let rest = ascending_rises (y ∷ zs) up.1 in
      let here = (order key).one_way x y up.0 in
      ((here, all_above key x y zs here rest.0), rest)

  module _ (tells : (x y : A) → key x ≡ key y → x ≡ y) where
    tied : (z x : A) → ties below z x ≡ true → x ≡ z
    tied z x e = by (below z x) (below x z) refl refl e
      where
        by : (b c : Bool) → below z x ≡ b → below x z ≡ c → not b && not c ≡ true → x ≡ z
        by true c p q e = absurd (true≢false (sym e))
        by false true p q e = absurd (true≢false (sym e))
        by false false p q e = sym (tells z x (same_list (key z) (key x) p q))

    all_tied : (z : A) (xs : List A) → AllByRecursion (λ w. w ≡ z) (filter (ties below z) xs)
    all_tied z [] = tt
    all_tied z (x ∷ xs) = by (ties below z x) refl (all_tied z xs)
      where
        by : (b : Bool) → ties below z x ≡ b → AllByRecursion (λ w. w ≡ z) (filter (ties below z) xs)
            → AllByRecursion (λ w. w ≡ z) (cond b (x ∷ filter (ties below z) xs) (filter (ties below z) xs))
        by true e more = (tied z x e, more)
        by false e more = more

    -- lists of the same values that rise are the same
    risen_same : (xs ys : List A) → Rises below (order key) xs → Rises below (order key) ys → IsReordering xs ys → xs ≡ ys
    risen_same xs ys left right h =
        same_risen below (order key) xs ys left right
        (λ z. alone z (filter (ties below z) xs) (filter (ties below z) ys) (all_tied z xs) (reordering-filter (ties below z) xs ys h))

    -- a list sorts to the one of the same values that rises
    pub sorts_to : (xs ys : List A) → IsReordering xs ys → Rises below (order key) ys → sort_by key xs ≡ ys
    sorts_to xs ys h up =
        risen_same (sort_by key xs) ys (sort-rises key xs) up
        (reordering-trans (sort_by key xs) xs ys (reordering-sym xs (sort_by key xs) (sort-reorders key xs)) h)
