-- A sorted list, when values are taken out or a greater one is put in.
use Rattle.std.proofs.Common.{◌≡◌, ℕ, Bool, true, false, cond, if◌then◌else◌, List, [], ◌∷◌, ◌++◌, refl, sym, ap, ◌∙◌}
use Rattle.std.specs.List.{AllByRecursion, filter}
use Rattle.pq_lists.proofs.Holding.{all_filter}
use Rattle.pq_fields.specs.Packet.{is_before}
use Rattle.pq_model.specs.Sorting.{put_by, sort_by}
use Rattle.pq_model.proofs.Sorted.{Rises, all_above, filter-choice, order, sort-all, sort-rises}

module _ {A : Type 0} (key : A → List ℕ) where
  abbrev below : A → A → Bool
  below a b = is_before (key a) (key b)

  -- what is below none of a list is first
  put-first : (x : A) (ys : List A) → AllByRecursion (λ y. below y x ≡ false) ys → put_by key x ys ≡ x ∷ ys
  put-first x [] all = refl
  put-first x (y ∷ ys) (here, all) = ap (λ b. if b then y ∷ put_by key x ys else x ∷ y ∷ ys) here

  filter-put : (p : A → Bool) (x : A) (ys : List A) → Rises below (order key) ys
      → filter p (put_by key x ys) ≡ cond (p x) (put_by key x (filter p ys)) (filter p ys)
  filter-put p x [] r = refl
  filter-put p x (y ∷ ys) (above, r) = filter-choice key p (below y x) (y ∷ put_by key x ys) (x ∷ y ∷ ys)
      ∙ by (below y x) refl (p x) (p y) (filter-put p x ys r)
    where
      by : (b : Bool) → below y x ≡ b → (c d : Bool) → filter p (put_by key x ys) ≡ cond c (put_by key x (filter p ys)) (filter p ys) →
          cond b (cond d (y ∷ filter p (put_by key x ys)) (filter p (put_by key x ys)))
          (cond c (x ∷ cond d (y ∷ filter p ys) (filter p ys)) (cond d (y ∷ filter p ys) (filter p ys)))
          ≡ cond c (put_by key x (cond d (y ∷ filter p ys) (filter p ys))) (cond d (y ∷ filter p ys) (filter p ys))
      by true e true true more = ap (λ l. y ∷ l) more ∙ sym (ap (λ b. if b then y ∷ put_by key x (filter p ys) else x ∷ y ∷ filter p ys) e)
      by true e true false more = more
      by true e false true more = ap (λ l. y ∷ l) more
      by true e false false more = more
      by false e true true more = sym (put-first x (y ∷ filter p ys) (e, all_above key x y (filter p ys) e (all_filter (λ w. below w y ≡ false) p ys above)))
      by false e true false more = sym (put-first x (filter p ys) (all_above key x y (filter p ys) e (all_filter (λ w. below w y ≡ false) p ys above)))
      by false e false d more = refl

  pub sort-filter : (p : A → Bool) (xs : List A) → sort_by key (filter p xs) ≡ filter p (sort_by key xs)
  sort-filter p [] = refl
  sort-filter p (x ∷ xs) = by (p x) (sort-filter p xs) ∙ sym (filter-put p x (sort_by key xs) (sort-rises key xs))
    where
      by : (b : Bool) → sort_by key (filter p xs) ≡ filter p (sort_by key xs)
          → sort_by key (cond b (x ∷ filter p xs) (filter p xs)) ≡ cond b (put_by key x (filter p (sort_by key xs)))
          (filter p (sort_by key xs))
      by true more = ap (put_by key x) more
      by false more = more

  put-last : (x : A) (ys : List A) → AllByRecursion (λ y. below y x ≡ true) ys → put_by key x ys ≡ ys ++ x ∷ []
  put-last x [] all = refl
  put-last x (y ∷ ys) (here, all) = ap (λ b. if b then y ∷ put_by key x ys else x ∷ y ∷ ys) here ∙ ap (λ l. y ∷ l) (put-last x ys all)

  put-before : (x z : A) (ys : List A) → below z x ≡ false → put_by key x (ys ++ z ∷ []) ≡ put_by key x ys ++ z ∷ []
  put-before x z [] h = ap (λ b. if b then z ∷ x ∷ [] else x ∷ z ∷ []) h
  put-before x z (y ∷ ys) h = ap (λ l. if below y x then y ∷ l else x ∷ y ∷ (ys ++ z ∷ [])) (put-before x z ys h) ∙ by (below y x)
    where
      by : (b : Bool) → (if b then y ∷ (put_by key x ys ++ z ∷ []) else x ∷ y ∷ (ys ++ z ∷ [])) ≡ (if b then y ∷ put_by key x ys else x ∷ y ∷ ys) ++ z ∷ []
      by true = refl
      by false = refl

  -- the greatest of a list is last, wherever it was
  pub sort-greatest : (front : List A) (x : A) (back : List A) → AllByRecursion (λ y. below y x ≡ true) (front ++ back)
      → sort_by key (front ++ x ∷ back) ≡ sort_by key (front ++ back) ++ x ∷ []
  sort-greatest [] x back all = put-last x (sort_by key back) (sort-all key (λ y. below y x ≡ true) back all)
  sort-greatest (y ∷ front) x back (here, all) =
      ap (put_by key y) (sort-greatest front x back all) ∙ put-before y x (sort_by key (front ++ back)) ((order key).one_way y x here)
