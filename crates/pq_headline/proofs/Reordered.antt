-- Lists with the same values in another order: joined, mapped, summed in either order, and sorted.
use Rattle.std.proofs.Common.{◌≡◌, ◌∙◌, Bool, true, false, ℕ, List, [], ◌∷◌, ◌++◌, map, if◌then◌else◌, append_assoc, refl, sym, ap, subst}
use Rattle.std.specs.List.{flat_map}
use Rattle.std.proofs.lemmas.List.{map-append}
use Rattle.std.proofs.lemmas.List.Concat.{flat_map-append}
use Rattle.pq_fields.specs.Packet.{is_before}
use Rattle.pq_model.specs.Orders.{IsReordering}
use Rattle.pq_model.specs.Sorting.{put_by, sort_by}
use Rattle.pq_model.proofs.Reorderings.{reordering-more, reordering-refl, reordering-sym, reordering-trans}

module _ {A : Type 0} where
  pub reordering-cons : (x : A) (xs ys : List A) → IsReordering xs ys → IsReordering (x ∷ xs) (x ∷ ys)
  reordering-cons x xs ys h = ([], ys, refl, h)

  pub reordering-left : (xs ys zs : List A) → IsReordering ys zs → IsReordering (xs ++ ys) (xs ++ zs)
  reordering-left [] ys zs h = h
  reordering-left (x ∷ xs) ys zs h = ([], xs ++ zs, refl, reordering-left xs ys zs h)

  pub reordering-both : (xs ys us vs : List A) → IsReordering xs ys → IsReordering us vs → IsReordering (xs ++ us) (ys ++ vs)
  reordering-both xs ys us vs h k = reordering-trans (xs ++ us) (ys ++ us) (ys ++ vs) (reordering-more xs ys us h) (reordering-left ys us vs k)

  -- a part moves after the next
  pub reordering-moved : (xs ys zs : List A) → IsReordering (xs ++ (ys ++ zs)) (ys ++ (xs ++ zs))
  reordering-moved [] ys zs = reordering-refl (ys ++ zs)
  reordering-moved (x ∷ xs) ys zs = (ys, xs ++ zs, refl, reordering-moved xs ys zs)

module _ {A B : Type 0} (f : A → B) where
  pub reordering-map : (xs ys : List A) → IsReordering xs ys → IsReordering (map f xs) (map f ys)
  reordering-map [] ys h = ap (map f) h
  reordering-map (x ∷ xs) ys (front, back, is, h) = (
    map f front,
    map f back,
    ap (map f) is ∙ map-append f front (x ∷ back),
    subst (IsReordering (map f xs)) (map-append f front back) (reordering-map xs (front ++ back) h),
  )

module _ {A B : Type 0} (f : A → List B) where
  pub reordering-flat_map : (xs ys : List A) → IsReordering xs ys → IsReordering (flat_map f xs) (flat_map f ys)
  reordering-flat_map [] ys h = ap (flat_map f) h
  reordering-flat_map (x ∷ xs) ys (front, back, is, h) =
      let more : IsReordering (flat_map f xs) (flat_map f front ++ flat_map f back) =
      subst (IsReordering (flat_map f xs)) (flat_map-append f front back) (reordering-flat_map xs (front ++ back) h) in
      let whole : flat_map f ys ≡ flat_map f front ++ (f x ++ flat_map f back) = ap (flat_map f) is ∙ flat_map-append f front (x ∷ back) in
      subst (IsReordering (f x ++ flat_map f xs)) (sym whole)
      (reordering-trans (f x ++ flat_map f xs) (f x ++ (flat_map f front ++ flat_map f back)) (flat_map f front ++ (f x ++ flat_map f back))
      (reordering-left (f x) (flat_map f xs) (flat_map f front ++ flat_map f back) more)
      (reordering-moved (f x) (flat_map f front) (flat_map f back)))

module _ {A B : Type 0} where
  -- two parts of each, part by part
  pub reordering-parts : (f h : A → List B) (xs : List A) → IsReordering (flat_map (λ x. f x ++ h x) xs) (flat_map f xs ++ flat_map h xs)
  reordering-parts f h [] = refl
  reordering-parts f h (x ∷ xs) =
      let rest = flat_map (λ x. f x ++ h x) xs in
      let fs = flat_map f xs in
      let hs = flat_map h xs in
      let step : IsReordering (f x ++ (h x ++ rest)) (f x ++ (fs ++ (h x ++ hs))) =
      reordering-left (f x) (h x ++ rest) (fs ++ (h x ++ hs))
      (reordering-trans (h x ++ rest) (h x ++ (fs ++ hs)) (fs ++ (h x ++ hs))
      (reordering-left (h x) rest (fs ++ hs) (reordering-parts f h xs)) (reordering-moved (h x) fs hs)) in
      let left : IsReordering ((f x ++ h x) ++ rest) (f x ++ (fs ++ (h x ++ hs))) =
      subst (λ l. IsReordering l (f x ++ (fs ++ (h x ++ hs)))) (sym (append_assoc (f x) (h x) rest)) step in
      subst (IsReordering ((f x ++ h x) ++ rest)) (sym (append_assoc (f x) fs (h x ++ hs))) left

  none_of_each : (ys : List A) → flat_map {X = A} {A = B} (λ y. []) ys ≡ []
  none_of_each [] = refl
  none_of_each (y ∷ ys) = none_of_each ys

module _ {A B C : Type 0} (f : A → B → List C) where
  -- what pairs give, by the one or by the other
  pub reordering-turned : (xs : List A) (ys : List B) → IsReordering (flat_map (λ x. flat_map (λ y. f x y) ys) xs) (flat_map (λ y. flat_map (λ x. f x y) xs) ys)
  reordering-turned [] ys = none_of_each ys
  reordering-turned (x ∷ xs) ys =
      let rest = flat_map (λ x. flat_map (λ y. f x y) ys) xs in
      let turned = flat_map (λ y. flat_map (λ x. f x y) xs) ys in
      let whole = flat_map (λ y. f x y ++ flat_map (λ x. f x y) xs) ys in
      reordering-trans (flat_map (f x) ys ++ rest) (flat_map (f x) ys ++ turned) whole
      (reordering-left (flat_map (f x) ys) rest turned (reordering-turned xs ys))
      (reordering-sym whole (flat_map (f x) ys ++ turned) (reordering-parts (f x) (λ y. flat_map (λ x. f x y) xs) ys))

module _ {A : Type 0} (key : A → List ℕ) where
  put-reorders : (x : A) (ys : List A) → IsReordering (x ∷ ys) (put_by key x ys)
  put-reorders x [] = ([], [], refl, refl)
  put-reorders x (y ∷ ys) = by (is_before (key y) (key x)) (put-reorders x ys)
    where
      by : (b : Bool) → IsReordering (x ∷ ys) (put_by key x ys) → IsReordering (x ∷ y ∷ ys) (if b then y ∷ put_by key x ys else x ∷ y ∷ ys)
      by true (front, back, is, h) = (y ∷ front, back, ap (λ l. y ∷ l) is, ([], front ++ back, refl, h))
      by false h = ([], y ∷ ys, refl, reordering-refl (y ∷ ys))

  -- a sorted list has the same values
  pub sort-reorders : (xs : List A) → IsReordering xs (sort_by key xs)
  sort-reorders [] = refl
  sort-reorders (x ∷ xs) = reordering-trans (x ∷ xs) (x ∷ sort_by key xs) (put_by key x (sort_by key xs))
      (reordering-cons x xs (sort_by key xs) (sort-reorders xs)) (put-reorders x (sort_by key xs))
