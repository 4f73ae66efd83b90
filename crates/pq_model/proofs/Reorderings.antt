-- Lists that have the same values in some order.
use Rattle.std.proofs.Common.{◌≡◌, ◌⊎◌, Bool, true, false, cond, List, [], ◌∷◌, ◌++◌, filter, refl, sym, ap, subst, ◌∙◌, inl, inr, append_assoc}
use Rattle.std.specs.List.{AllByRecursion}
use Rattle.std.proofs.lemmas.List.Elements.{filter-append}
use Rattle.pq_model.specs.Orders.{IsReordering}

module _ {A : Type 0} where
  -- of two divisions of one list, the value lies within the first part, or after it
  pub record Within (front back first last : List A) (x : A) : Type 0 where
    pub between : List A
    pub holds : front ≡ first ++ x ∷ between
    pub after : last ≡ between ++ back

  pub record Behind (front back first last : List A) (x : A) : Type 0 where
    pub between : List A
    pub before : first ≡ front ++ between
    pub holds : back ≡ between ++ x ∷ last

  longer : (f : A) (front back first last : List A) (x : A) → Within front back first last x ⊎ Behind front back first last x
      → Within (f ∷ front) back (f ∷ first) last x ⊎ Behind (f ∷ front) back (f ∷ first) last x
  longer f front back first last x (inl w) = inl (record { between = w.between; holds = ap (λ l. f ∷ l) w.holds; after = w.after })
  longer f front back first last x (inr b) = inr (record { between = b.between; before = ap (λ l. f ∷ l) b.before; holds = b.holds })

  pub divided : (front back first last : List A) (x : A) → front ++ back ≡ first ++ x ∷ last → Within front back first last x ⊎ Behind front back first last x
  divided [] back first last x e = inr (record { between = first; before = refl; holds = e })
  divided (f ∷ front) back [] last x e =
      let here : f ≡ x = cc in
      let rest : front ++ back ≡ last = cc in
      inl (record { between = front; holds = ap (λ y. y ∷ front) here; after = sym rest })
  divided (f ∷ front) back (g ∷ first) last x e =
      let here : f ≡ g = cc in
      let rest : front ++ back ≡ first ++ x ∷ last = cc in
      subst (λ h. Within (f ∷ front) back (h ∷ first) last x ⊎ Behind (f ∷ front) back (h ∷ first) last x) here
      (longer f front back first last x (divided front back first last x rest))

  pub reordering-refl : (xs : List A) → IsReordering xs xs
  reordering-refl [] = refl
  reordering-refl (x ∷ xs) = ([], xs, refl, reordering-refl xs)

  -- a value put anywhere into the first list, and at the front of the second
  pub reordering-put : (x : A) (front back ys : List A) → IsReordering (front ++ back) ys → IsReordering (front ++ x ∷ back) (x ∷ ys)
  reordering-put x [] back ys h = ([], ys, refl, h)
  reordering-put x (f ∷ front) back ys (first, last, e, h) =
      (x ∷ first, last, ap (λ l. x ∷ l) e, reordering-put x front back (first ++ last) h)

  pub reordering-sym : (xs ys : List A) → IsReordering xs ys → IsReordering ys xs
  reordering-sym [] ys h = subst (λ l. IsReordering l []) (sym h) refl
  reordering-sym (x ∷ xs) ys (front, back, e, h) =
      subst (λ l. IsReordering l (x ∷ xs)) (sym e) (reordering-put x front back xs (reordering-sym xs (front ++ back) h))

  -- a value taken out of the first list can be taken out of the second
  pub record TakenOut (x : A) (xs ys : List A) : Type 0 where
    pub front : List A
    pub back : List A
    pub is : ys ≡ front ++ x ∷ back
    pub rest : IsReordering xs (front ++ back)

  put_back : (x f : A) (first last : List A) (xs : List A) (t : TakenOut x xs (first ++ last))
      → Within first last t.front t.back x ⊎ Behind first last t.front t.back x → TakenOut x (f ∷ xs) (first ++ f ∷ last)
  put_back x f first last xs t (inl w) = record {
    front = t.front;
    back = w.between ++ f ∷ last;
    is = ap (λ l. l ++ f ∷ last) w.holds ∙ append_assoc t.front (x ∷ w.between) (f ∷ last);
    rest = (
      t.front ++ w.between,
      last,
      sym (append_assoc t.front w.between (f ∷ last)),
      subst (IsReordering xs) (ap (λ l. t.front ++ l) w.after ∙ sym (append_assoc t.front w.between last)) t.rest,
    );
  }
  put_back x f first last xs t (inr b) = record {
    front = first ++ f ∷ b.between;
    back = t.back;
    is = ap (λ l. first ++ f ∷ l) b.holds ∙ sym (append_assoc first (f ∷ b.between) (x ∷ t.back));
    rest = (
      first,
      b.between ++ t.back,
      append_assoc first (f ∷ b.between) t.back,
      subst (IsReordering xs) (ap (λ l. l ++ t.back) b.before ∙ append_assoc first b.between t.back) t.rest,
    );
  }

  pub reordering-out : (x : A) (front back ys : List A) → IsReordering (front ++ x ∷ back) ys → TakenOut x (front ++ back) ys
  reordering-out x [] back ys (first, last, e, h) = record { front = first; back = last; is = e; rest = h }
  reordering-out x (f ∷ front) back ys (first, last, e, h) =
      let t = reordering-out x front back (first ++ last) h in
      subst (TakenOut x (f ∷ (front ++ back))) (sym e) (put_back x f first last (front ++ back) t (divided first last t.front t.back x t.is))

  pub reordering-trans : (xs ys zs : List A) → IsReordering xs ys → IsReordering ys zs → IsReordering xs zs
  reordering-trans [] ys zs h k = subst (λ l. IsReordering l zs) h k
  reordering-trans (x ∷ xs) ys zs (front, back, e, h) k =
      let t = reordering-out x front back zs (subst (λ l. IsReordering l zs) e k) in
      (t.front, t.back, t.is, reordering-trans xs (front ++ back) (t.front ++ t.back) h t.rest)

  pub reordering-more : (xs ys zs : List A) → IsReordering xs ys → IsReordering (xs ++ zs) (ys ++ zs)
  reordering-more [] ys zs h = subst (λ l. IsReordering zs (l ++ zs)) (sym h) (reordering-refl zs)
  reordering-more (x ∷ xs) ys zs (front, back, e, h) = (
    front,
    back ++ zs,
    ap (λ l. l ++ zs) e ∙ append_assoc front (x ∷ back) zs,
    subst (IsReordering (xs ++ zs)) (append_assoc front back zs) (reordering-more xs (front ++ back) zs h),
  )

  pub reordering-exchange : (xs : List A) (y z : A) → IsReordering (xs ++ y ∷ z ∷ []) (xs ++ z ∷ y ∷ [])
  reordering-exchange [] y z = (z ∷ [], [], refl, ([], [], refl, refl))
  reordering-exchange (x ∷ xs) y z = ([], xs ++ z ∷ y ∷ [], refl, reordering-exchange xs y z)

  kept_of : (p : A → Bool) (b : Bool) (x : A) (xs front back : List A) → IsReordering xs (front ++ back)
      → IsReordering (cond b (x ∷ xs) xs) (front ++ cond b (x ∷ back) back)
  kept_of p true x xs front back h = (front, back, refl, h)
  kept_of p false x xs front back h = h

  pub reordering-filter : (p : A → Bool) (xs ys : List A) → IsReordering xs ys → IsReordering (filter p xs) (filter p ys)
  reordering-filter p [] ys h = ap (filter p) h
  reordering-filter p (x ∷ xs) ys (front, back, e, h) =
      subst (IsReordering (filter p (x ∷ xs))) (sym (ap (filter p) e ∙ filter-append p front (x ∷ back)))
      (kept_of p (p x) x (filter p xs) (filter p front) (filter p back)
      (subst (IsReordering (filter p xs)) (filter-append p front back) (reordering-filter p xs (front ++ back) h)))

  module _ (P : A → Type 0) where
    pub all-put : (x : A) (front back : List A) → P x → AllByRecursion P (front ++ back) → AllByRecursion P (front ++ x ∷ back)
    all-put x [] back here rest = (here, rest)
    all-put x (f ∷ front) back here (first, rest) = (first, all-put x front back here rest)

    pub all-rest : (x : A) (front back : List A) → AllByRecursion P (front ++ x ∷ back) → AllByRecursion P (front ++ back)
    all-rest x [] back (here, rest) = rest
    all-rest x (f ∷ front) back (first, rest) = (first, all-rest x front back rest)

    pub all-at : (x : A) (front back : List A) → AllByRecursion P (front ++ x ∷ back) → P x
    all-at x [] back (here, rest) = here
    all-at x (f ∷ front) back (first, rest) = all-at x front back rest

    pub all-front : (front back : List A) → AllByRecursion P (front ++ back) → AllByRecursion P front
    all-front [] back all = tt
    all-front (f ∷ front) back (first, rest) = (first, all-front front back rest)

    pub all-reordering : (xs ys : List A) → IsReordering xs ys → AllByRecursion P xs → AllByRecursion P ys
    all-reordering [] ys h all = subst (AllByRecursion P) (sym h) tt
    all-reordering (x ∷ xs) ys (front, back, e, h) (here, rest) =
        subst (AllByRecursion P) (sym e) (all-put x front back here (all-reordering xs (front ++ back) h rest))
