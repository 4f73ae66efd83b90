-- Lists of the same values, each once, are the same in another order.
use Rattle.std.proofs.Common.{◌≡◌, zero, suc, List, [], ◌∷◌, ◌++◌, refl, sym, ap, subst, inl, inr, arith}
use Rattle.std.specs.Prelude.{◌⊎◌}
use Rattle.std.specs.List.{Contains}
use Rattle.pq_model.specs.Orders.{IsReordering}

module _ {A : Type 0} where
  -- the value is in the list
  abbrev pub StandsIn : A → List A → Type 0
  StandsIn z [] = ⊥
  StandsIn z (x ∷ xs) = (z ≡ x) ⊎ StandsIn z xs

  -- no value is in the list twice
  abbrev pub AreApart : List A → Type 0
  AreApart [] = Unit {0}
  AreApart (x ∷ xs) = (StandsIn x xs → ⊥) × AreApart xs

  pub among_from_contains : (xs : List A) (z : A) → Contains xs z → StandsIn z xs
  among_from_contains [] z (k, within, is) = omega arith
  among_from_contains (x ∷ xs) z (zero, within, is) = inl (sym is)
  among_from_contains (x ∷ xs) z (suc k, within, is) = inr (among_from_contains xs z (k, omega arith, is))

  pub contains_from_among : (xs : List A) (z : A) → StandsIn z xs → Contains xs z
  contains_from_among [] z there = absurd there
  contains_from_among (x ∷ xs) z (inl is) = (zero, omega arith, sym is)
  contains_from_among (x ∷ xs) z (inr there) =
      let more = contains_from_among xs z there in
      (suc more.0, omega (arith, more.1), more.2)

  pub among_left : (z : A) (xs ys : List A) → StandsIn z xs → StandsIn z (xs ++ ys)
  among_left z [] ys there = absurd there
  among_left z (x ∷ xs) ys (inl is) = inl is
  among_left z (x ∷ xs) ys (inr there) = inr (among_left z xs ys there)

  pub among_right : (z : A) (xs ys : List A) → StandsIn z ys → StandsIn z (xs ++ ys)
  among_right z [] ys there = there
  among_right z (x ∷ xs) ys there = inr (among_right z xs ys there)

  among_parts : (z : A) (xs ys : List A) → StandsIn z (xs ++ ys) → StandsIn z xs ⊎ StandsIn z ys
  among_parts z [] ys there = inr there
  among_parts z (x ∷ xs) ys (inl is) = inl (inl is)
  among_parts z (x ∷ xs) ys (inr there) = elim (among_parts z xs ys there) [ inl l ↦ inl (inr l) | inr r ↦ inr r ]

  -- the value with what is around it
  pub split_at : (z : A) (xs : List A) → StandsIn z xs → (front : List A) × (back : List A) × (xs ≡ front ++ z ∷ back)
  split_at z [] there = absurd there
  split_at z (x ∷ xs) (inl is) = ([], xs, λ i. sym is i ∷ xs)
  split_at z (x ∷ xs) (inr there) =
      let more = split_at z xs there in
      (x ∷ more.0, more.1, ap (λ l. x ∷ l) more.2)

  -- without one value the others are apart, and that value is not among them
  apart_without : (z : A) (front back : List A) → AreApart (front ++ z ∷ back) → AreApart (front ++ back) × (StandsIn z (front ++ back) → ⊥)
  apart_without z [] back apart = (apart.1, apart.0)
  apart_without z (f ∷ front) back apart =
      let more = apart_without z front back apart.1 in (
        (
          λ there. apart.0 (elim (among_parts f front back there) [
            | inl l ↦ among_left f front (z ∷ back) l
            | inr r ↦ among_right f front (z ∷ back) (inr r)
          ]),
          more.0,
        ),
        λ there. elim there [ inl is ↦ apart.0 (among_right f front (z ∷ back) (inl (sym is))) | inr later ↦ more.1 later ],
      )

  -- lists of the same values, each once
  pub same_members : (xs ys : List A) → AreApart xs → AreApart ys → ((z : A) → StandsIn z xs → StandsIn z ys)
      → ((z : A) → StandsIn z ys → StandsIn z xs) → IsReordering xs ys
  same_members [] [] left right into back = refl
  same_members [] (y ∷ ys) left right into back = absurd (back y (inl refl))
  same_members (x ∷ xs) ys left right into back =
      let at = split_at x ys (into x (inl refl)) in
      let front = at.0 in
      let last = at.1 in
      let others = apart_without x front last (subst AreApart at.2 right) in
      let kept : (z : A) → StandsIn z xs → StandsIn z (front ++ last) = λ z there.
      elim (among_parts z front (x ∷ last) (subst (StandsIn z) at.2 (into z (inr there)))) [
        | inl l ↦ among_left z front last l
        | inr r ↦ elim r [ inl is ↦ absurd (left.0 (subst (λ w. StandsIn w xs) is there)) | inr later ↦ among_right z front last later ]
      ] in
      let own : (z : A) → StandsIn z (front ++ last) → StandsIn z xs = λ z there.
      elim (back z (subst (StandsIn z) (sym at.2) (elim (among_parts z front last there) [
        | inl l ↦ among_left z front (x ∷ last) l
        | inr r ↦ among_right z front (x ∷ last) (inr r)
      ]))) [
        | inl is ↦ absurd (others.1 (subst (λ w. StandsIn w (front ++ last)) is there))
        | inr later ↦ later
      ] in
      (front, last, at.2, same_members xs (front ++ last) left.1 others.0 kept own)
