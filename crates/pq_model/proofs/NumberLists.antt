-- Lists of numbers in order: the first that differs decides.
use Rattle.std.proofs.Common.{◌≡◌, ◌<◌, ◌⊎◌, ◌==◌, ◌&&◌, ◌||◌, ℕ, true, false, List, [], ◌∷◌, ◌++◌, length, refl, sym, ap, ap₂, subst, ◌∙◌}
use Rattle.std.proofs.Common.{inl, inr, arith, true≢false, lt-ltb, ltb-true, eqb-true}
use Rattle.std.specs.declared.cmp.Ordering.TheVariants.{Less, Equal, Greater}
use Rattle.std.specs.Cmp.Lexicographic.{slice_cmp, nat_list_cmp_total}
use Rattle.std.specs.Ordering.{nat_cmp, is_lt}
use Rattle.std.specs.Prelude.{nat_lt}
use Rattle.std.proofs.lemmas.Bool.{and_parts, cases_order, or_cases}
use Rattle.std.proofs.lemmas.Bool.Decides.{nat_tests}
use Rattle.pq_fields.specs.Packet.{is_before}
use Rattle.pq_model.proofs.Sorted.{before-cmp}

-- where one list is before another, its first number is the smaller, or it is the same and the rest is before the rest
pub first_or_rest : (m n : ℕ) (xs ys : List ℕ) → is_before (m ∷ xs) (n ∷ ys) ≡ true → (m < n) ⊎ ((m ≡ n) × (is_before xs ys ≡ true))
first_or_rest m n xs ys is = elim (or_cases (nat_lt m n) ((m == n) && is_before xs ys) is) [
  | inl less ↦ inl (ltb-true m n less)
  | inr same ↦ let parts = and_parts (m == n) (is_before xs ys) same in inr (eqb-true m n parts.0, parts.1)
]

-- a list with the smaller first number is before the other
pub by_first : (m n : ℕ) (xs ys : List ℕ) → m < n → is_before (m ∷ xs) (n ∷ ys) ≡ true
by_first m n xs ys less = ap (λ b. b || ((m == n) && is_before xs ys)) (lt-ltb m n less)

-- after the same first number the rests decide
pub same_first : (n : ℕ) (xs ys : List ℕ) → is_before (n ∷ xs) (n ∷ ys) ≡ is_before xs ys
same_first n xs ys = grind (arith, nat_tests)

-- after the same numbers the rests decide
pub same_piece : (xs us vs : List ℕ) → is_before (xs ++ us) (xs ++ vs) ≡ is_before us vs
same_piece [] us vs = refl
same_piece (x ∷ xs) us vs = same_first x (xs ++ us) (xs ++ vs) ∙ same_piece xs us vs

-- pieces of the same length decide where one is before the other
pub by_piece : (xs ys us vs : List ℕ) → length xs ≡ length ys → is_before xs ys ≡ true → is_before (xs ++ us) (ys ++ vs) ≡ true
by_piece xs [] us vs long is = absurd (true≢false (sym is))
by_piece [] (y ∷ ys) us vs long is = absurd (omega arith)
by_piece (x ∷ xs) (y ∷ ys) us vs long is = elim (first_or_rest x y xs ys is) [
  | inl less ↦ by_first x y (xs ++ us) (ys ++ vs) less
  | inr same ↦ subst (λ n. is_before (x ∷ xs ++ us) (n ∷ ys ++ vs) ≡ true) same.0 (same_first x (xs ++ us) (ys ++ vs)
      ∙ by_piece xs ys us vs (omega arith) same.1)
]

-- no list is before one that is before it
pub not_back : (xs ys : List ℕ) → is_before xs ys ≡ true → is_before ys xs ≡ false
not_back xs [] is = absurd (true≢false (sym is))
not_back [] (y ∷ ys) is = refl
not_back (x ∷ xs) (y ∷ ys) is = elim (first_or_rest x y xs ys is) [
  | inl less ↦ grind (arith, nat_tests)
  | inr same ↦ let rest = not_back xs ys same.1 in grind (arith, nat_tests)
]

-- of two lists of the same length one is before the other, or they are one
pub compared : (xs ys : List ℕ) → length xs ≡ length ys → (xs ≡ ys) ⊎ ((is_before xs ys ≡ true) ⊎ (is_before ys xs ≡ true))
compared [] [] long = inl refl
compared [] (y ∷ ys) long = absurd (omega arith)
compared (x ∷ xs) [] long = absurd (omega arith)
compared (x ∷ xs) (y ∷ ys) long = elim (cases_order x y) [
  | inl same ↦ elim (compared xs ys (omega arith)) [
    | inl rest ↦ inl (λ i. same i ∷ rest i)
    | inr other ↦ inr (subst (λ n. (is_before (x ∷ xs) (n ∷ ys) ≡ true) ⊎ (is_before (n ∷ ys) (x ∷ xs) ≡ true)) same (elim other [
      | inl less ↦ inl (same_first x xs ys ∙ less)
      | inr more ↦ inr (same_first x ys xs ∙ more)
    ]))
  ]
  | inr other ↦ inr (elim other [ inl less ↦ inl (by_first x y xs ys less) | inr more ↦ inr (by_first y x ys xs more) ])
]

-- after pieces of the same length, of which the first isn't before the second, a list is before no other before which its rest isn't
pub not_by_piece : (xs ys us vs : List ℕ) → length xs ≡ length ys → is_before xs ys ≡ false → is_before us vs ≡ false → is_before (xs ++ us) (ys ++ vs) ≡ false
not_by_piece xs ys us vs long first rest = elim (compared xs ys long) [
  | inl same ↦ subst (λ zs. is_before (xs ++ us) (zs ++ vs) ≡ false) same (same_piece xs us vs ∙ rest)
  | inr other ↦ elim other [
    | inl less ↦ absurd (true≢false (sym less ∙ first))
    | inr more ↦ not_back (ys ++ vs) (xs ++ us) (by_piece ys xs vs us (sym long) more)
  ]
]

-- an order that is below is Less
less_from : (o : _) → is_lt o ≡ true → o ≡ Less
less_from Less is = refl
less_from Equal is = absurd (true≢false (sym is))
less_from Greater is = absurd (true≢false (sym is))

-- the order of lists is transitive
pub before_trans : (xs ys zs : List ℕ) → is_before xs ys ≡ true → is_before ys zs ≡ true → is_before xs zs ≡ true
before_trans xs ys zs h k =
    let first = less_from (slice_cmp nat_cmp xs ys) (before-cmp xs ys ∙ h) in
    let second = less_from (slice_cmp nat_cmp ys zs) (before-cmp ys zs ∙ k) in
    sym (before-cmp xs zs) ∙ ap is_lt (nat_list_cmp_total.trans xs ys zs first second)

-- lists of which neither is before the other are one
pub same_list : (xs ys : List ℕ) → is_before xs ys ≡ false → is_before ys xs ≡ false → xs ≡ ys
same_list [] [] h k = refl
same_list [] (y ∷ ys) h k = absurd (true≢false h)
same_list (x ∷ xs) [] h k = absurd (true≢false k)
same_list (x ∷ xs) (y ∷ ys) h k = elim (cases_order x y) [
  | inl same ↦ ap₂ (λ z zs. z ∷ zs) same (same_list xs ys
      (sym (same_first y xs ys) ∙ subst (λ z. is_before (z ∷ xs) (y ∷ ys) ≡ false) same h)
      (sym (same_first y ys xs) ∙ subst (λ z. is_before (y ∷ ys) (z ∷ xs) ≡ false) same k))
  | inr other ↦ elim other [
    | inl less ↦ absurd (true≢false (sym (by_first x y xs ys less) ∙ h))
    | inr more ↦ absurd (true≢false (sym (by_first y x ys xs more) ∙ k))
  ]
]
