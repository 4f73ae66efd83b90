-- Lists, their halves, and lists of one or none.
use Rattle.std.proofs.Common.{ℕ, ◌<◌, ◌≤◌, ◌≡◌, ◌∙◌, List, [], ◌∷◌, ◌++◌, take, drop, length, get_or, inl, inr, refl, sym, ap, arith}
use Rattle.std.specs.Prelude.{◌⊎◌, ◌↔◌}
use Rattle.std.specs.List.{All, Any}
use Rattle.std.proofs.lemmas.List.{take-append-drop}
use Rattle.std.proofs.lemmas.List.Elements.{All-cons, All-head, All-nil, All-tail}
use Rattle.pq_rewrite.proofs.Sets.{any_cases, any_first, any_none, any_later}

module _ {X : Type 0} where
  -- a list of none
  pub none_there : (xs : List X) → length xs < 1 → xs ≡ []
  none_there [] short = refl
  none_there (x ∷ xs) short = absurd (omega arith)

  -- a list of one
  pub one_there : (xs : List X) (x : X) → length xs < 2 → 1 ≤ length xs → x ≡ get_or xs 0 x → xs ≡ x ∷ []
  one_there [] x short long is = absurd (omega arith)
  one_there (y ∷ []) x short long is = ap (λ z. z ∷ []) (sym is)
  one_there (y ∷ z ∷ xs) x short long is = absurd (omega arith)

  -- a list is its halves one after another
  pub halves_there : (xs front back : List X) (m : ℕ) → front ≡ take m xs → back ≡ drop m xs → xs ≡ front ++ back
  halves_there xs front back m front_is back_is =
      sym (take-append-drop m xs) ∙ (ap (λ ys. ys ++ drop m xs) (sym front_is) ∙ ap (λ ys. front ++ ys) (sym back_is))

  module _ (P : X → Type 0) where
    -- what holds of all holds of all in both halves
    pub all_halves : (xs ys : List X) → All P (xs ++ ys) → All P xs × All P ys
    all_halves [] ys all = (All-nil P, all)
    all_halves (x ∷ xs) ys all =
        let more = all_halves xs ys (All-tail P x (xs ++ ys) all) in
        (All-cons P x xs (All-head P x (xs ++ ys) all) more.0, more.1)

    -- what holds of one in either half holds of one
    pub any_halves : (xs ys : List X) → (Any P xs ⊎ Any P ys) ↔ Any P (xs ++ ys)
    any_halves xs ys = (into xs, back xs)
      where
        into : (zs : List X) → Any P zs ⊎ Any P ys → Any P (zs ++ ys)
        into [] (inl none) = absurd (any_none P none)
        into [] (inr any) = any
        into (z ∷ zs) (inl any) = elim (any_cases P z zs any) [
          | inl p ↦ any_first P z (zs ++ ys) p
          | inr later ↦ any_later P z (zs ++ ys) (into zs (inl later))
        ]
        into (z ∷ zs) (inr any) = any_later P z (zs ++ ys) (into zs (inr any))

        back : (zs : List X) → Any P (zs ++ ys) → Any P zs ⊎ Any P ys
        back [] any = inr any
        back (z ∷ zs) any = elim (any_cases P z (zs ++ ys) any) [
          | inl p ↦ inl (any_first P z zs p)
          | inr later ↦ elim (back zs later) [ inl here ↦ inl (any_later P z zs here) | inr there ↦ inr there ]
        ]

    -- what holds of the one of a list of one holds of one
    pub any_one : (x : X) → P x ↔ Any P (x ∷ [])
    any_one x = (any_first P x [], λ any. elim (any_cases P x [] any) [ inl p ↦ p | inr none ↦ absurd (any_none P none) ])
