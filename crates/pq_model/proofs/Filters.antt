-- Filters after one another.
use Rattle.std.proofs.Common.{◌≡◌, Bool, true, false, cond, List, [], ◌∷◌, ◌++◌, ◌&&◌, filter, refl, sym, ap, ◌∙◌}
use Rattle.std.proofs.Math.Bool.{and_comm}
use Rattle.std.proofs.lemmas.List.Elements.{filter-append}

module _ {A : Type 0} where
  pub filter-filter : (p q : A → Bool) (xs : List A) → filter p (filter q xs) ≡ filter (λ x. q x && p x) xs
  filter-filter p q [] = refl
  filter-filter p q (x ∷ xs) = both (p x) (q x) refl (filter-filter p q xs)
    where
      both : (a b : Bool) → p x ≡ a → filter p (filter q xs) ≡ filter (λ y. q y && p y) xs
          → filter p (cond b (x ∷ filter q xs) (filter q xs)) ≡ cond (b && a) (x ∷ filter (λ y. q y && p y) xs)
          (filter (λ y. q y && p y) xs)
      both true true h more = rw h (ap (λ l. x ∷ l) more)
      both false true h more = rw h more
      both a false h more = more

  pub filter-exchange : (p q : A → Bool) (xs : List A) → filter p (filter q xs) ≡ filter q (filter p xs)
  filter-exchange p q xs = filter-filter p q xs ∙ ap (λ test. filter test xs) (λ i x. and_comm (q x) (p x) i) ∙ sym (filter-filter q p xs)

  -- a value that passes, put at the end
  pub filter-end : (p : A → Bool) (xs : List A) (x : A) → p x ≡ true → filter p (xs ++ x ∷ []) ≡ filter p xs ++ x ∷ []
  filter-end p xs x h = filter-append p xs (x ∷ []) ∙ ap (λ b. filter p xs ++ cond b (x ∷ []) []) h

  pub filter-none : (xs : List A) → [] ≡ filter (λ x. false) xs
  filter-none [] = refl
  filter-none (x ∷ xs) = filter-none xs
