-- Lists with each value once, where it is first.
use Rattle.std.proofs.Common.{◌≡◌, Bool, true, false, cond, not, if◌then◌else◌, List, [], ◌∷◌, ◌++◌, map, refl, sym, ap, subst, ◌∙◌, true≢false}
use Rattle.std.specs.Prelude.{◌||◌, ◌&&◌}
use Rattle.std.specs.List.{AllByRecursion, IsDistinct, filter, list_any}
use Rattle.std.proofs.lemmas.List.{append-nil, append_assoc}
use Rattle.std.proofs.lemmas.List.Folds.{list_any-append}
use Rattle.pq_lists.proofs.Holding.{all_filter}
use Rattle.indexmap.specs.IndexSet.{insert_all}

-- a filter by one test after another
filter_twice : {A : Type 0} (p q r : A → Bool) → ((a : A) → r a ≡ (q a && p a)) → (xs : List A) → filter p (filter q xs) ≡ filter r xs
filter_twice p q r both [] = refl
filter_twice {A} p q r both (x ∷ xs) = by (q x) refl (filter_twice p q r both xs)
  where
    by : (b : Bool) → q x ≡ b → filter p (filter q xs) ≡ filter r xs
        → filter p (cond b (x ∷ filter q xs) (filter q xs)) ≡ cond (r x) (x ∷ filter r xs) (filter r xs)
    by true is same = (λ i. cond (p x) (x ∷ same i) (same i)) ∙ ap (λ b. cond b (x ∷ filter r xs) (filter r xs)) (sym (both x ∙ ap (λ b. b && p x) is))
    by false is same = same ∙ ap (λ b. cond b (x ∷ filter r xs) (filter r xs)) (sym (both x ∙ ap (λ b. b && p x) is))

-- a filter by a test that all pass
filter_all : {A : Type 0} (p : A → Bool) → ((a : A) → p a ≡ true) → (xs : List A) → filter p xs ≡ xs
filter_all p all [] = refl
filter_all p all (x ∷ xs) = ap (λ b. cond b (x ∷ filter p xs) (filter p xs)) (all x) ∙ ap (λ l. x ∷ l) (filter_all p all xs)

-- a filter of values that are made
pub filter_made : {A B : Type 0} (P : A → Type 0) (f : A → B) (p : B → Bool) (q : A → Bool) → ((a : A) → P a → p (f a) ≡ q a)
    → (xs : List A) → AllByRecursion P xs → filter p
    (map f xs) ≡ map f (filter q xs)
filter_made P f p q same [] all = refl
filter_made P f p q same (x ∷ xs) all = by (q x) (same x all.0) (filter_made P f p q same xs all.1)
  where
    by : (b : Bool) → p (f x) ≡ b → filter p (map f xs) ≡ map f (filter q xs)
        → cond (p (f x)) (f x ∷ filter p (map f xs)) (filter p (map f xs)) ≡ map f (cond b (x ∷ filter q xs) (filter q xs))
    by true is rest = ap (λ b. cond b (f x ∷ filter p (map f xs)) (filter p (map f xs))) is ∙ ap (λ l. f x ∷ l) rest
    by false is rest = ap (λ b. cond b (f x ∷ filter p (map f xs)) (filter p (map f xs))) is ∙ rest

module _ {A : Type 0} (E : A → A → Bool) where
  -- each once, where it is first
  unfoldable pub once : List A → List A
  once [] = []
  once (x ∷ xs) = x ∷ filter (λ y. not (E x y)) (once xs)

  pub once_keeps : (P : A → Type 0) (xs : List A) → AllByRecursion P xs → AllByRecursion P (once xs)
  unfolding once
  once_keeps P [] all = tt
  once_keeps P (x ∷ xs) all = (all.0, all_filter P (λ y. not (E x y)) (once xs) (once_keeps P xs all.1))

  -- those that differ from one
  apart : (x : A) (ys : List A) → AllByRecursion (λ y. E x y ≡ false) (filter (λ y. not (E x y)) ys)
  apart x [] = tt
  apart x (y ∷ ys) = by (E x y) refl (apart x ys)
    where
      by : (b : Bool) → E x y ≡ b → AllByRecursion (λ z. E x z ≡ false) (filter (λ z. not (E x z)) ys) → AllByRecursion (λ z. E x z ≡ false)
          (cond (not b) (y ∷ filter (λ z. not (E x z)) ys) (filter (λ z. not (E x z)) ys))
      by true is rest = rest
      by false is rest = (is, rest)

  distinct_filter : (p : A → Bool) (xs : List A) → IsDistinct E xs → IsDistinct E (filter p xs)
  unfolding IsDistinct
  distinct_filter p [] d = tt
  distinct_filter p (x ∷ xs) d = by (p x) (distinct_filter p xs d.1)
    where
      by : (b : Bool) → IsDistinct E (filter p xs) → IsDistinct E (cond b (x ∷ filter p xs) (filter p xs))
      by true rest = (all_filter (λ y. E x y ≡ false) p xs d.0, rest)
      by false rest = rest

  pub once_distinct : (xs : List A) → IsDistinct E (once xs)
  unfolding once IsDistinct
  once_distinct [] = tt
  once_distinct (x ∷ xs) = (apart x (once xs), distinct_filter (λ y. not (E x y)) (once xs) (once_distinct xs))

  module _ (exact : (x y : A) → E x y ≡ true → x ≡ y) (itself : (x : A) → E x x ≡ true) where
    -- the comparison goes both ways
    turned : (x y : A) → E x y ≡ E y x
    turned x y = by (E x y) (E y x) refl refl
      where
        by : (a b : Bool) → E x y ≡ a → E y x ≡ b → a ≡ b
        by true true h k = refl
        by false false h k = refl
        by true false h k = absurd (true≢false (sym (itself x) ∙ ap (λ z. E z x) (exact x y h) ∙ k))
        by false true h k = absurd (true≢false (sym (itself y) ∙ ap (λ z. E z y) (exact y x k) ∙ h))

    -- what isn't among these
    abbrev outside : List A → A → Bool
    outside ks y = not (list_any (E y) ks)

    there : (ks : List A) (x y : A) → list_any (E x) ks ≡ true → E x y ≡ true → list_any (E y) ks ≡ true
    there ks x y is same = subst (λ z. list_any (E z) ks ≡ true) (exact x y same) is

    negated : (a b : Bool) → not (a || (b || false)) ≡ (not b && not a)
    negated true true = refl
    negated true false = refl
    negated false true = refl
    negated false false = refl

    -- a set that takes values one after another has each once
    taken : (xs ks : List A) → insert_all E ks xs ≡ ks ++ filter (outside ks) (once xs)
    unfolding once
    taken [] ks = sym (append-nil ks)
    taken (x ∷ xs) ks = by (list_any (E x) ks) refl (λ us. taken xs us)
      where
        others : A → Bool
        others y = not (E x y)

        by : (b : Bool) → list_any (E x) ks ≡ b → ((us : List A) → insert_all E us xs ≡ us ++ filter (outside us) (once xs))
            → insert_all E (if b then ks else ks ++ x ∷ []) xs ≡ ks ++ cond (not (list_any (E x) ks))
            (x ∷ filter (outside ks) (filter (λ y. not (E x y)) (once xs)))
            (filter (outside ks) (filter (λ y. not (E x y)) (once xs)))
        by true is rest =
            let kept : (y : A) → outside ks y ≡ (not (E x y) && outside ks y) = λ y. with_it y (E x y) refl in
            rest ks ∙ ap (λ l. ks ++ l) (sym (filter_twice (outside ks) (λ y. not (E x y)) (outside ks) kept (once xs))
            ∙ ap (λ b. cond (not b) (x ∷ filter (outside ks) (filter (λ y. not (E x y)) (once xs)))
            (filter (outside ks) (filter (λ y. not (E x y)) (once xs)))) (sym is))
          where
            with_it : (y : A) (b : Bool) → E x y ≡ b → outside ks y ≡ (not b && outside ks y)
            with_it y true same = ap not (there ks x y is same)
            with_it y false other = refl
        by false is rest =
            let more : (y : A) → outside (ks ++ x ∷ []) y ≡ (not (E x y) && outside ks y) = λ y.
            ap not (list_any-append (E y) ks (x ∷ [])) ∙ negated (list_any (E y) ks) (E y x) ∙ ap (λ b. not b && outside ks y) (turned y x) in
            rest (ks ++ x ∷ []) ∙ append_assoc ks (x ∷ []) (filter (outside (ks ++ x ∷ [])) (once xs))
            ∙ ap (λ l. ks ++ x ∷ l) (sym (filter_twice (outside ks) (λ y. not (E x y)) (outside (ks ++ x ∷ [])) more (once xs)))
            ∙ ap (λ b. ks ++ cond (not b) (x ∷ filter (outside ks) (filter (λ y. not (E x y)) (once xs)))
            (filter (outside ks) (filter (λ y. not (E x y)) (once xs)))) (sym is)

    pub taken_once : (xs : List A) → insert_all E [] xs ≡ once xs
    taken_once xs = taken xs [] ∙ filter_all (outside []) (λ a. refl) (once xs)
