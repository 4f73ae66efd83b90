-- Lists parted by a test, and what two lists have in common.
use Rattle.std.proofs.Common.{◌≡◌, Bool, true, false, not, cond, List, [], ◌∷◌, ◌++◌, ◌||◌, filter, refl, sym, ap, subst, subst₂, ◌∙◌}
use Rattle.std.specs.List.{AllByRecursion, IsDistinct, list_any}
use Rattle.std.proofs.lemmas.List.Elements.{filter-append}
use Rattle.pq_lists.proofs.Holding.{filter_same}
use Rattle.pq_model.specs.Orders.{IsReordering}
use Rattle.pq_model.proofs.Filters.{filter-none}
use Rattle.pq_model.proofs.Reorderings.{all-at, all-rest}

module _ {A : Type 0} where
  -- the values that pass and then the others
  pub parted : (p : A → Bool) (xs : List A) → IsReordering xs (filter p xs ++ filter (λ x. not (p x)) xs)
  parted p [] = refl
  parted p (x ∷ xs) = by (p x) (parted p xs)
    where
      by : (b : Bool) → IsReordering xs (filter p xs ++ filter (λ y. not (p y)) xs)
          → IsReordering (x ∷ xs) (cond b (x ∷ filter p xs) (filter p xs) ++ cond (not b) (x ∷ filter (λ y. not (p y)) xs) (filter (λ y. not (p y)) xs))
      by true rest = ([], filter p xs ++ filter (λ y. not (p y)) xs, refl, rest)
      by false rest = (filter p xs, filter (λ y. not (p y)) xs, refl, rest)

  module _ (E : A → A → Bool) (exact : (x y : A) → E x y ≡ true → x ≡ y) (itself : (x : A) → E x x ≡ true) where
    turned : (x y : A) → E x y ≡ false → E y x ≡ false
    turned x y apart = by (E y x) refl
      where
        by : (b : Bool) → E y x ≡ b → b ≡ false
        by true is = let same : y ≡ x = exact y x is in absurd (let no : E x x ≡ false = subst (λ z. E x z ≡ false) same apart in let yes = itself x in cc)
        by false is = refl

    among : List A → A → Bool
    among es x = list_any (E x) es

    -- a value that is among others is in one place
    record Standing (x : A) (es : List A) : Type 0 where
      front : List A
      back : List A
      is : es ≡ front ++ x ∷ back

    standing : (x : A) (es : List A) → list_any (E x) es ≡ true → Standing x es
    standing x [] is = absurd cc
    standing x (e ∷ es) is = by (E x e) refl (standing x es)
      where
        by : (b : Bool) → E x e ≡ b → (list_any (E x) es ≡ true → Standing x es) → Standing x (e ∷ es)
        by true here rest = record { front = []; back = es; is = ap (λ y. y ∷ es) (sym (exact x e here)) }
        by false here rest =
            let later = rest (sym (ap (λ b. b || list_any (E x) es) here) ∙ is) in
            record { front = e ∷ later.front; back = later.back; is = ap (λ l. e ∷ l) later.is }

    -- without a value in one place, others among the rest are still so
    among-rest : (g f : A) (front back : List A) → E g f ≡ false → list_any (E g) (front ++ f ∷ back) ≡ list_any (E g) (front ++ back)
    among-rest g f [] back apart = ap (λ b. b || list_any (E g) back) apart
    among-rest g f (x ∷ front) back apart = ap (λ b. E g x || b) (among-rest g f front back apart)

    none-among : (f : A) (es : List A) → list_any (E f) es ≡ false → AllByRecursion (λ e. E e f ≡ false) es
    none-among f [] none = tt
    none-among f (e ∷ es) none = by (E f e) refl (none-among f es)
      where
        by : (b : Bool) → E f e ≡ b → (list_any (E f) es ≡ false → AllByRecursion (λ x. E x f ≡ false) es) → AllByRecursion (λ x. E x f ≡ false) (e ∷ es)
        by true here rest = absurd (let no : true || list_any (E f) es ≡ false = sym (ap (λ b. b || list_any (E f) es) here) ∙ none in cc)
        by false here rest = (turned f e here, rest (sym (ap (λ b. b || list_any (E f) es) here) ∙ none))

    distinct-rest : (f : A) (front back : List A) → IsDistinct E (front ++ f ∷ back)
        → IsDistinct E (front ++ back) × AllByRecursion (λ e. E e f ≡ false) (front ++ back)
    unfolding IsDistinct
    distinct-rest f [] back (apart, own) = (own, all-turned back apart)
      where
        all-turned : (es : List A) → AllByRecursion (λ e. E f e ≡ false) es → AllByRecursion (λ e. E e f ≡ false) es
        all-turned [] all = tt
        all-turned (e ∷ es) (here, rest) = (turned f e here, all-turned es rest)
    distinct-rest f (x ∷ front) back (apart, own) =
        let rest = distinct-rest f front back own in
        ((all-rest (λ y. E x y ≡ false) f front back apart, rest.0), (all-at (λ y. E x y ≡ false) f front back apart, rest.1))

    -- a test of being among one value more agrees where that value isn't
    not-first : (f : A) (fs es : List A) → AllByRecursion (λ e. E e f ≡ false) es → AllByRecursion (λ e. (E e f || list_any (E e) fs) ≡ list_any (E e) fs) es
    not-first f fs [] all = tt
    not-first f fs (e ∷ es) (here, rest) = (ap (λ b. b || list_any (E e) fs) here, not-first f fs es rest)

    rest-alike : (f : A) (front back : List A) (fs : List A) → AllByRecursion (λ g. E f g ≡ false) fs
        → AllByRecursion (λ g. list_any (E g) (front ++ f ∷ back) ≡ list_any (E g) (front ++ back)) fs
    rest-alike f front back [] all = tt
    rest-alike f front back (g ∷ fs) (here, rest) = (among-rest g f front back (turned f g here), rest-alike f front back fs rest)

    -- of two lists without repetition, the values of each that are in the other are the same
    pub common : (fs es : List A) → IsDistinct E fs → IsDistinct E es → IsReordering (filter (λ f. list_any (E f) es) fs) (filter (λ e. list_any (E e) fs) es)
    unfolding IsDistinct
    common [] es own other = sym (filter-none es)
    common (f ∷ fs) es (apart, own) other = by (list_any (E f) es) refl (λ ds differ. common fs ds own differ)
      where
        IsCommon : Bool → List A → Type 0
        IsCommon b ds = IsReordering (cond b (f ∷ filter (λ g. list_any (E g) ds) fs) (filter (λ g. list_any (E g) ds) fs))
            (filter (λ e. E e f || list_any (E e) fs) ds)

        there : (front back : List A) → IsDistinct E (front ++ f ∷ back)
            → ((ds : List A) → IsDistinct E ds → IsReordering (filter (λ g. list_any (E g) ds) fs) (filter (λ e. list_any (E e) fs) ds))
            → IsReordering (filter (λ g. list_any (E g) (front ++ f ∷ back)) fs) (filter (λ e. E e f || list_any (E e) fs) front
            ++ filter (λ e. E e f || list_any (E e) fs) back)
        there front back differ rest =
            let d = distinct-rest f front back differ in
            subst₂ (λ l m. IsReordering l m)
            (sym (filter_same (λ g. list_any (E g) (front ++ f ∷ back)) (λ g. list_any (E g) (front ++ back)) fs (rest-alike f front back fs apart)))
            (sym (sym (filter-append (λ e. E e f || list_any (E e) fs) front back)
            ∙ filter_same (λ e. E e f || list_any (E e) fs) (λ e. list_any (E e) fs) (front ++ back)
            (not-first f fs (front ++ back) d.1)))
            (rest (front ++ back) d.0)

        by : (b : Bool) → list_any (E f) es ≡ b
            → ((ds : List A) → IsDistinct E ds → IsReordering (filter (λ g. list_any (E g) ds) fs) (filter (λ e. list_any (E e) fs) ds))
            → IsCommon b es
        by true is rest =
            let s = standing f es is in
            let differ : IsDistinct E (s.front ++ f ∷ s.back) = subst (IsDistinct E) s.is other in
            subst (IsCommon true) (sym s.is) (
              filter (λ e. E e f || list_any (E e) fs) s.front,
              filter (λ e. E e f || list_any (E e) fs) s.back,
              filter-append (λ e. E e f || list_any (E e) fs) s.front (f ∷ s.back)
                  ∙ ap (λ b. filter (λ e. E e f || list_any (E e) fs) s.front ++ cond (b || list_any (E f) fs)
                  (f ∷ filter (λ e. E e f || list_any (E e) fs) s.back) (filter (λ e. E e f || list_any (E e) fs) s.back)) (itself f),
              there s.front s.back differ rest,
            )
        by false is rest =
            subst (IsReordering (filter (λ g. list_any (E g) es) fs))
            (sym (filter_same (λ e. E e f || list_any (E e) fs) (λ e. list_any (E e) fs) es (not-first f fs es (none-among f es is))))
            (rest es other)
