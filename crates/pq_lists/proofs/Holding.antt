-- What holds of all elements of lists.
use Rattle.std.proofs.Common.{◌≡◌, ◌<◌, ◌∙◌, ℕ, Bool, true, false, cond, List, [], ◌∷◌, ◌++◌, length, map, filter, get_or, refl, sym, ap, subst}
use Rattle.std.specs.Prelude.{All}
use Rattle.std.specs.List.{AllByRecursion}
use Rattle.std.proofs.lemmas.List.{get_or-map, length-map}
use Rattle.std.proofs.lemmas.List.Elements.{All-cons, All-head, All-nil, All-tail}

-- it holds of all elements of two lists together
pub all_append : {A : Type 0} (P : A → Type 0) (xs ys : List A) → AllByRecursion P xs → AllByRecursion P ys → AllByRecursion P (xs ++ ys)
all_append P [] ys first later = later
all_append P (x ∷ xs) ys first later = (first.0, all_append P xs ys first.1 later)

-- and of all of a list with one more
pub all_push : {A : Type 0} (P : A → Type 0) (xs : List A) (x : A) → AllByRecursion P xs → P x → AllByRecursion P (xs ++ x ∷ [])
all_push P xs x all one = all_append P xs (x ∷ []) all (one, tt)

-- where it holds of their images, it holds of all images
pub all_map : {A B : Type 0} (f : A → B) (P : B → Type 0) (xs : List A) → AllByRecursion (λ x. P (f x)) xs → AllByRecursion P (map f xs)
all_map f P [] all = tt
all_map f P (x ∷ xs) all = (all.0, all_map f P xs all.1)

-- what follows for each follows for all
pub all_weaker : {A : Type 0} (P Q : A → Type 0) → ((x : A) → P x → Q x) → (xs : List A) → AllByRecursion P xs → AllByRecursion Q xs
all_weaker P Q follows [] all = tt
all_weaker P Q follows (x ∷ xs) all = (follows x all.0, all_weaker P Q follows xs all.1)

-- it holds of those that a test keeps
pub all_filter : {A : Type 0} (P : A → Type 0) (p : A → Bool) (xs : List A) → AllByRecursion P xs → AllByRecursion P (filter p xs)
all_filter P p [] all = tt
all_filter P p (x ∷ xs) all = by (p x) (all_filter P p xs all.1)
  where
    by : (b : Bool) → AllByRecursion P (filter p xs) → AllByRecursion P (cond b (x ∷ filter p xs) (filter p xs))
    by true rest = (all.0, rest)
    by false rest = rest

-- two tests that agree on all elements keep the same
pub filter_same : {A : Type 0} (p q : A → Bool) (xs : List A) → AllByRecursion (λ x. p x ≡ q x) xs → filter p xs ≡ filter q xs
filter_same p q [] all = refl
filter_same p q (x ∷ xs) all = λ i. cond (all.0 i) (x ∷ filter_same p q xs all.1 i) (filter_same p q xs all.1 i)

-- what holds of all of two lists together holds of all of the first
pub all_front : {X : Type 0} (P : X → Type 0) (xs ys : List X) → All P (xs ++ ys) → All P xs
all_front P [] ys all = All-nil P
all_front P (x ∷ xs) ys all = All-cons P x xs (All-head P x (xs ++ ys) all) (all_front P xs ys (All-tail P x (xs ++ ys) all))

-- and of all of the second
pub all_back : {X : Type 0} (P : X → Type 0) (xs ys : List X) → All P (xs ++ ys) → All P ys
all_back P [] ys all = all
all_back P (x ∷ xs) ys all = all_back P xs ys (All-tail P x (xs ++ ys) all)

-- and of what stands between them
pub all_inside : {X : Type 0} (P : X → Type 0) (xs : List X) (y : X) (ys zs : List X) → zs ≡ xs ++ y ∷ ys → All P zs → P y
all_inside P xs y ys zs parts all = All-head P y ys (all_back P xs (y ∷ ys) (subst (All P) parts all))

-- what holds of all images holds of the image of the element that was read
pub all_map_read : {V A : Type 0} (vs : List V) (f : V → A) (P : A → Type 0) (i : ℕ) (v : V) → All P (map f vs) → i < length vs → v ≡ get_or vs i v → P (f v)
all_map_read vs f P i v all below read =
    let here : P (get_or (map f vs) i (f v)) = all i (f v) (rw length-map below) in
    let same : get_or (map f vs) i (f v) ≡ f v = get_or-map f vs i v (f v) below ∙ sym (ap f read) in
    rw same at here
