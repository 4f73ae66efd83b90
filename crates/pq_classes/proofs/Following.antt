-- Following words through an automaton, and lists that ascend.
use Rattle.std.proofs.Common.{◌≡◌, ◌↔◌, ◌<◌, ℕ, suc, zero, List, [], ◌∷◌, ◌++◌, length, get_or, refl, sym, ap, ap₂, subst, ◌∙◌, arith}
use Rattle.std.specs.Prelude.{slice_get, Some}
use Rattle.std.specs.List.{Contains}
use Rattle.std.proofs.lemmas.Option.{slice_get-get_or, slice_get_within, get_or_from_slice_get}
use Rattle.pq_topo.proofs.Ascending.{rest_ascends}
use Rattle.pq_model.specs.Lawful.{Ascends}
use Rattle.pq_auto.specs.Machine.{Machine, AllBelow, IsMachine, follow}

-- a word and then another
pub follow_append : (rows : List (List ℕ)) (s : ℕ) (u v : List ℕ) → follow rows s (u ++ v) ≡ follow rows (follow rows s u) v
follow_append rows s [] v = refl
follow_append rows s (l ∷ u) v = follow_append rows (get_or (get_or rows s []) l 0) u v

-- a number of a list of numbers below a bound
one_below : (n : ℕ) (w : List ℕ) (i : ℕ) → AllBelow n w → i < length w → get_or w i 0 < n
one_below n [] i below within = absurd (omega (arith, within))
one_below n (l ∷ w) zero below within = below.0
one_below n (l ∷ w) (suc i) below within = one_below n w i below.1 (omega (arith, within))

-- a word leads to a state
pub follow_within : (m : Machine) → IsMachine m → (s : ℕ) → s < length m.rows → (w : List ℕ) → AllBelow m.letters w → follow m.rows s w < length m.rows
follow_within m is s within [] below = within
follow_within m is s within (l ∷ w) (first, rest) =
    let row = get_or m.rows s [] in
    follow_within m is (get_or row l 0) (one_below (length m.rows) row l (is.within s within) (subst (λ n. l < n) (sym (is.long s within)) first)) w rest

-- Lists that ascend.

-- the list has the number at some place
abbrev pub Has : List ℕ → ℕ → Type 0
Has xs i = (k : ℕ) × (slice_get xs k ≡ Some i)

pub has_from : (xs : List ℕ) (i : ℕ) → Contains xs i → Has xs i
has_from xs i (k, within, is) = (k, slice_get-get_or xs k i within ∙ ap Some is)

pub contains_from : (xs : List ℕ) (i k : ℕ) → slice_get xs k ≡ Some i → Contains xs i
contains_from xs i k at = (k, slice_get_within xs k i at, get_or_from_slice_get xs k i i at)

-- each later number is greater than the first
later : (x : ℕ) (xs : List ℕ) (k i : ℕ) → Ascends (x ∷ xs) → slice_get xs k ≡ Some i → x < i
later x [] k i up at = absurd cc
later x (y ∷ ys) zero i up at = let same : y ≡ i = cc in subst (λ i. x < i) same up.0
later x (y ∷ ys) (suc k) i up at = let more = later y ys k i up.1 at in omega (arith, up.0, more)

-- lists that ascend and have the same numbers are one
pub same_ascending : (xs ys : List ℕ) → Ascends xs → Ascends ys → ((i : ℕ) → Has xs i → Has ys i) → ((i : ℕ) → Has ys i → Has xs i) → xs ≡ ys
same_ascending [] [] up vp to from = refl
same_ascending [] (y ∷ ys) up vp to from = let none = from y (0, refl) in absurd cc
same_ascending (x ∷ xs) [] up vp to from = let none = to x (0, refl) in absurd cc
same_ascending (x ∷ xs) (y ∷ ys) up vp to from =
    let first : x ≡ y = firsts (to x (0, refl)) (from y (0, refl)) in
    ap₂ (λ z zs. z ∷ zs) first (same_ascending xs ys (rest_ascends x xs up) (rest_ascends y ys vp)
    (λ i h. beyond x xs y ys i up first h (to i (suc h.0, h.1)))
    (λ i h. beyond y ys x xs i vp (sym first) h (from i (suc h.0, h.1))))
  where
    firsts : Has (y ∷ ys) x → Has (x ∷ xs) y → x ≡ y
    firsts (zero, at) h = cc
    firsts (suc k, at) (zero, is) = cc
    firsts (suc k, at) (suc j, is) = let less = later y ys k x vp at in let more = later x xs j y up is in absurd (omega (arith, less, more))

    beyond : (x : ℕ) (xs : List ℕ) (y : ℕ) (ys : List ℕ) (i : ℕ) → Ascends (x ∷ xs) → x ≡ y → Has xs i → Has (y ∷ ys) i → Has ys i
    beyond x xs y ys i up first (j, is) (suc k, at) = (k, at)
    beyond x xs y ys i up first (j, is) (zero, at) = let less = later x xs j i up is in let same : y ≡ i = cc in absurd (omega (arith, less, first, same))

-- and so are those that the same languages say
pub same_contents : (xs ys : List ℕ) → Ascends xs → Ascends ys → ((i : ℕ) → Contains xs i ↔ Contains ys i) → xs ≡ ys
same_contents xs ys up vp same = same_ascending xs ys up vp
    (λ i h. has_from ys i ((same i).0 (contains_from xs i h.0 h.1)))
    (λ i h. has_from xs i ((same i).1 (contains_from ys i h.0 h.1)))
