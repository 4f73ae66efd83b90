-- Of given languages there is one number of classes of words.
use Rattle.std.proofs.Common.{◌≡◌, ◌<◌, ◌≤◌, ◌+◌, ℕ, suc, zero, Bool, true, false, List, [], ◌∷◌, ◌++◌, length, get_or, refl, sym, ap}
use Rattle.std.proofs.Common.{subst, ◌∙◌, arith, length-append}
use Rattle.std.specs.Prelude.{slice_get, Some, All, not, if◌then◌else◌, ◌==◌}
use Rattle.std.specs.List.{Any, list_any}
use Rattle.std.proofs.lemmas.Bool.{eqb-true}
use Rattle.std.proofs.lemmas.List.{get_or_default, get_or-append-add}
use Rattle.std.proofs.lemmas.List.Elements.{All-append, All-head, All-tail}
use Rattle.std.proofs.lemmas.Map.Keys.{IsDistinct-from_apart}
use Rattle.std.proofs.lemmas.Map.Views.{Contains-from_any}
use Rattle.std.proofs.lemmas.Map.Steps.{length-le_from_distinct_below}
use Rattle.std.proofs.lemmas.Option.{slice_get-get_or}
use Rattle.pq_fields.specs.Packet.{Fit}
use Rattle.pq_model.specs.Word.{Word, In, Out, alternates, observed_packet}
use Rattle.pq_model.specs.Classes.{AllObservedFit, AreSame, HasClasses, IsPath, Languages, has_even_length}
use Rattle.pq_classes.proofs.Spelled.{alternates_append}

-- what comes after a word alternates too
alternates_after : (enters : Bool) (u e : Word) → alternates enters (u ++ e) ≡ true → alternates (if has_even_length u then enters else not enters) e ≡ true
alternates_after enters [] e h = h
alternates_after true (In x ∷ u) e h = turned (has_even_length u) (alternates_after false u e h)
  where
    turned : (b : Bool) → alternates (if b then false else true) e ≡ true → alternates (if not b then true else false) e ≡ true
    turned true k = k
    turned false k = k
alternates_after false (Out x ∷ u) e h = turned (has_even_length u) (alternates_after true u e h)
  where
    turned : (b : Bool) → alternates (if b then true else false) e ≡ true → alternates (if not b then false else true) e ≡ true
    turned true k = k
    turned false k = k
alternates_after true (Out x ∷ u) e h = absurd cc
alternates_after false (In x ∷ u) e h = absurd cc

fits_after : (u e : Word) → AllObservedFit (u ++ e) → AllObservedFit e
fits_after u e fits k d within =
    subst (λ o. Fit (observed_packet o)) (get_or-append-add u e k d) (fits (length u + k) d (omega (arith, within, length-append u e)))

-- what may follow a word may follow each of the same parity
follows : (u v e : Word) → has_even_length u ≡ has_even_length v → IsPath v → IsPath (u ++ e) → IsPath (v ++ e)
follows u v e parity (is, fits) (more, more_fits) = (
  alternates_append true v e is (subst (λ b. alternates (if b then true else not true) e ≡ true) parity (alternates_after true u e more)),
  All-append (λ o. Fit (observed_packet o)) v e fits (fits_after u e more_fits),
)

module _ (Ls : Languages) where
  pub same_back : (u v : Word) → AreSame Ls u v → AreSame Ls v u
  same_back u v same = record { parity = sym same.parity; held = λ e a b i. let both = same.held e b a i in (both.1, both.0) }

  pub same_through : (u v w : Word) → IsPath v → AreSame Ls u v → AreSame Ls v w → AreSame Ls u w
  same_through u v w path one two = record {
    parity = one.parity ∙ two.parity;
    held = λ e a b i.
        let middle = follows u v e one.parity path a in
        let first = one.held e a middle i in
        let second = two.held e middle b i in
        (λ h. second.0 (first.0 h), λ h. first.1 (second.1 h));
  }

  -- for each of some words the place of one that is the same
  module _ (words : List Word) (every : (w : Word) → IsPath w → Any (AreSame Ls w) words) where
    abbrev places_of : (us : List Word) → All IsPath us → List ℕ
    places_of [] paths = []
    places_of (u ∷ us) paths = (every u (All-head IsPath u us paths)).0 ∷ places_of us (All-tail IsPath u us paths)

    as_long : (us : List Word) (paths : All IsPath us) → length (places_of us paths) ≡ length us
    as_long [] paths = refl
    as_long (u ∷ us) paths = ap suc (as_long us (All-tail IsPath u us paths))

    place_told : (us : List Word) (paths : All IsPath us) (i : ℕ) → i < length us
        → (get_or (places_of us paths) i 0 < length words) × AreSame Ls (get_or us i []) (get_or words (get_or (places_of us paths) i 0) [])
    place_told [] paths i within = absurd (omega (arith, within))
    place_told (u ∷ us) paths zero within =
        let found = every u (All-head IsPath u us paths) in
        (found.2, subst (AreSame Ls u) (sym found.3 ∙ get_or_default words found.0 found.1 [] found.2) found.4)
    place_told (u ∷ us) paths (suc i) within = place_told us (All-tail IsPath u us paths) i (omega (arith, within))

  -- no more of them differ than there are words
  no_more : (words us : List Word) → ((w : Word) → IsPath w → Any (AreSame Ls w) words) → All IsPath words → All IsPath us
      → ((i j : ℕ) (u v : Word) → slice_get us i ≡ Some u → slice_get us j ≡ Some v → AreSame Ls u v → i ≡ j) → length us ≤ length words
  no_more words us every word_paths paths differ =
      let js = places_of words every us paths in
      let long : length js ≡ length us = as_long words every us paths in
      subst (λ n. n ≤ length words) long (length-le_from_distinct_below js (length words) (IsDistinct-from_apart (λ n k. n == k) js apart) below)
    where
      js : List ℕ
      js = places_of words every us paths

      long : length js ≡ length us
      long = as_long words every us paths

      told : (i : ℕ) → i < length us → (get_or js i 0 < length words) × AreSame Ls (get_or us i []) (get_or words (get_or js i 0) [])
      told = place_told words every us paths

      one : (i k : ℕ) → i < k → k < length us → get_or js i 0 ≡ get_or js k 0 → i ≡ k
      one i k less within equal =
          let within_i : i < length us = omega (arith, less, within) in
          let said_i = told i within_i in
          let said_k = told k within in
          let middle = get_or words (get_or js k 0) [] in
          let first : AreSame Ls (get_or us i []) middle = subst (λ j. AreSame Ls (get_or us i []) (get_or words j [])) equal said_i.1 in
          differ i k (get_or us i []) (get_or us k []) (slice_get-get_or us i [] within_i) (slice_get-get_or us k [] within)
          (same_through (get_or us i []) middle (get_or us k []) (word_paths (get_or js k 0) [] said_k.0) first (same_back (get_or us k []) middle said_k.1))

      apart : (i k d : ℕ) → i < k → k < length js → (get_or js i d == get_or js k d) ≡ false
      apart i k d less within = by (get_or js i d == get_or js k d) refl
        where
          by : (b : Bool) → (get_or js i d == get_or js k d) ≡ b → (get_or js i d == get_or js k d) ≡ false
          by false is = is
          by true is =
              let within_k : k < length us = omega (arith, within, long) in
              let same : get_or js i 0 ≡ get_or js k 0 = get_or_default js i 0 d (omega (arith, less, within))
              ∙ eqb-true (get_or js i d) (get_or js k d) is ∙ get_or_default js k d 0 within in
              let equal = one i k less within_k same in absurd (omega (arith, less, equal))

      below : (q : ℕ) → list_any (λ k. q == k) js ≡ true → q < length words
      below q is =
          let found = Contains-from_any eqb-true q js is in
          let said = told found.0 (subst (λ n. found.0 < n) long found.1) in
          subst (λ j. j < length words) (get_or_default js found.0 0 q found.1 ∙ found.2) said.0

  -- there is one number of classes
  pub one_count : (n k : ℕ) → HasClasses Ls n → HasClasses Ls k → n ≡ k
  one_count n k h i =
      let up : length h.words ≤ length i.words = no_more i.words h.words i.every i.paths h.paths h.differ in
      let down : length i.words ≤ length h.words = no_more h.words i.words h.every h.paths i.paths i.differ in
      omega (arith, up, down, h.count, i.count)
