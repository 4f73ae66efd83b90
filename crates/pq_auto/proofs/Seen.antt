-- A set of keys numbers them.
use Rattle.std.proofs.Common.{ℕ, ◌<◌, ◌≡◌, ◌∙◌, inl, inr, Bool, true, false, List, [], ◌∷◌, ◌++◌, length, get_or, Option, None}
use Rattle.std.proofs.Common.{Some, refl, sym, ap, arith, Vec, Global, if◌then◌else◌}
use Rattle.std.specs.Prelude.{slice_get, map}
use Rattle.std.specs.Option.{option_map}
use Rattle.std.specs.List.{list_any, position_or_len}
use Rattle.std.proofs.lemmas.Bool.{true≢false}
use Rattle.std.proofs.lemmas.Cmp.{nat_list_eq_equiv}
use Rattle.std.proofs.lemmas.List.{map-append, length-map}
use Rattle.std.proofs.lemmas.List.Folds.{list_any_at}
use Rattle.std.proofs.lemmas.List.Sums.{position_or_len_is}
use Rattle.std.proofs.lemmas.Option.{slice_get-map, slice_get_within, get_or_from_slice_get}
use Rattle.pq_auto.specs.Parts.{GivesNumber}
use Rattle.pq_auto.proofs.Keys.{exact, same_list}

-- the numbers of a key
abbrev numbers : Vec ℕ Global → List ℕ
numbers v = v.items

module _ (key : Vec ℕ Global) (old : List (Vec ℕ Global)) where
  -- a key that is found is equal
  found : (c : ℕ) (k : Vec ℕ Global) → slice_get old c ≡ Some k → same_list key k ≡ true → slice_get (map numbers old) c ≡ Some key.items
  found c k at same = slice_get-map numbers old c ∙ ap (option_map numbers) at ∙ ap Some (sym (exact key.items k.items same))

  -- a key whose numbers are among those seen is found
  finds : (c : ℕ) → slice_get (map numbers old) c ≡ Some key.items → list_any (same_list key) old ≡ true
  finds c at = by (slice_get old c) refl
    where
      by : (o : Option (Vec ℕ Global)) → slice_get old c ≡ o → list_any (same_list key) old ≡ true
      by None is = absurd (let e : None ≡ Some key.items = sym (slice_get-map numbers old c ∙ ap (option_map numbers) is) ∙ at in cc)
      by (Some k) is =
          let e : Some k.items ≡ Some key.items = sym (slice_get-map numbers old c ∙ ap (option_map numbers) is) ∙ at in
          let same : k.items ≡ key.items = cc in
          list_any_at (same_list key) old c key (slice_get_within old c k is)
          (rw (get_or_from_slice_get old c k key is, same) (nat_list_eq_equiv.refl key.items))

  -- the place of a key that is not found is the next
  next_place : list_any (same_list key) old ≡ false → position_or_len (same_list key) old ≡ length old
  next_place none = position_or_len_is (same_list key) old (length old) key (omega arith)
      (λ k h. fails k h (same_list key (get_or old k key)) refl) (λ h. absurd (omega arith))
    where
      fails : (k : ℕ) → k < length old → (b : Bool) → same_list key (get_or old k key) ≡ b → b ≡ false
      fails k h false is = refl
      fails k h true is = absurd (true≢false (sym (list_any_at (same_list key) old k key h is) ∙ none))

  -- what an insertion answers is the number
  pub gives_number : (new : List (Vec ℕ Global)) (c : ℕ) → new ≡ (if list_any (same_list key) old then old else old ++ key ∷ [])
      → c ≡ position_or_len (same_list key) old → (k : Vec ℕ Global) → slice_get new c ≡ Some k → same_list key k ≡ true
      → GivesNumber (map numbers old) key.items c (map numbers new)
  gives_number new c inserted index k at same = by (list_any (same_list key) old) refl
    where
      by : (b : Bool) → list_any (same_list key) old ≡ b → GivesNumber (map numbers old) key.items c (map numbers new)
      by true is =
          let kept : new ≡ old = inserted ∙ rw is refl in
          inl (ap (map numbers) kept, found c k (sym (ap (λ ks. slice_get ks c) kept) ∙ at) same)
      by false is =
          let grown : new ≡ old ++ key ∷ [] = inserted ∙ rw is refl in
          inr (
            ap (map numbers) grown ∙ map-append numbers old (key ∷ []),
            index ∙ next_place is ∙ sym (length-map old numbers),
            λ d there. true≢false (sym (finds d there) ∙ is),
          )
