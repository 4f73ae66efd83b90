-- The places of signatures in lists of them.
use Rattle.std.proofs.Common.{ℕ, zero, suc, ◌<◌, ◌≤◌, ◌≡◌, ◌∙◌, Bool, true, false, List, [], ◌∷◌, ◌++◌, None, Some, length, get_or, refl}
use Rattle.std.proofs.Common.{sym, ap, subst, inl, inr, arith}
use Rattle.std.specs.Prelude.{cond, if◌then◌else◌, nat_lt}
use Rattle.std.specs.List.{list_any, position, position_or_len}
use Rattle.std.proofs.lemmas.Bool.Decides.{leb_tells}
use Rattle.std.proofs.lemmas.Bool.{cases_Bool}
use Rattle.indexmap.specs.IndexSet.{insert_key}
use Rattle.pq_letters.specs.Numbering.{place_in}
use Rattle.pq_letters.specs.Order.{same_truths, truths_eq, truths_equiv}

-- the place of a signature that is first is 0
pub place_here : (t : List Bool) (ts : List (List Bool)) (s : List Bool) → truths_eq t s ≡ true → place_in (t ∷ ts) s ≡ 0
place_here t ts s equal = ap (λ b. if b then zero else suc (place_in ts s)) equal

-- that of another is one more than among the rest
pub place_later : (t : List Bool) (ts : List (List Bool)) (s : List Bool) → truths_eq t s ≡ false → place_in (t ∷ ts) s ≡ suc (place_in ts s)
place_later t ts s other = ap (λ b. if b then zero else suc (place_in ts s)) other

-- the first place of a signature, as the set counts it
first_place : (ts : List (List Bool)) (s : List Bool) → position_or_len (truths_eq s) ts ≡ place_in ts s
first_place [] s = refl
first_place (t ∷ ts) s = elim (cases_Bool (truths_eq t s)) [
  | inl equal ↦ rw (truths_equiv.symm s t, equal) refl
  | inr other ↦ rw (truths_equiv.symm s t, other) (omega (arith, first_place ts s))
]

-- a place is at most the length
place_within : (ts : List (List Bool)) (s : List Bool) → place_in ts s ≤ length ts
place_within [] s = omega arith
place_within (t ∷ ts) s = elim (cases_Bool (truths_eq t s)) [
  | inl equal ↦ omega (arith, place_here t ts s equal)
  | inr other ↦ omega (arith, place_later t ts s other, place_within ts s)
]

-- numbers in options
some_same : {m n : ℕ} → Some m ≡ Some n → m ≡ n
some_same same = cc

-- the place that the set finds
pub place_found : (ts : List (List Bool)) (s : List Bool) (k : ℕ) → Some k ≡ position (truths_eq s) ts → k ≡ place_in ts s
place_found ts s k found = by (nat_lt (position_or_len (truths_eq s) ts) (length ts)) found
  where
    by : (b : Bool) → Some k ≡ cond b (Some (position_or_len (truths_eq s) ts)) None → k ≡ place_in ts s
    by true is = omega (arith, some_same is, first_place ts s)
    by false is = absurd cc

-- where it finds none, the place is the length
pub place_missing : (ts : List (List Bool)) (s : List Bool) → None ≡ position (truths_eq s) ts → length ts ≡ place_in ts s
place_missing ts s none = elim (leb_tells (suc (position_or_len (truths_eq s) ts)) (length ts)) [
  | inl less ↦ let found : position (truths_eq s) ts ≡ Some (position_or_len (truths_eq s) ts) =
      ap (λ b. cond b (Some (position_or_len (truths_eq s) ts)) None) less.0 in absurd cc
  | inr over ↦ omega (arith, over.1, first_place ts s, place_within ts s)
]

-- a signature whose place is the length isn't there
not_there : (ts : List (List Bool)) (s : List Bool) → place_in ts s ≡ length ts → list_any (truths_eq s) ts ≡ false
not_there [] s last = refl
not_there (t ∷ ts) s last = elim (cases_Bool (truths_eq t s)) [
  | inl equal ↦ absurd (omega (arith, last, place_here t ts s equal))
  | inr other ↦ rw (truths_equiv.symm s t, other) (not_there ts s (omega (arith, last, place_later t ts s other)))
]

-- what is at a place that is below the length is the signature
pub at_place : (ts : List (List Bool)) (s : List Bool) → place_in ts s < length ts → get_or ts (place_in ts s) [] ≡ s
at_place [] s within = absurd (omega arith)
at_place (t ∷ ts) s within = elim (cases_Bool (truths_eq t s)) [
  | inl equal ↦ rw (place_here t ts s equal) (same_truths t s equal)
  | inr other ↦ rw (place_later t ts s other) (at_place ts s (omega (arith, within, place_later t ts s other)))
]

-- a signature that is at a place has one at or before it
place_before : (ts : List (List Bool)) (k : ℕ) → k < length ts → place_in ts (get_or ts k []) ≤ k
place_before [] k within = absurd (omega arith)
place_before (t ∷ ts) zero within = omega (arith, place_here t ts t (truths_equiv.refl t))
place_before (t ∷ ts) (suc k) within = elim (cases_Bool (truths_eq t (get_or ts k []))) [
  | inl equal ↦ omega (arith, place_here t ts (get_or ts k []) equal)
  | inr other ↦ omega (arith, place_later t ts (get_or ts k []) other, place_before ts k (omega arith))
]

-- the place of a signature among different ones is where it is
pub own_place : (ts : List (List Bool)) → ((i j : ℕ) → i < length ts → j < length ts → get_or ts i [] ≡ get_or ts j [] → i ≡ j) → (k : ℕ)
    → k < length ts → place_in ts (get_or ts k []) ≡ k
own_place ts differ k within =
    let before = place_before ts k within in
    differ (place_in ts (get_or ts k [])) k (omega arith) within (at_place ts (get_or ts k []) (omega arith))

-- one more signature is put after the others where it isn't there
pub put_last : (ts us : List (List Bool)) (s t : List Bool) → s ≡ t → place_in ts t ≡ length ts → us ≡ insert_key truths_eq ts s → us ≡ ts ++ t ∷ []
put_last ts us s t same last put =
    let there : list_any (truths_eq s) ts ≡ false = subst (λ r. list_any (truths_eq r) ts ≡ false) (sym same) (not_there ts t last) in
    put ∙ ap (λ b. if b then ts else ts ++ s ∷ []) there ∙ ap (λ r. ts ++ r ∷ []) same
