-- Slots that differ.
use Rattle.std.proofs.Common.{ℕ, zero, suc, ◌+◌, ◌<◌, ◌≡◌, ◌≢◌, ◌∙◌, Bool, true, false, cond, List, [], ◌∷◌, ◌++◌, take, drop, length}
use Rattle.std.proofs.Common.{get_or, map, inl, inr, refl, sym, ap, subst, Some, arith}
use Rattle.std.specs.Prelude.{nat_eq, slice_get, slice_set}
use Rattle.std.specs.List.{AllByRecursion, IsDistinct, list_any, range_with_len, remove}
use Rattle.std.proofs.lemmas.Bool.Decides.{eqb_tells}
use Rattle.std.proofs.lemmas.Map.Steps.{length-le_from_distinct_below}
use Rattle.std.proofs.lemmas.Option.{same_Some}
use Rattle.pq_lists.proofs.Ranges.{range_push}
use Rattle.pq_sum.specs.Places.{renamed}

-- none of these is that one
abbrev pub NoneIs : ℕ → List ℕ → Type 0
NoneIs slot ss = AllByRecursion (λ s. nat_eq slot s ≡ false) ss

pub apart : (a b : ℕ) → nat_eq a b ≡ false → b ≢ a
apart a b none same = elim (eqb_tells a b) [ inl is ↦ absurd cc | inr other ↦ other.1 (sym same) ]

told_apart : (a b : ℕ) → b ≢ a → nat_eq a b ≡ false
told_apart a b other = elim (eqb_tells a b) [ inl is ↦ absurd (other (sym is.1)) | inr is ↦ is.0 ]

-- a slot of a list of which none is that one
pub none_at : (slot s : ℕ) (ss : List ℕ) (i : ℕ) → NoneIs slot ss → slice_get ss i ≡ Some s → s ≢ slot
none_at slot s [] i none at = absurd cc
none_at slot s (t ∷ ss) zero none at = subst (λ u. u ≢ slot) (same_Some t s at) (apart slot t none.0)
none_at slot s (t ∷ ss) (suc i) none at = none_at slot s ss i none.1 at

-- without the slot at a place, no slot is that one, and they differ still
pub others : (slot : ℕ) (ss : List ℕ) (place : ℕ) → IsDistinct nat_eq ss → slice_get ss place ≡ Some slot → NoneIs slot (remove ss place)
unfolding IsDistinct
others slot [] place differ at = absurd cc
others slot (s ∷ ss) zero differ at = subst (λ t. NoneIs t ss) (same_Some s slot at) differ.0
others slot (s ∷ ss) (suc place) differ at = (told_apart slot s (λ same. none_at s slot ss place differ.0 at (sym same)), others slot ss place differ.1 at)

none_taken : (slot : ℕ) (ss : List ℕ) (place : ℕ) → NoneIs slot ss → NoneIs slot (remove ss place)
none_taken slot [] zero none = tt
none_taken slot [] (suc place) none = tt
none_taken slot (s ∷ ss) zero none = none.1
none_taken slot (s ∷ ss) (suc place) none = (none.0, none_taken slot ss place none.1)

pub differ_taken : (ss : List ℕ) (place : ℕ) → IsDistinct nat_eq ss → IsDistinct nat_eq (remove ss place)
unfolding IsDistinct
differ_taken [] zero differ = tt
differ_taken [] (suc place) differ = tt
differ_taken (s ∷ ss) zero differ = differ.1
differ_taken (s ∷ ss) (suc place) differ = (none_taken s ss place differ.0, differ_taken ss place differ.1)

module _ (last slot : ℕ) where
  pub renamed_last : (s : ℕ) → s ≡ last → renamed last slot s ≡ slot
  renamed_last s same = elim (eqb_tells s last) [ inl is ↦ ap (λ b. cond b slot s) is.0 | inr is ↦ absurd (is.1 same) ]

  pub renamed_other : (s : ℕ) → s ≢ last → renamed last slot s ≡ s
  renamed_other s other = elim (eqb_tells s last) [ inl is ↦ absurd (other is.1) | inr is ↦ ap (λ b. cond b slot s) is.0 ]

  renamed_apart : (s t : ℕ) → t ≢ s → s ≢ slot → t ≢ slot → renamed last slot t ≢ renamed last slot s
  renamed_apart s t other first second same = elim (eqb_tells s last) [
    | inl s_is ↦ elim (eqb_tells t last) [
      | inl t_is ↦ other (t_is.1 ∙ sym s_is.1)
      | inr t_is ↦ second (sym (renamed_other t t_is.1) ∙ (same ∙ renamed_last s s_is.1))
    ]
    | inr s_is ↦ elim (eqb_tells t last) [
      | inl t_is ↦ first (sym (sym (renamed_last t t_is.1) ∙ (same ∙ renamed_other s s_is.1)))
      | inr t_is ↦ other (sym (renamed_other t t_is.1) ∙ (same ∙ renamed_other s s_is.1))
    ]
  ]

  none_renamed : (s : ℕ) (ss : List ℕ) → s ≢ slot → NoneIs slot ss → NoneIs s ss → NoneIs (renamed last slot s) (map (renamed last slot) ss)
  none_renamed s [] other none none_s = tt
  none_renamed s (t ∷ ss) other none none_s = (
    told_apart (renamed last slot s) (renamed last slot t) (renamed_apart s t (apart s t none_s.0) other (apart slot t none.0)),
    none_renamed s ss other none.1 none_s.1,
  )

  pub differ_renamed : (ss : List ℕ) → NoneIs slot ss → IsDistinct nat_eq ss → IsDistinct nat_eq (map (renamed last slot) ss)
  unfolding IsDistinct
  differ_renamed [] none differ = tt
  differ_renamed (s ∷ ss) none differ = (none_renamed s ss (apart slot s none.0) none.1 differ.0, differ_renamed ss none.1 differ.1)

-- a slot after all others differs from them
pub differ_more : (ss : List ℕ) (n : ℕ) → ((i s : ℕ) → slice_get ss i ≡ Some s → s < n) → IsDistinct nat_eq ss → IsDistinct nat_eq (ss ++ n ∷ [])
unfolding IsDistinct
differ_more [] n below differ = (tt, tt)
differ_more (s ∷ ss) n below differ = (by ss differ.0, differ_more ss n (λ i t at. below (suc i) t at) differ.1)
  where
    by : (ts : List ℕ) → NoneIs s ts → NoneIs s (ts ++ n ∷ [])
    by [] none = (told_apart s n (let less = below 0 s refl in omega (arith, less)), tt)
    by (t ∷ ts) none = (none.0, by ts none.1)

-- n slots below n that differ are all of them
module _ (ss : List ℕ) (n : ℕ) (all : length ss ≡ n) (below : (i s : ℕ) → slice_get ss i ≡ Some s → s < n) (differ : IsDistinct nat_eq ss) where
  place_of : (s : ℕ) (ts : List ℕ) → list_any (nat_eq s) ts ≡ true → (i : ℕ) × (slice_get ts i ≡ Some s)
  place_of s [] has = absurd cc
  place_of s (t ∷ ts) has = elim (eqb_tells s t) [
    | inl is ↦ (0, ap (λ u. Some u) (sym is.1))
    | inr is ↦ let more = place_of s ts (rw is.0 at has) in (suc more.0, more.1)
  ]

  none_among : (s : ℕ) (ts : List ℕ) → list_any (nat_eq s) ts ≡ false → NoneIs s ts
  none_among s [] none = tt
  none_among s (t ∷ ts) none = elim (eqb_tells s t) [
    | inl is ↦ absurd (let no = rw is.0 at none in cc)
    | inr is ↦ (is.0, none_among s ts (rw is.0 at none))
  ]

  one_more : (s : ℕ) → list_any (nat_eq s) ss ≡ false → IsDistinct nat_eq (s ∷ ss)
  unfolding IsDistinct
  one_more s none = (none_among s ss none, differ)

  pub place_of_slot : (s : ℕ) → s < n → (i : ℕ) × (slice_get ss i ≡ Some s)
  place_of_slot s within = by (list_any (nat_eq s) ss) refl
    where
      by : (b : Bool) → list_any (nat_eq s) ss ≡ b → (i : ℕ) × (slice_get ss i ≡ Some s)
      by true has = place_of s ss has
      by false none = absurd (let most = length-le_from_distinct_below (s ∷ ss) n (one_more s none) each in omega (arith, most, all))
        where
          each : (q : ℕ) → list_any (nat_eq q) (s ∷ ss) ≡ true → q < n
          each q has = let at = place_of q (s ∷ ss) has in near at.0 at.1
            where
              near : (i : ℕ) → slice_get (s ∷ ss) i ≡ Some q → q < n
              near zero at = subst (λ t. t < n) (same_Some s q at) within
              near (suc i) at = below i q at

pub turn_more : (n m : ℕ) → m ≡ n + 1 → range_with_len 0 m ≡ range_with_len 0 n ++ n ∷ []
turn_more n m is =
    ap (λ k. range_with_len 0 k) (let same : m ≡ suc n = omega (arith, is) in same)
    ∙ (range_push 0 n ∙ ap (λ k. range_with_len 0 n ++ k ∷ []) (let same : 0 + n ≡ n = omega arith in same))

-- one slot more that is renamed
renamed_next : (f : ℕ → ℕ) (ss : List ℕ) (i d : ℕ) → i < length ss
    → slice_set (map f (take i ss) ++ drop i ss) i (f (get_or (map f (take i ss) ++ drop i ss) i d)) ≡ map f (take (suc i) ss) ++ drop (suc i) ss
renamed_next f [] i d within = absurd (omega arith)
renamed_next f (s ∷ ss) zero d within = refl
renamed_next f (s ∷ ss) (suc i) d within = ap (λ l. f s ∷ l) (renamed_next f ss i d (omega arith))

pub renamed_more : (f : ℕ → ℕ) (ss now : List ℕ) (i d v : ℕ) → i < length ss → now ≡ map f (take i ss) ++ drop i ss → v ≡ f (get_or now i d)
    → slice_set now i v ≡ map f (take (i + 1) ss) ++ drop (i + 1) ss
renamed_more f ss now i d v within are is =
    ap (λ x. slice_set now i x) is ∙ (ap (λ l. slice_set l i (f (get_or l i d))) are
    ∙ (renamed_next f ss i d within ∙ ap (λ n. map f (take n ss) ++ drop n ss) (let same : suc i ≡ i + 1 = omega arith in same)))
