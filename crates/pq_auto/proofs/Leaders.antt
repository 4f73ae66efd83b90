-- Classes that are named by their leaders are parts of the states, round by round.
use Rattle.std.proofs.Common.{ℕ, ◌+◌, ◌<◌, ◌≡◌, ◌∙◌, ◌⊎◌, inl, inr, true, false, Bool, List, [], ◌∷◌, ◌++◌, length, map, get_or, Some}
use Rattle.std.proofs.Common.{nat_eq, refl, sym, ap, ap₂, subst, arith}
use Rattle.std.specs.Prelude.{slice_get}
use Rattle.std.specs.Cmp.Lexicographic.{pointwise, nat_list_eq_equiv}
use Rattle.std.proofs.lemmas.Bool.{cases_lt, true≢false}
use Rattle.std.proofs.lemmas.List.{get_or-map, get_or_append_left, get_or_push, length-append, length-map}
use Rattle.std.proofs.lemmas.Option.{slice_get_within}
use Rattle.pq_auto.specs.Machine.{Machine, IsMachine, AreSame}
use Rattle.pq_auto.specs.Parts.{Parts, IsParted, class_of, first_of}
use Rattle.pq_auto.specs.Refinement.{IsRound, mark, row_of}
use Rattle.pq_auto.specs.Leading.{AreLed, AreFirsts, GivesFirst, IsNext, key_in, leader_in, row_in}
use Rattle.pq_auto.proofs.Numbers.{one_key}
use Rattle.pq_lists.proofs.Places.{kept_places, last_place, older_or_last}
use Rattle.pq_auto.proofs.Rounds.{next_within, rows_same, class_in}

module _ (m : Machine) (leaders : List ℕ) where
  module _ (seen new : List (List ℕ)) (firsts more : List ℕ) (are : AreFirsts m leaders seen firsts) (s first : ℕ) where
    -- what was seen stays
    pub next_stays : GivesFirst seen firsts (key_in m leaders s) s first new more → (u n : ℕ) → IsNext m leaders seen firsts u n → IsNext m leaders new more u n
    next_stays gives u n (inl stays) = inl stays
    next_stays (inl known) u n (inr moved) = let p = moved.1 in
        inr (moved.0, (p.0, ap (λ ks. slice_get ks p.0) known.3 ∙ p.1, p.2 ∙ ap (λ fs. get_or fs p.0 0) (sym known.4)))
    next_stays (inr fresh) u n (inr moved) =
        let p = moved.1 in
        let within : p.0 < length firsts = omega (arith, are.long, slice_get_within seen p.0 (key_in m leaders u) p.1) in
        inr (
          moved.0,
          (
            p.0,
            ap (λ ks. slice_get ks p.0) fresh.2 ∙ kept_places seen (key_in m leaders s ∷ []) p.0 (key_in m leaders u) p.1,
            p.2 ∙ sym (ap (λ fs. get_or fs p.0 0) fresh.3 ∙ get_or_append_left firsts (s ∷ []) 0 p.0 within),
          ),
        )

    -- the state's key is among those seen
    pub next_first : GivesFirst seen firsts (key_in m leaders s) s first new more
        → (row_in m leaders s ≡ row_in m leaders (leader_in leaders s) → ⊥) → IsNext m leaders new more s first
    next_first (inl known) moves =
        inr (moves, (known.0, ap (λ ks. slice_get ks known.0) known.3 ∙ known.1, known.2 ∙ ap (λ fs. get_or fs known.0 0) (sym known.4)))
    next_first (inr fresh) moves = inr (
      moves,
      (
        length seen,
        ap (λ ks. slice_get ks (length seen)) fresh.2 ∙ last_place seen (key_in m leaders s),
        fresh.1 ∙ sym (ap (λ fs. get_or fs (length seen) 0) fresh.3 ∙ get_or_push firsts s 0 (length seen) are.long),
      ),
    )

    -- each key is that of its first state
    pub firsts_after : s < length m.rows → GivesFirst seen firsts (key_in m leaders s) s first new more → AreFirsts m leaders new more
    firsts_after h (inl known) = subst (λ ks. AreFirsts m leaders ks more) (sym known.3) (subst (AreFirsts m leaders seen) (sym known.4) are)
    firsts_after h (inr fresh) =
        subst (λ ks. AreFirsts m leaders ks more) (sym fresh.2) (subst (AreFirsts m leaders (seen ++ key_in m leaders s ∷ [])) (sym fresh.3)
        (record {
          long = omega (arith, are.long, length-append firsts (s ∷ []), length-append seen (key_in m leaders s ∷ []));
          once = λ p q k at_p at_q. once p q k (older_or_last seen (key_in m leaders s) p k at_p) (older_or_last seen (key_in m leaders s) q k at_q);
          keyed = λ p k at. keyed p k (older_or_last seen (key_in m leaders s) p k at);
        }))
      where
        once : (p q : ℕ) (k : List ℕ) → (slice_get seen p ≡ Some k) ⊎ ((p ≡ length seen) × (k ≡ key_in m leaders s))
            → (slice_get seen q ≡ Some k) ⊎ ((q ≡ length seen) × (k ≡ key_in m leaders s)) → p ≡ q
        once p q k (inl old_p) (inl old_q) = are.once p q k old_p old_q
        once p q k (inl old_p) (inr own_q) = absurd (fresh.0 p (old_p ∙ ap Some own_q.1))
        once p q k (inr own_p) (inl old_q) = absurd (fresh.0 q (old_q ∙ ap Some own_p.1))
        once p q k (inr own_p) (inr own_q) = own_p.0 ∙ sym own_q.0

        keyed : (p : ℕ) (k : List ℕ) → (slice_get seen p ≡ Some k) ⊎ ((p ≡ length seen) × (k ≡ key_in m leaders s))
            → (get_or (firsts ++ s ∷ []) p 0 < length m.rows) × (key_in m leaders (get_or (firsts ++ s ∷ []) p 0) ≡ k)
        keyed p k (inl old) = rw (get_or_append_left firsts (s ∷ []) 0 p (omega (arith, are.long, slice_get_within seen p k old))) (are.keyed p k old)
        keyed p k (inr own) = rw (get_or_push firsts s 0 p (are.long ∙ sym own.0)) (h, sym own.1)

  -- no key was seen yet
  pub none_first : AreFirsts m leaders [] []
  none_first = record { long = refl; once = λ p q k at_p at_q. absurd cc; keyed = λ p k at. absurd cc }

  module _ (machine : IsMachine m) (led : AreLed m leaders) (seen : List (List ℕ)) (firsts next : List ℕ)
      (are : AreFirsts m leaders seen firsts) (whole : length next ≡ length m.rows)
      (each : (s : ℕ) → s < length m.rows → IsNext m leaders seen firsts s (get_or next s 0)) where
    abbrev named : Parts
    named = record { seen = []; classes = leaders; firsts = [] }

    -- what is the same leads to the same leaders
    same_row : (s t : ℕ) → s < length m.rows → t < length m.rows → AreSame m s t → row_in m leaders s ≡ row_in m leaders t
    same_row s t hs ht same =
        rows_same m machine named s t hs ht
        (λ l hl. led.coarse (get_or (row_of m s) l 0) (get_or (row_of m t) l 0) (next_within m machine s l hs hl)
        (next_within m machine t l ht hl) (λ w below. same (l ∷ w) (hl, below)))

    within : (s n : ℕ) → s < length m.rows → IsNext m leaders seen firsts s n → n < length m.rows
    within s n h (inl stays) = subst (λ k. k < length m.rows) (sym stays.1) (led.within s h)
    within s n h (inr moved) = let p = moved.1 in subst (λ k. k < length m.rows) (sym p.2) (are.keyed p.0 (key_in m leaders s) p.1).0

    coarse : (s t n k : ℕ) → leader_in leaders s ≡ leader_in leaders t → row_in m leaders s ≡ row_in m leaders t
        → IsNext m leaders seen firsts s n → IsNext m leaders seen firsts t k → n ≡ k
    coarse s t n k one row (inl stay_s) (inl stay_t) = stay_s.1 ∙ one ∙ sym stay_t.1
    coarse s t n k one row (inl stay_s) (inr move_t) = absurd (move_t.0 (sym row ∙ stay_s.0 ∙ ap (row_in m leaders) one))
    coarse s t n k one row (inr move_s) (inl stay_t) = absurd (move_s.0 (row ∙ stay_t.0 ∙ ap (row_in m leaders) (sym one)))
    coarse s t n k one row (inr move_s) (inr move_t) =
        let p = move_s.1 in
        let q = move_t.1 in
        let key : key_in m leaders s ≡ key_in m leaders t = ap₂ (λ (c : ℕ) (cs : List ℕ). c ∷ cs) one row in
        p.2 ∙ ap (λ i. get_or firsts i 0) (are.once p.0 q.0 (key_in m leaders s) p.1 (q.1 ∙ ap Some (sym key))) ∙ sym q.2

    fine : (s n : ℕ) → s < length m.rows → IsNext m leaders seen firsts s n → mark m s ≡ mark m n
    fine s n h (inl stays) = led.fine s h ∙ ap (mark m) (sym stays.1)
    fine s n h (inr moved) =
        let p = moved.1 in
        let first = are.keyed p.0 (key_in m leaders s) p.1 in
        let f : ℕ = get_or firsts p.0 0 in
        let one : leader_in leaders f ≡ leader_in leaders s = ap (λ ks. get_or ks 0 0) first.1 in
        led.fine s h ∙ ap (mark m) (sym one) ∙ sym (led.fine f first.0) ∙ ap (mark m) (sym p.2)

    -- a round keeps together what is the same, and tells marks apart
    pub led_next : AreLed m next
    led_next = record {
      whole = whole;
      within = λ s h. within s (get_or next s 0) h (each s h);
      coarse = λ s t hs ht same. coarse s t (get_or next s 0) (get_or next t 0) (led.coarse s t hs ht same) (same_row s t hs ht same) (each s hs) (each t ht);
      fine = λ s h. fine s (get_or next s 0) h (each s h);
    }

  -- parts by leaders
  pub round_led : AreLed m leaders → (p : Parts) → IsParted (λ s. leader_in leaders s ∷ []) p → length p.classes ≡ length m.rows → IsRound m p
  round_led led p parted whole = record {
    key = λ s. leader_in leaders s ∷ [];
    parted = parted;
    whole = whole;
    coarse = λ s t hs ht same. parted.together s t (omega (arith, whole)) (omega (arith, whole)) (ap (λ n. n ∷ []) (led.coarse s t hs ht same));
    fine = λ s t hs ht same.
        let one : leader_in leaders s ≡ leader_in leaders t =
        ap (λ ks. get_or ks 0 0) (one_key (λ u. leader_in leaders u ∷ []) p parted s t (omega (arith, whole))
        (omega (arith, whole)) same) in
        led.fine s hs ∙ ap (mark m) one ∙ sym (led.fine t ht);
  }

-- the first states of parts lead
pub led_parts : (m : Machine) (p : Parts) → IsRound m p → AreLed m (map (first_of p) p.classes)
led_parts m p round = record {
  whole = length-map p.classes (first_of p) ∙ round.whole;
  within = λ s h. rw (at s h) (inside s h);
  coarse = λ s t hs ht same. at s hs ∙ ap (first_of p) (round.coarse s t hs ht same) ∙ sym (at t ht);
  fine = λ s h. rw (at s h) (round.fine s (first_of p (class_of p s)) h (inside s h) (sym (round.parted.first (class_of p s) (class_in m p round s h))));
}
  where
    inside : (s : ℕ) → s < length m.rows → first_of p (class_of p s) < length m.rows
    inside s h = let low = round.parted.within (class_of p s) (class_in m p round s h) in omega (arith, low, round.whole)

    at : (s : ℕ) → s < length m.rows → get_or (map (first_of p) p.classes) s 0 ≡ first_of p (class_of p s)
    at s h = get_or-map (first_of p) p.classes s 0 0 (omega (arith, round.whole))

-- rows that compare as unequal
pub unlike : (xs ys : List ℕ) (b : Bool) → b ≡ pointwise nat_eq xs ys → b ≡ false → xs ≡ ys → ⊥
unlike xs ys b told fails same = true≢false (sym (subst (λ (zs : List ℕ). pointwise nat_eq xs zs ≡ true) same (nat_list_eq_equiv.refl xs)) ∙ sym told ∙ fails)

-- one element more
pub each_more : (P : ℕ → ℕ → Type 0) (next more : List ℕ) (i n : ℕ) → length next ≡ i → more ≡ next ++ n ∷ []
    → ((s : ℕ) → s < i → P s (get_or next s 0)) → P i n → (s : ℕ) → s < i + 1 → P s (get_or more s 0)
each_more P next more i n long grown each own s h = elim (cases_lt s i) [
  | inl before ↦ subst (P s) (sym (ap (λ xs. get_or xs s 0) grown ∙ get_or_append_left next (n ∷ []) 0 s (omega (arith, long, before)))) (each s before)
  | inr past ↦ let last : i ≡ s = omega (arith, past, h) in
      subst (P s) (sym (ap (λ xs. get_or xs s 0) grown ∙ get_or_push next n 0 s (long ∙ last))) (subst (λ k. P k n) last own)
]
