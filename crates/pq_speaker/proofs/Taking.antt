-- Messages that the switch takes.
use Rattle.std.proofs.Common.{◌≡◌, ◌⊎◌, ℕ, zero, suc, Bool, true, false, not, ltb, ◌&&◌, List, [], ◌∷◌, ◌++◌, length, take, drop, refl, sym}
use Rattle.std.proofs.Common.{ap, subst, ◌∙◌, inl, inr, arith}
use Rattle.std.specs.List.{list_any}
use Rattle.std.specs.declared.option.Option.TheVariants.{None, Some}
use Rattle.std.proofs.lemmas.Bool.{cases_Bool, and_cases, both_ways, ltb-false, or_parts}
use Rattle.std.proofs.lemmas.List.{take-append-drop}
use Rattle.pq_model.specs.declared.message.Message.{Message}
use Rattle.pq_model.specs.declared.message.Message.TheVariants.{Flow, Group, Barrier}
use Rattle.pq_model.specs.Orders.{HasNoBarrier, IsLawfulOrder, IsNoBarrier, MayFollow}
use Rattle.pq_speaker.specs.World.{Taken, is_barrier, taken_after, taken_at}

pub taken-none : (place : ℕ) → taken_at place [] ≡ None
taken-none zero = refl
taken-none (suc n) = refl

-- a message taken: it was after others that are not barriers, and itself is one only if there were none
pub record IsCut (ms : List Message) (t : Taken) : Type 0 where
  pub front : List Message
  pub back : List Message
  pub all : ms ≡ front ++ t.message ∷ back
  pub others : t.others ≡ front ++ back
  pub free : list_any is_barrier front ≡ false
  pub first : is_barrier t.message ≡ true → front ≡ []

none_first : (front : List Message) → ltb 0 (length front) ≡ false → front ≡ []
none_first [] e = refl
none_first (f ∷ front) e = absurd (omega (arith, ltb-false 0 (length (f ∷ front)) e))

none_some : {t : Taken} → None ≡ Some t → ⊥
none_some e = cc

some_is : {t u : Taken} → Some t ≡ Some u → t ≡ u
some_is e = cc

taken-after : (front back : List Message) (t : Taken) → taken_after front back ≡ Some t → IsCut (front ++ back) t
taken-after front [] t e = cc
taken-after front (m ∷ back) t e = by (list_any is_barrier front) (is_barrier m && ltb 0 (length front)) refl refl
  where
    taken : Taken
    taken = record { message = m; others = front ++ back }

    first : (is_barrier m && ltb 0 (length front)) ≡ false → is_barrier m ≡ true → front ≡ []
    first e is = elim (and_cases (is_barrier m) (ltb 0 (length front)) e) [
      | inl not ↦ absurd (both_ways (is_barrier m) not is)
      | inr none ↦
          none_first front none
    ]

    cut : list_any is_barrier front ≡ false → (is_barrier m && ltb 0 (length front)) ≡ false → IsCut (front ++ m ∷ back) taken
    cut free may = record { front = front; back = back; all = refl; others = refl; free = free; first = first may }

    by : (a b : Bool) → list_any is_barrier front ≡ a → (is_barrier m && ltb 0 (length front)) ≡ b → IsCut (front ++ m ∷ back) t
    by true b x y = absurd (none_some (sym (blocked x) ∙ e))
      where
        blocked : list_any is_barrier front ≡ true → taken_after front (m ∷ back) ≡ None
        blocked h = rw h refl
    by false true x y = absurd (none_some (sym (blocked x y) ∙ e))
      where
        blocked : list_any is_barrier front ≡ false → (is_barrier m && ltb 0 (length front)) ≡ true → taken_after front (m ∷ back) ≡ None
        blocked h k = rw (h, k) refl
    by false false x y = subst (IsCut (front ++ m ∷ back)) (some_is (sym (passes x y) ∙ e)) (cut x y)
      where
        passes : list_any is_barrier front ≡ false → (is_barrier m && ltb 0 (length front)) ≡ false → taken_after front (m ∷ back) ≡ Some taken
        passes h k = rw (h, k) refl

pub taken-cut : (place : ℕ) (ms : List Message) (t : Taken) → taken_at place ms ≡ Some t → IsCut ms t
taken-cut place ms t e = subst (λ l. IsCut l t) (take-append-drop place ms) (taken-after (take place ms) (drop place ms) t e)

-- what is taken first may be processed first
barrier-free : (front : List Message) → list_any is_barrier front ≡ false → HasNoBarrier front
barrier-free [] free = tt
barrier-free (Flow f ∷ ms) free = (tt, barrier-free ms free)
barrier-free (Group g ∷ ms) free = (tt, barrier-free ms free)
barrier-free (Barrier x ∷ ms) free = cc

no_barrier : (m : Message) → is_barrier m ≡ false → IsNoBarrier m
no_barrier (Flow f) e = tt
no_barrier (Group g) e = tt
no_barrier (Barrier x) e = cc

may-nothing : (m : Message) → MayFollow m []
may-nothing (Flow f) = tt
may-nothing (Group g) = tt
may-nothing (Barrier x) = refl

may-more : (f m : Message) (front : List Message) → is_barrier f ≡ false → is_barrier m ≡ false → MayFollow f front → MayFollow f (m ∷ front)
may-more (Flow f) m front e n may = (no_barrier m n, may)
may-more (Group g) m front e n may = (no_barrier m n, may)
may-more (Barrier x) m front e n may = cc

pub taken-order : (m : Message) (front back order : List Message) → list_any is_barrier front ≡ false → (is_barrier m ≡ true → front ≡ []) →
    IsLawfulOrder (front ++ back) order → IsLawfulOrder (front ++ m ∷ back) (m ∷ order)
taken-order m [] back order free first lawful = ([], order, refl, may-nothing m, lawful)
taken-order m (f ∷ front) back order free first (before, after, e, may, lawful) =
    let parts = or_parts (is_barrier f) (list_any is_barrier front) free in
    let plain : is_barrier m ≡ false = elim (cases_Bool (is_barrier m)) [ inl yes_ ↦ cc (first yes_) | inr no_ ↦ no_ ] in (
      m ∷ before,
      after,
      ap (λ l. m ∷ l) e,
      may-more f m before parts.0 plain may,
      taken-order m front back (before ++ after) parts.1 (λ is. absurd (true_false is plain)) lawful,
    )
  where
    true_false : {b : Bool} → b ≡ true → b ≡ false → ⊥
    true_false x y = cc

-- the message taken is the last or one before it
pub split-last : (front back ms : List Message) (m last : Message) → front ++ m ∷ back ≡ ms ++ last ∷ [] →
    ((m ≡ last) × (ms ≡ front) × (back ≡ [])) ⊎ ((rest : List Message) × (ms ≡ front ++ m ∷ rest) × (back ≡ rest ++ last ∷ []))
split-last [] back [] m last e = inl (cc, refl, cc)
split-last [] back (x ∷ ms) m last e = inr (ms, cc, cc)
split-last (f ∷ front) back [] m last e = absurd (too_long front (cc))
  where
    too_long : (l : List Message) → l ++ m ∷ back ≡ [] → ⊥
    too_long [] x = cc
    too_long (a ∷ l) x = cc
split-last (f ∷ front) back (x ∷ ms) m last e =
    let here : f ≡ x = cc in
    let below : front ++ m ∷ back ≡ ms ++ last ∷ [] = cc in
    elim (split-last front back ms m last below) [
      | inl h ↦ inl (h.0, (λ i. sym here i ∷ h.1 i), h.2)
      | inr h ↦ inr (h.0, (λ i. sym here i ∷ h.1 i), h.2)
    ]
