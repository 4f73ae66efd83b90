-- The best of entries is the one that a packet takes.
use Rattle.std.proofs.Common.{◌≡◌, ◌⊎◌, ℕ, ◌<◌, ◌≤◌, Bool, true, false, ◌&&◌, nat_lt, if◌then◌else◌, List, [], ◌∷◌, ◌++◌, append_assoc}
use Rattle.std.proofs.Common.{refl, sym, ap, subst, ◌∙◌, arith, inl, inr}
use Rattle.std.specs.Cmp.{first_so, second_so}
use Rattle.std.proofs.lemmas.Bool.{true≢false}
use Rattle.std.proofs.lemmas.Bool.Decides.{nat_tests}
use Rattle.std.specs.declared.option.Option.{Option}
use Rattle.std.specs.declared.option.Option.TheVariants.{None, Some}
use Rattle.std.specs.Option.{option_map}
use Rattle.std.specs.List.{AllByRecursion}
use Rattle.pq_fields.specs.Packet.{is_before}
use Rattle.pq_model.specs.Sorting.{put_by, sort_by}
use Rattle.pq_model.specs.Tagged.{TaggedPacket}
use Rattle.pq_model.specs.SwitchMachine.{Entry, better, taken}
use Rattle.std.proofs.lemmas.List.{append-nil}
use Rattle.pq_switch.specs.Added.{Climbs, entries_of, in_turn, turn}
use Rattle.pq_switch.specs.Choice.{IsBest, IsIn, best_of, comes_before, counts, preferred}
use Rattle.pq_switch.specs.declared.entry.Slot.{Slot}

module _ {A : Type 0} where
  pub in-left : (x : A) (xs ys : List A) → IsIn x xs → IsIn x (xs ++ ys)
  in-left x [] ys h = absurd h
  in-left x (y ∷ xs) ys (inl e) = inl e
  in-left x (y ∷ xs) ys (inr h) = inr (in-left x xs ys h)

  pub in-right : (x : A) (xs ys : List A) → IsIn x ys → IsIn x (xs ++ ys)
  in-right x [] ys h = h
  in-right x (y ∷ xs) ys h = inr (in-right x xs ys h)

  pub in-either : (x : A) (xs ys : List A) → IsIn x (xs ++ ys) → IsIn x xs ⊎ IsIn x ys
  in-either x [] ys h = inr h
  in-either x (y ∷ xs) ys (inl e) = inl (inl e)
  in-either x (y ∷ xs) ys (inr h) = elim (in-either x xs ys h) [ inl l ↦ inl (inr l) | inr r ↦ inr r ]

  in-put : (key : A → List ℕ) (x y : A) (ys : List A) → IsIn x (y ∷ ys) → IsIn x (put_by key y ys)
  in-put key x y [] h = h
  in-put key x y (z ∷ ys) h = by (is_before (key z) (key y)) h (in-put key x y ys)
    where
      by : (b : Bool) → IsIn x (y ∷ z ∷ ys) → (IsIn x (y ∷ ys) → IsIn x (put_by key y ys)) → IsIn x (if b then z ∷ put_by key y ys else y ∷ z ∷ ys)
      by true (inl e) more = inr (more (inl e))
      by true (inr (inl e)) more = inl e
      by true (inr (inr h)) more = inr (more (inr h))
      by false h more = h

  out-put : (key : A → List ℕ) (x y : A) (ys : List A) → IsIn x (put_by key y ys) → IsIn x (y ∷ ys)
  out-put key x y [] h = h
  out-put key x y (z ∷ ys) h = by (is_before (key z) (key y)) h (out-put key x y ys)
    where
      by : (b : Bool) → IsIn x (if b then z ∷ put_by key y ys else y ∷ z ∷ ys) → (IsIn x (put_by key y ys) → IsIn x (y ∷ ys)) → IsIn x (y ∷ z ∷ ys)
      by true (inl e) more = inr (inl e)
      by true (inr h) more = elim (more h) [ inl e ↦ inl e | inr i ↦ inr (inr i) ]
      by false h more = h

  in-sorted : (key : A → List ℕ) (x : A) (xs : List A) → IsIn x xs → IsIn x (sort_by key xs)
  in-sorted key x [] h = h
  in-sorted key x (y ∷ xs) (inl e) = in-put key x y (sort_by key xs) (inl e)
  in-sorted key x (y ∷ xs) (inr h) = in-put key x y (sort_by key xs) (inr (in-sorted key x xs h))

  out-sorted : (key : A → List ℕ) (x : A) (xs : List A) → IsIn x (sort_by key xs) → IsIn x xs
  out-sorted key x [] h = h
  out-sorted key x (y ∷ xs) h = elim (out-put key x y (sort_by key xs) h) [ inl e ↦ inl e | inr i ↦ inr (out-sorted key x xs i) ]

itself : (s : Slot) → comes_before s s ≡ false
itself s = grind (arith, nat_tests)

carried : (s t best : Slot) → comes_before s best ≡ true → comes_before t best ≡ false → comes_before t s ≡ false
carried s t best h g = grind (arith, nat_tests)

not_second : (a b : Bool) → a && b ≡ false → a ≡ true → b ≡ false
not_second true b h e = h
not_second false b h e = absurd (true≢false (sym e))

module _ (n : ℕ) (x : TaggedPacket) where
  at_end : (t s : Slot) (slots : List Slot) → IsIn t (slots ++ s ∷ []) → IsIn t slots ⊎ (t ≡ s)
  at_end t s slots h = elim (in-either t slots (s ∷ []) h) [ inl i ↦ inl i | inr i ↦ elim i [ inl e ↦ inr e | inr none ↦ absurd none ] ]

  best-more : (slots : List Slot) (s : Slot) (best : Option Slot) → IsBest n x slots best → IsBest n x (slots ++ s ∷ []) (preferred n x s best)
  best-more slots s None h = by (counts n x s) refl
    where
      by : (b : Bool) → counts n x s ≡ b → IsBest n x (slots ++ s ∷ []) (if b then Some s else None)
      by true c = (
        in-right s slots (s ∷ []) (inl refl),
        c,
        λ t i d. elim (at_end t s slots i) [
          | inl j ↦ absurd (true≢false (sym d ∙ h t j))
          | inr e ↦ ap (λ u. comes_before u s) e ∙ itself s
        ],
      )
      by false c = λ t i. elim (at_end t s slots i) [ inl j ↦ h t j | inr e ↦ ap (counts n x) e ∙ c ]
  best-more slots s (Some best) h = by (counts n x s && comes_before s best) refl
    where
      by : (b : Bool) → counts n x s && comes_before s best ≡ b → IsBest n x (slots ++ s ∷ []) (if b then Some s else Some best)
      by true c = (
        in-right s slots (s ∷ []) (inl refl),
        first_so _ _ c,
        λ t i d. elim (at_end t s slots i) [
          | inl j ↦ carried s t best (second_so (counts n x s) (comes_before s best) c) (h.2 t j d)
          | inr e ↦ ap (λ u. comes_before u s) e ∙ itself s
        ],
      )
      by false c = (
        in-left best slots (s ∷ []) h.0,
        h.1,
        λ t i d. elim (at_end t s slots i) [
          | inl j ↦ h.2 t j d
          | inr e ↦ ap (λ u. comes_before u best) e ∙ not_second (counts n x s) (comes_before s best) c (ap (counts n x) (sym e) ∙ d)
        ],
      )

  pub best-all : (slots more : List Slot) (best : Option Slot) → IsBest n x slots best → IsBest n x (slots ++ more) (best_of n x more best)
  best-all slots [] best h = subst (λ l. IsBest n x l best) (sym (append-nil slots)) h
  best-all slots (s ∷ more) best h =
      subst (λ l. IsBest n x l (best_of n x more (preferred n x s best))) (append_assoc slots (s ∷ []) more)
      (best-all (slots ++ s ∷ []) more (preferred n x s best) (best-more slots s best h))

  -- the best of some is the best of all of which they are those that count
  pub best-among : (some all : List Slot) (best : Option Slot) → ((t : Slot) → IsIn t some → IsIn t all)
      → ((t : Slot) → IsIn t all → counts n x t ≡ true → IsIn t some) → IsBest n x some best → IsBest n x all best
  best-among some all None sub sup h = λ t i. by t i (counts n x t) refl
    where
      by : (t : Slot) → IsIn t all → (b : Bool) → counts n x t ≡ b → b ≡ false
      by t i true c = sym c ∙ h t (sup t i c)
      by t i false c = refl
  best-among some all (Some s) sub sup h = (sub s h.0, h.1, λ t i c. h.2 t (sup t i c) c)

  below_all : (s t : Slot) (slots : List Slot) → AllByRecursion (λ u. s.sequence < u.sequence) slots → IsIn t slots → s.sequence < t.sequence
  below_all s t [] all i = absurd i
  below_all s t (u ∷ slots) (here, all) (inl e) = subst (λ v. s.sequence < v.sequence) (sym e) here
  below_all s t (u ∷ slots) (here, all) (inr i) = below_all s t slots all i

  -- the taken one, if any, has no priority above p
  abbrev UpTo : ℕ → Option Entry → Type 0
  UpTo p None = Unit {0}
  UpTo p (Some f) = f.priority ≤ p

  no_higher : (p : ℕ) (slots : List Slot) → ((t : Slot) → IsIn t slots → counts n x t ≡ true → t.entry.priority ≤ p) → UpTo p (taken (entries_of slots) n x)
  no_higher p [] h = tt
  no_higher p (s ∷ slots) h = by (counts n x s) refl (taken (entries_of slots) n x) (no_higher p slots (λ t i. h t (inr i)))
    where
      chosen : (b : Bool) (f : Entry) → s.entry.priority ≤ p → f.priority ≤ p → UpTo p (if b then Some f else Some s.entry)
      chosen true f k l = l
      chosen false f k l = k

      by : (b : Bool) → counts n x s ≡ b → (o : Option Entry) → UpTo p o → UpTo p (if b then better s.entry o else o)
      by true c None g = h s (inl refl) c
      by true c (Some f) g = chosen (nat_lt s.entry.priority f.priority) f (h s (inl refl) c) g
      by false c o g = g

  stays : (e : Entry) (o : Option Entry) → UpTo e.priority o → better e o ≡ Some e
  stays e None h = refl
  stays e (Some f) h = let test : nat_lt e.priority f.priority ≡ false = grind (arith, nat_tests) in rw test refl

  not_above : (s t : Slot) → comes_before t s ≡ false → t.entry.priority ≤ s.entry.priority
  not_above s t h = grind (arith, nat_tests)

  strictly_below : (y s : Slot) → comes_before y s ≡ false → y.sequence < s.sequence → nat_lt y.entry.priority s.entry.priority ≡ true
  strictly_below y s h k = grind (arith, nat_tests)

  pub best-taken : (slots : List Slot) → Climbs slots → (best : Option Slot) → IsBest n x slots best
      → taken (entries_of slots) n x ≡ option_map (λ s. s.entry) best
  best-taken [] climb None h = refl
  best-taken [] climb (Some s) h = absurd h.0
  best-taken (y ∷ slots) (above, climb) best h = by (counts n x y) refl best h (best-taken slots climb)
    where
      by : (b : Bool) → counts n x y ≡ b → (best : Option Slot) → IsBest n x (y ∷ slots) best
          → ((o : Option Slot) → IsBest n x slots o → taken (entries_of slots) n x ≡ option_map (λ s. s.entry) o) →
          (if b then better y.entry (taken (entries_of slots) n x) else taken (entries_of slots) n x) ≡ option_map (λ s. s.entry) best
      by true c None h more = absurd (true≢false (sym c ∙ h y (inl refl)))
      by true c (Some s) h more = elim h.0 [
        | inl e ↦ ap (λ u. better u.entry (taken (entries_of slots) n x)) (sym e)
            ∙ stays s.entry (taken (entries_of slots) n x) (no_higher s.entry.priority slots (λ t i d. not_above s t (h.2 t (inr i) d)))
        | inr i ↦ ap (better y.entry) (more (Some s) (i, h.1, λ t j. h.2 t (inr j)))
            ∙ ap (λ b. if b then Some s.entry else Some y.entry) (strictly_below y s (h.2 y (inl refl) c) (below_all y s slots above i))
      ]
      by false c None h more = more None (λ t i. h t (inr i))
      by false c (Some s) h more =
          more (Some s) (
            elim h.0 as (λ _. IsIn s slots) [ inl e ↦ absurd (true≢false (sym h.1 ∙ ap (counts n x) e ∙ c)) | inr i ↦ i ],
            h.1,
            λ t j. h.2 t (inr j),
          )

  -- the best of all is the one that a packet takes
  pub best-is_taken : (slots : List Slot) → Climbs (in_turn slots) → (best : Option Slot) → IsBest n x slots best
      → taken (entries_of (in_turn slots)) n x ≡ option_map (λ s. s.entry) best
  best-is_taken slots climb best h =
      best-taken (in_turn slots) climb best (best-among slots (in_turn slots) best (λ t. in-sorted turn t slots) (λ t i c. out-sorted turn t slots i) h)
