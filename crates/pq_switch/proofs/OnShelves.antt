-- Each row is found on its shelf, so the best of four shelves is the best of all.
use Rattle.std.proofs.Common.{◌≡◌, ◌≢◌, map, ℕ, zero, suc, ◌+◌, ◌<◌, Bool, true, false, ◌==◌, List, [], ◌∷◌, ◌++◌, length, refl, sym}
use Rattle.std.proofs.Common.{ap, subst, ◌∙◌, arith, inl, inr}
use Rattle.std.specs.Prelude.{slice_get, slice_set}
use Rattle.std.proofs.lemmas.Bool.Decides.{nat_tests}
use Rattle.std.proofs.lemmas.List.{get_or-set_other, get_or-set_same, length-map, length-set}
use Rattle.std.specs.declared.option.Option.{Option}
use Rattle.std.specs.declared.option.Option.TheVariants.{None, Some}
use Rattle.std.specs.Cmp.{first_so, second_so}
use Rattle.std.specs.Option.{option_map}
use Rattle.std.proofs.lemmas.Bool.{eqb-true}
use Rattle.pq_model.specs.MatchFields.{covers, vlan_word}
use Rattle.pq_model.specs.SwitchMachine.{taken}
use Rattle.pq_model.specs.Tagged.{TaggedPacket}
use Rattle.pq_switch.specs.Added.{entries_of, in_turn}
use Rattle.pq_switch.specs.Choice.{IsBest, IsIn, best_of, counts}
use Rattle.pq_switch.specs.Shelves.{AreRows, LieBelow, found, picked, shelf_at, shelf_for, shelf_of}
use Rattle.pq_switch.specs.declared.entry.Slot.{Slot}
use Rattle.pq_switch.specs.declared.pattern.Pattern.{Pattern}
use Rattle.pq_switch.proofs.Choice.{best-all, best-among, best-is_taken, in-either, in-left, in-right}
use Rattle.pq_switch.proofs.Patterns.{covered, stated}

-- a row with its number
record IsAt (rows : List Slot) (t : Slot) : Type 0 where
  number : ℕ
  within : number < length rows
  is : slice_get rows number ≡ Some t

numbered : (rows : List Slot) (t : Slot) → IsIn t rows → IsAt rows t
numbered [] t i = absurd i
numbered (s ∷ rows) t (inl e) = record { number = 0; within = omega arith; is = ap (λ u. Some u) (sym e) }
numbered (s ∷ rows) t (inr i) =
    let more = numbered rows t i in
    let within = more.within in
    record { number = suc more.number; within = omega (arith, within); is = more.is }

read-in : (rows : List Slot) (i : ℕ) (o : Option Slot) (t : Slot) → slice_get rows i ≡ o → IsIn t (found o) → IsIn t rows
read-in rows i None t e h = absurd h
read-in [] i (Some s) t e h = subst (λ o. IsIn t (found o)) (sym e) h
read-in (r ∷ rows) zero (Some s) t e h = elim (subst (λ o. IsIn t (found o)) (sym e) h) [ inl same ↦ inl same | inr none ↦ absurd none ]
read-in (r ∷ rows) (suc i) (Some s) t e h = inr (read-in rows i (Some s) t e h)

in-picked : (rows : List Slot) (is : List ℕ) (i : ℕ) (t : Slot) → IsIn i is → slice_get rows i ≡ Some t → IsIn t (picked rows is)
in-picked rows [] i t here read = absurd here
in-picked rows (j ∷ is) i t (inl e) read =
    in-left t (found (slice_get rows j)) (picked rows is) (subst (λ o. IsIn t (found o)) (sym (ap (slice_get rows) (sym e) ∙ read)) (inl refl))
in-picked rows (j ∷ is) i t (inr h) read = in-right t (found (slice_get rows j)) (picked rows is) (in-picked rows is i t h read)

out-picked : (rows : List Slot) (is : List ℕ) (t : Slot) → IsIn t (picked rows is) → IsIn t rows
out-picked rows [] t h = absurd h
out-picked rows (j ∷ is) t h = elim (in-either t (found (slice_get rows j)) (picked rows is) h) [
  | inl here ↦ read-in rows j (slice_get rows j) t refl here
  | inr more ↦ out-picked rows is t more
]

-- the best of some, and then of more
pub best-onward : (n : ℕ) (x : TaggedPacket) (some more : List Slot) (best : Option Slot)
    → best_of n x (some ++ more) best ≡ best_of n x more (best_of n x some best)
best-onward n x [] more best = refl
best-onward n x (s ∷ some) more best = best-onward n x some more _

-- a row is put on a shelf

number-in : (before : List (List ℕ)) (k j row i : ℕ) → k < length before → IsIn i (shelf_at before j)
    → IsIn i (shelf_at (slice_set before k (shelf_at before k ++ row ∷ [])) j)
number-in before k j row i within h = by (j == k) refl
  where
    by : (b : Bool) → (j == k) ≡ b → IsIn i (shelf_at (slice_set before k (shelf_at before k ++ row ∷ [])) j)
    by true e =
        let same : j ≡ k = grind (nat_tests, arith) in
        subst (λ q. IsIn i (shelf_at (slice_set before k (shelf_at before k ++ row ∷ [])) q)) (sym same)
        (subst (IsIn i) (sym (get_or-set_same before k (shelf_at before k ++ row ∷ []) [] within))
        (in-left i (shelf_at before k) (row ∷ []) (subst (λ q. IsIn i (shelf_at before q)) same h)))
    by false e =
        let other : j ≢ k = grind (nat_tests, arith) in
        subst (IsIn i) (sym (get_or-set_other before k j (shelf_at before k ++ row ∷ []) [] other)) h

module _ (rows : List Slot) (before : List (List ℕ)) (row : ℕ) (s : Slot) (read : slice_get rows row ≡ Some s)
    (within : shelf_for (length before) s.entry < length before) where
  abbrev pub shelf : ℕ
  shelf = shelf_for (length before) s.entry

  abbrev pub after : List (List ℕ)
  after = slice_set before shelf (shelf_at before shelf ++ row ∷ [])

  pub as_many : length after ≡ length before
  as_many = length-set before shelf (shelf_at before shelf ++ row ∷ [])

  last-in : IsIn row (shelf_at after shelf)
  last-in = subst (IsIn row) (sym (get_or-set_same before shelf (shelf_at before shelf ++ row ∷ []) [] within))
      (in-right row (shelf_at before shelf) (row ∷ []) (inl refl))

  pub one_more : LieBelow row rows before → LieBelow (row + 1) rows after
  one_more lie i t below is = subst (λ count. IsIn i (shelf_at after (shelf_for count t.entry))) (sym as_many) (by (i == row) refl)
    where
      same_slot : (a b : Slot) → Some a ≡ Some b → a ≡ b
      same_slot a b e = ap (λ o. elim o [ Some u ↦ u | None ↦ a ]) e

      by : (b : Bool) → (i == row) ≡ b → IsIn i (shelf_at after (shelf_for (length before) t.entry))
      by true e =
          let here : i ≡ row = grind (nat_tests, arith) in
          let slot : s ≡ t = same_slot s t (sym read ∙ ap (slice_get rows) (sym here) ∙ is) in
          subst (λ q. IsIn q (shelf_at after (shelf_for (length before) t.entry))) (sym here)
          (subst (λ u. IsIn row (shelf_at after (shelf_for (length before) u.entry))) slot last-in)
      by false e =
          let earlier : i < row = grind (nat_tests, arith) in
          number-in before shelf (shelf_for (length before) t.entry) row i within (lie i t earlier is)

-- The four shelves.

module _ (n : ℕ) (x : TaggedPacket) (rows : List Slot) (shelves : List (List ℕ)) (are : AreRows rows shelves) where
  abbrev on : Option ℕ → Option ℕ → List Slot
  on port word = picked rows (shelf_at shelves (shelf_of (length shelves) n port word))

  abbrev port : Option ℕ
  port = Some x.packet.port

  abbrev word : Option ℕ
  word = Some (vlan_word x.vlan)

  abbrev some : List Slot
  some = ((on port word ++ on port None) ++ on None word) ++ on None None

  on-in : (p v : Option ℕ) (t : Slot) → IsIn t (on p v) → IsIn t rows
  on-in p v t h = out-picked rows (shelf_at shelves (shelf_of (length shelves) n p v)) t h

  inside : (t : Slot) → IsIn t some → IsIn t rows
  inside t h = elim (in-either t ((on port word ++ on port None) ++ on None word) (on None None) h) [
    | inl h ↦ elim (in-either t (on port word ++ on port None) (on None word) h) [
      | inl h ↦ elim (in-either t (on port word) (on port None) h) [ inl h ↦ on-in port word t h | inr h ↦ on-in port None t h ]
      | inr h ↦ on-in None word t h
    ]
    | inr h ↦ on-in None None t h
  ]

  lies : (t : Slot) → IsIn t rows → (p v : Option ℕ) → t.entry.table ≡ n → t.entry.matching.in_port ≡ p → t.entry.matching.vlan ≡ v → IsIn t (on p v)
  lies t i p v table port_is vlan_is =
      let at = numbered rows t i in
      subst (λ k. IsIn t (picked rows (shelf_at shelves k))) (λ j. shelf_of (length shelves) (table j) (port_is j) (vlan_is j))
      (in-picked rows (shelf_at shelves (shelf_for (length shelves) t.entry)) at.number t (are.shelved.each at.number t at.within at.is) at.is)

  abbrev one : List Slot
  one = on port word ++ on port None

  abbrev two : List Slot
  two = one ++ on None word

  all : (t : Slot) → IsIn t rows → counts n x t ≡ true → IsIn t some
  all t i counted =
      let m = t.entry.matching in
      let table : t.entry.table ≡ n = eqb-true t.entry.table n (first_so (t.entry.table == n) (covers m x) counted) in
      let shows = covered m x (second_so (t.entry.table == n) (covers m x) counted) in
      elim (stated m.in_port x.packet.port (ap (λ (p : Pattern). p.in_port) shows)) [
        | inl no_port ↦ elim (stated m.vlan (vlan_word x.vlan) (ap (λ (p : Pattern). p.vlan) shows)) [
          | inl no_word ↦ in-right t two (on None None) (lies t i None None table no_port no_word)
          | inr a_word ↦ in-left t two (on None None) (in-right t one (on None word) (lies t i None word table no_port a_word))
        ]
        | inr a_port ↦ elim (stated m.vlan (vlan_word x.vlan) (ap (λ (p : Pattern). p.vlan) shows)) [
          | inl no_word ↦ in-left t two (on None None)
              (in-left t one (on None word) (in-right t (on port word) (on port None) (lies t i port None table a_port no_word)))
          | inr a_word ↦ in-left t two (on None None)
              (in-left t one (on None word) (in-left t (on port word) (on port None) (lies t i port word table a_port a_word)))
        ]
      ]

  -- the best of four shelves is the best of all
  pub best_of_shelves : (first second third fourth : Option Slot) → first ≡ best_of n x (on port word) None → second ≡ best_of n x (on port None) first →
      third ≡ best_of n x (on None word) second → fourth ≡ best_of n x (on None None) third
      → option_map (λ s. s.entry) fourth ≡ taken (entries_of (in_turn rows)) n x
  best_of_shelves first second third fourth a b c d =
      let none : IsBest n x [] None = λ t i. absurd i in
      let first_is = subst (IsBest n x (on port word)) (sym a) (best-all n x [] (on port word) None none) in
      let second_is = subst (IsBest n x one) (sym b) (best-all n x (on port word) (on port None) first first_is) in
      let third_is = subst (IsBest n x two) (sym c) (best-all n x one (on None word) second second_is) in
      let fourth_is = subst (IsBest n x some) (sym d) (best-all n x two (on None None) third third_is) in
      sym (best-is_taken n x rows are.climb fourth (best-among n x some rows fourth inside all fourth_is))

-- the same of shelves as they are stored
pub shelved_more : {V : Type 0} (f : V → List ℕ) (rows : List Slot) (old new : List V) (row : ℕ) (s : Slot) → slice_get rows row ≡ Some s
    → shelf_for (length old) s.entry < length old
    → map f new ≡ slice_set (map f old) (shelf_for (length old) s.entry) (shelf_at (map f old) (shelf_for (length old) s.entry) ++ row ∷ [])
    → 0 < length old → LieBelow row rows (map f old) → (0 < length new) × LieBelow (row + 1) rows (map f new)
shelved_more f rows old new row s read within is some lie =
    let count : length (map f old) ≡ length old = length-map old f in
    let inside : shelf_for (length (map f old)) s.entry < length (map f old) = subst (λ n. shelf_for n s.entry < n) (sym count) within in
    let put : map f new ≡ slice_set (map f old) (shelf_for (length (map f old)) s.entry)
    (shelf_at (map f old) (shelf_for (length (map f old)) s.entry) ++ row ∷ []) =
    is ∙ (λ i. slice_set (map f old) (shelf_for (sym count i) s.entry) (shelf_at (map f old) (shelf_for (sym count i) s.entry) ++ row ∷ [])) in
    let many : length new ≡ length old = sym (length-map new f) ∙ ap length put ∙ as_many rows (map f old) row s read inside ∙ count in
    (subst (λ n. 0 < n) (sym many) some, subst (LieBelow (row + 1) rows) (sym put) (one_more rows (map f old) row s read inside lie))
