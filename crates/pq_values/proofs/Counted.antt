-- As many numbers of a field are known as different ones are stated for it.
use Rattle.std.proofs.Common.{◌≡◌, ◌⊎◌, ℕ, ◌+◌, ◌==◌, Bool, true, false, ◌||◌, ◌&&◌, if◌then◌else◌, List, [], ◌∷◌, ◌++◌, map, length, refl}
use Rattle.std.proofs.Common.{sym, ap, ◌∙◌, arith, append_assoc, append-nil, inl, inr}
use Rattle.std.specs.List.{filter, list_any}
use Rattle.std.proofs.lemmas.Bool.Decides.{eqb_tells, nat_tests}
use Rattle.std.proofs.lemmas.List.{length-append, map-append}
use Rattle.std.proofs.lemmas.List.Elements.{filter-append}
use Rattle.std.proofs.Math.Bool.{or-true}
use Rattle.pq_model.proofs.CommutingFlows.{equal-comm}
use Rattle.pq_fields.specs.declared.field.Field.{Field}
use Rattle.pq_fields.specs.Packet.{rank}
use Rattle.pq_query.specs.Labels.{ascending}
use Rattle.pq_query.specs.Resolved.{is_field}
use Rattle.pq_query.proofs.Ascending.{has, length_ascending, one_more}
use Rattle.pq_query.proofs.Ports.{either_has}
use Rattle.pq_store.proofs.Order.{rank_injective}
use Rattle.pq_values.specs.Known.{is_same, known_count, with_one}
use Rattle.pq_values.specs.Limits.{count_for, numbers_for}
use Rattle.pq_values.specs.Stated.{Stated}
use Rattle.pq_values.proofs.Gathered.{with_all}

-- Numbers, each once, in the order in which they come.

abbrev with_number : ℕ → List ℕ → List ℕ
with_number n ks = if has ks n then ks else ks ++ n ∷ []

abbrev with_numbers : List ℕ → List ℕ → List ℕ
with_numbers [] ks = ks
with_numbers (n ∷ ns) ks = with_numbers ns (with_number n ks)

-- all of the numbers count
abbrev AllCount : List ℕ → Type 0
AllCount ks = length (ascending ks) ≡ length ks

has_last : (ks : List ℕ) (n m : ℕ) → has (ks ++ n ∷ []) m ≡ ((n == m) || has ks m)
has_last ks n m = either_has ks (n ∷ []) m ∙ by (has ks m) (n == m)
  where
    by : (a b : Bool) → (a || (b || false)) ≡ (b || a)
    by true true = refl
    by true false = refl
    by false true = refl
    by false false = refl

-- a number counts the same after others as before them
last_first : (ks : List ℕ) (n : ℕ) → length (ascending (ks ++ n ∷ [])) ≡ length (ascending (n ∷ ks))
last_first [] n = refl
last_first (k ∷ ks) n =
    length_ascending k (ks ++ n ∷ [])
    ∙ (ap (λ b. one_more b (length (ascending (ks ++ n ∷ [])))) (has_last ks n k)
    ∙ (ap (one_more ((n == k) || has ks k)) (last_first ks n ∙ length_ascending n ks)
    ∙ (by (eqb_tells n k)
    ∙ sym (length_ascending n (k ∷ ks) ∙ ap (one_more ((k == n) || has ks n)) (length_ascending k ks)))))
  where
    swapped : (a b : Bool) (m : ℕ) → one_more a (one_more b m) ≡ one_more b (one_more a m)
    swapped true b m = refl
    swapped false true m = refl
    swapped false false m = refl

    by : (((n == k) ≡ true) × (n ≡ k)) ⊎ (((n == k) ≡ false) × (n ≡ k → ⊥))
        → one_more ((n == k) || has ks k) (one_more (has ks n) (length (ascending ks))) ≡ one_more ((k == n) || has ks n)
        (one_more (has ks k) (length (ascending ks)))
    by (inl same) =
        let back : (k == n) ≡ true = grind (arith, nat_tests, same.1) in
        rw (same.0, back) (ap (λ m. one_more (has ks m) (length (ascending ks))) same.1)
    by (inr other) =
        let back : (k == n) ≡ false = grind (arith, nat_tests, other.0) in
        rw (other.0, back) (swapped (has ks k) (has ks n) (length (ascending ks)))

number_counts : (n : ℕ) (ks : List ℕ) → AllCount ks → AllCount (with_number n ks)
number_counts n ks all = by (has ks n) refl
  where
    by : (b : Bool) → has ks n ≡ b → AllCount (if b then ks else ks ++ n ∷ [])
    by true known = all
    by false new =
        let counted : length (ascending (ks ++ n ∷ [])) ≡ length (ascending ks) + 1 = last_first ks n
        ∙ (length_ascending n ks ∙ ap (λ b. one_more b (length (ascending ks))) new) in
        let longer : length (ks ++ n ∷ []) ≡ length ks + 1 = length-append ks (n ∷ []) in
        counted ∙ (ap (λ k. k + 1) all ∙ sym longer)

-- numbers that are gathered are as many as different ones are among them
all_counted : (ns ks : List ℕ) → AllCount ks → length (with_numbers ns ks) ≡ length (ascending (ns ++ ks))
all_counted [] ks all = sym all
all_counted (n ∷ ns) ks all = all_counted ns (with_number n ks) (number_counts n ks all) ∙ by (has ks n) refl
  where
    by : (b : Bool) → has ks n ≡ b → length (ascending (ns ++ (if b then ks else ks ++ n ∷ []))) ≡ length (ascending (n ∷ (ns ++ ks)))
    by true known =
        let among : has (ns ++ ks) n ≡ true = either_has ns ks n ∙ (ap (λ b. has ns n || b) known ∙ or-true (has ns n)) in
        sym (length_ascending n (ns ++ ks) ∙ ap (λ b. one_more b (length (ascending (ns ++ ks)))) among)
    by false new = ap (λ ms. length (ascending ms)) (sym (append_assoc ns ks (n ∷ []))) ∙ last_first (ns ++ ks) n

-- Numbers of a field.

pub itself : (n : ℕ) → (n == n) ≡ true
itself n = grind (arith, nat_tests)

pub numbers_append : (f : Field) (ss ts : List Stated) → numbers_for f (ss ++ ts) ≡ numbers_for f ss ++ numbers_for f ts
numbers_append f ss ts = ap (map (λ s. s.1)) (filter-append (λ s. is_field f s.0) ss ts)
    ∙ map-append (λ s. s.1) (filter (λ s. is_field f s.0) ss) (filter (λ s. is_field f s.0) ts)

-- a number of the field is known where it is one of the field's known numbers
same_known : (f : Field) (n : ℕ) (known : List Stated) → list_any (is_same (f, n)) known ≡ has (numbers_for f known) n
same_known f n [] = refl
same_known f n (s ∷ known) = by (is_field f s.0) (same_known f n known)
  where
    by : (b : Bool) → list_any (is_same (f, n)) known ≡ has (numbers_for f known) n
        → ((b && (n == s.1)) || list_any (is_same (f, n)) known)
        ≡ has (map (λ t. t.1) (if b then s ∷ filter (λ t. is_field f t.0) known else filter (λ t. is_field f t.0) known)) n
    by true later = rw (equal-comm n s.1, later) refl
    by false later = later

own_number : (f : Field) (n : ℕ) (known : List Stated) → numbers_for f (with_one (f, n) known) ≡ with_number n (numbers_for f known)
own_number f n known = by (list_any (is_same (f, n)) known) (same_known f n known)
  where
    by : (b : Bool) → b ≡ has (numbers_for f known) n → numbers_for f (if b then known else known ++ (f, n) ∷ []) ≡ with_number n (numbers_for f known)
    by true is = rw (sym is) refl
    by false is =
        let own : is_field f f ≡ true = itself (rank f) in
        let one : numbers_for f ((f, n) ∷ []) ≡ n ∷ [] = rw own refl in
        rw (sym is) (numbers_append f known ((f, n) ∷ []) ∙ ap (λ ns. numbers_for f known ++ ns) one)

other_number : (f g : Field) (n : ℕ) (known : List Stated) → is_field f g ≡ false → numbers_for f (with_one (g, n) known) ≡ numbers_for f known
other_number f g n known other = by (list_any (is_same (g, n)) known)
  where
    none : numbers_for f ((g, n) ∷ []) ≡ []
    none = rw other refl

    by : (b : Bool) → numbers_for f (if b then known else known ++ (g, n) ∷ []) ≡ numbers_for f known
    by true = refl
    by false = numbers_append f known ((g, n) ∷ []) ∙ (ap (λ ns. numbers_for f known ++ ns) none ∙ append-nil (numbers_for f known))

numbers_gathered : (f : Field) (ss known : List Stated) → numbers_for f (with_all ss known) ≡ with_numbers (numbers_for f ss) (numbers_for f known)
numbers_gathered f [] known = refl
numbers_gathered f ((g, n) ∷ ss) known = numbers_gathered f ss (with_one (g, n) known) ∙ elim (eqb_tells (rank f) (rank g)) [
  | inl same ↦
      let one : numbers_for f (with_one (g, n) known) ≡ with_number n (numbers_for f known) =
      ap (λ h. numbers_for f (with_one (h, n) known)) (sym (rank_injective f g same.1)) ∙ own_number f n known in
      let more : numbers_for f ((g, n) ∷ ss) ≡ n ∷ numbers_for f ss = rw same.0 refl in
      ap (with_numbers (numbers_for f ss)) one ∙ ap (λ ns. with_numbers ns (numbers_for f known)) (sym more)
  | inr other ↦
      let none : numbers_for f (with_one (g, n) known) ≡ numbers_for f known = other_number f g n known other.0 in
      let more : numbers_for f ((g, n) ∷ ss) ≡ numbers_for f ss = rw other.0 refl in
      ap (with_numbers (numbers_for f ss)) none ∙ ap (λ ns. with_numbers ns (numbers_for f known)) (sym more)
]

-- so a field has as many known numbers as different ones are stated
pub known_counted : (ss : List Stated) (f : Field) → known_count (with_all ss []) f ≡ count_for f ss
known_counted ss f = ap length (numbers_gathered f ss [])
    ∙ (all_counted (numbers_for f ss) [] refl ∙ ap (λ ns. length (ascending ns)) (append-nil (numbers_for f ss)))
