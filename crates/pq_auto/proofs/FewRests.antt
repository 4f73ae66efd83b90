-- Words of each parity lead an expression to few states.
use Rattle.std.proofs.Common.{◌≡◌, ℕ, zero, suc, ◌+◌, ◌*◌, ◌≤◌, Bool, true, false, not, ◌&&◌, if◌then◌else◌, nat_eq, inl, inr, List, []}
use Rattle.std.proofs.Common.{◌∷◌, length, Some, refl, sym, ap, subst, ◌∙◌, arith}
use Rattle.std.specs.List.{slice_get, AllByRecursion, IsDistinct}
use Rattle.std.specs.Cmp.Lexicographic.{pointwise}
use Rattle.std.specs.contracts.prelude.BoolPartialEq.TheImpl.{ghosts as bools}
use Rattle.pq_expr.specs.Expr.{ExprTree, IsLawful}
use Rattle.pq_deriv.specs.Choices.{IsOneOf}
use Rattle.pq_deriv.specs.Most.{most}
use Rattle.pq_deriv.specs.Rests.{IsRest}
use Rattle.pq_deriv.specs.State.{StateValue}
use Rattle.pq_deriv.proofs.Rests.{count_distinct}
use Rattle.pq_auto.specs.Machine.{Machine, follow, has_even_length}
use Rattle.pq_auto.specs.Rests.{Rest, after, rest_of, rests, whole, AreAlike, AreRestsOf}
use Rattle.pq_auto.specs.Search.{run}
use Rattle.pq_auto.specs.Searched.{IsSearched}
use Rattle.pq_auto.specs.Telling.{HasFew}
use Rattle.pq_auto.specs.Met.{met_eq}
use Rattle.pq_auto.proofs.Alike.{exact_bool}
use Rattle.pq_auto.proofs.Counted.{one_of_all}
use Rattle.pq_auto.proofs.Searched.{key_reached}
use Rattle.pq_auto.proofs.Products.{choice_turned, chosen_itself}

-- the places of the states of one parity, counted from this one
abbrev places : Bool → ℕ → List (StateValue × Bool) → List ℕ
places b i [] = []
places b i (k ∷ ks) = if bools.eq b k.1 then i ∷ places b (suc i) ks else places b (suc i) ks

-- the numbers of the rests of the states of one parity
abbrev rests_at : Bool → List (StateValue × Bool) → List (List ℕ)
rests_at b [] = []
rests_at b (k ∷ ks) = if bools.eq b k.1 then k.0.rest ∷ rests_at b ks else rests_at b ks

same_count : (b : Bool) (i : ℕ) (ks : List (StateValue × Bool)) → length (places b i ks) ≡ length (rests_at b ks)
same_count b i [] = refl
same_count b i (k ∷ ks) = by (bools.eq b k.1) (same_count b (suc i) ks)
  where
    by : (c : Bool) → length (places b (suc i) ks) ≡ length (rests_at b ks)
        → length (if c then i ∷ places b (suc i) ks else places b (suc i) ks)
        ≡ length (if c then k.0.rest ∷ rests_at b ks else rests_at b ks)
    by true same = ap suc same
    by false same = same

-- what is true of the rest of each state of one parity
all_at : (P : List ℕ → Type 0) (b : Bool) (ks : List (StateValue × Bool))
    → ((j : ℕ) (m : StateValue × Bool) → slice_get ks j ≡ Some m → bools.eq b m.1 ≡ true → P m.0.rest) → AllByRecursion P (rests_at b ks)
all_at P b [] each = tt
all_at P b (k ∷ ks) each = by (bools.eq b k.1) (each 0 k refl) (all_at P b ks (λ j m at. each (suc j) m at))
  where
    by : (c : Bool) → (c ≡ true → P k.0.rest) → AllByRecursion P (rests_at b ks) → AllByRecursion P (if c then k.0.rest ∷ rests_at b ks else rests_at b ks)
    by true first rest = (first refl, rest)
    by false first rest = rest

own_bool : (b : Bool) → bools.eq b b ≡ true
own_bool true = refl
own_bool false = refl

-- states of one parity that differ have rests that differ
differ : (k m : StateValue × Bool) → k.1 ≡ m.1 → met_eq k m ≡ false → pointwise nat_eq k.0.rest m.0.rest ≡ false
differ k m flag fails =
    by (pointwise nat_eq k.0.rest m.0.rest)
    (sym (ap (λ b. pointwise nat_eq k.0.rest m.0.rest && b) (ap (bools.eq k.1) (sym flag) ∙ own_bool k.1)) ∙ fails)
  where
    by : (c : Bool) → (c && true) ≡ false → c ≡ false
    by true is = absurd cc
    by false is = refl

-- a list more, where the test passes
distinct_more : (c : Bool) (r : List ℕ) (rs : List (List ℕ)) → (c ≡ true → AllByRecursion (λ s. pointwise nat_eq r s ≡ false) rs)
    → IsDistinct (pointwise nat_eq) rs → IsDistinct (pointwise nat_eq) (if c then r ∷ rs else rs)
unfolding IsDistinct
distinct_more true r rs first rest = (first refl, rest)
distinct_more false r rs first rest = rest

-- no two states of one parity have the same rest
distinct_at : (b : Bool) (ks : List (StateValue × Bool)) → AreAlike ks → IsDistinct met_eq ks → IsDistinct (pointwise nat_eq) (rests_at b ks)
unfolding IsDistinct
distinct_at b [] alike distinct = tt
distinct_at b (k ∷ ks) alike distinct =
    distinct_more (bools.eq b k.1) k.0.rest (rests_at b ks)
    (λ is. all_at (λ r. pointwise nat_eq k.0.rest r ≡ false) b ks
    (λ j m at same. differ k m (sym (exact_bool b k.1 is) ∙ exact_bool b m.1 same)
    (one_of_all (λ x. met_eq k x ≡ false) ks distinct.0 j m at)))
    (distinct_at b ks (λ i j x y at_i at_j. alike (suc i) (suc j) x y at_i at_j) distinct.1)

-- the place of a state of the parity is one of the places
placed : (b : Bool) (ks : List (StateValue × Bool)) (i n : ℕ) (r : Rest) → slice_get (rests ks) n ≡ Some r → r.even ≡ b → IsOneOf (places b i ks) (i + n)
placed b [] i n r at is = absurd cc
placed b (k ∷ ks) i zero r at is =
    let same : rest_of k ≡ r = cc in
    by (bools.eq b k.1) (ap (bools.eq b) (ap (λ x. x.even) same ∙ is) ∙ own_bool b)
  where
    by : (c : Bool) → c ≡ true → IsOneOf (if c then i ∷ places b (suc i) ks else places b (suc i) ks) (i + 0)
    by true passes = inl (omega arith)
    by false passes = absurd cc
placed b (k ∷ ks) i (suc n) r at is =
    let place : suc i + n ≡ i + suc n = omega arith in
    by (bools.eq b k.1) (subst (IsOneOf (places b (suc i) ks)) place (placed b ks (suc i) n r at is))
  where
    by : (c : Bool) → IsOneOf (places b (suc i) ks) (i + suc n) → IsOneOf (if c then i ∷ places b (suc i) ks else places b (suc i) ks) (i + suc n)
    by true one = inr one
    by false one = one

-- the parity after a word
pub even_behind : (alphabet : List (List Bool)) (w : List ℕ) (r : Rest)
    → (run (after alphabet) r w).even ≡ (if r.even then has_even_length w else not (has_even_length w))
even_behind alphabet [] r = chosen_itself r.even
even_behind alphabet (l ∷ w) r = even_behind alphabet w (after alphabet r l) ∙ choice_turned r.even (has_even_length w)

-- there are at most this many states of one parity as the expression has rests
few_at : (e : ExprTree) (keys : List (StateValue × Bool)) → AreAlike keys → AreRestsOf e keys → IsDistinct met_eq keys → IsLawful e
    → (b : Bool) → length (rests_at b keys) ≤ most e
few_at e keys alike are distinct lawful b = count_distinct e lawful (rests_at b keys) (distinct_at b keys alike distinct)
    (all_at (IsRest e) b keys (λ j m at same. subst (λ x. IsRest x m.0.rest) (are j m at).0 (are j m at).1))

-- words of each parity lead to at most this many states
pub few_states : (alphabet : List (List Bool)) (e : ExprTree) (keys : List (StateValue × Bool)) (t : Machine)
    → IsSearched (after alphabet) (whole e) (length alphabet) (rests keys) t.rows → length (rests keys) ≤ length t.rows
    → AreAlike keys → AreRestsOf e keys → IsDistinct met_eq keys → IsLawful e → HasFew (length alphabet) t (most e)
few_states alphabet e keys t searched all alike are distinct lawful b =
    let few = few_at e keys alike are distinct lawful b in
    let a : Machine = record { letters = length alphabet; rows = t.rows; even = []; accepted = [] } in (
      places b 0 keys,
      omega (arith, few, same_count b 0 keys),
      λ w below is. subst (IsOneOf (places b 0 keys)) (none_more (follow t.rows 0 w)) (
          placed b keys 0 (follow t.rows 0 w) (run (after alphabet) (whole e) w)
          (key_reached (after alphabet) (whole e) a (rests keys) searched all w below) (even_behind alphabet w (whole e) ∙ is)),
    )
  where
    none_more : (n : ℕ) → 0 + n ≡ n
    none_more n = omega arith

-- a state is of one parity or the other
all_places : (ks : List (StateValue × Bool)) → length ks ≡ length (rests_at true ks) + length (rests_at false ks)
all_places [] = refl
all_places (k ∷ ks) = by k.1 (all_places ks)
  where
    by : (c : Bool) → length ks ≡ length (rests_at true ks) + length (rests_at false ks)
        → suc (length ks) ≡ length (if bools.eq true c then k.0.rest ∷ rests_at true ks else rests_at true ks) + length
        (if bools.eq false c then k.0.rest ∷ rests_at false ks else rests_at false ks)
    by true rest = omega (arith, rest)
    by false rest = omega (arith, rest)

-- so a lawful expression has at most twice as many states as it has rests
pub few_both : (e : ExprTree) (keys : List (StateValue × Bool)) → AreAlike keys → AreRestsOf e keys → IsDistinct met_eq keys → IsLawful e
    → length keys ≤ 2 * most e
few_both e keys alike are distinct lawful =
    let evens : length (rests_at true keys) ≤ most e = few_at e keys alike are distinct lawful true in
    let odds : length (rests_at false keys) ≤ most e = few_at e keys alike are distinct lawful false in
    omega (arith, all_places keys, evens, odds)
