-- Automata that are side by side have few states, where each of them has.
use Rattle.std.proofs.Common.{◌≡◌, ℕ, suc, ◌*◌, ◌≤◌, Bool, true, false, not, if◌then◌else◌, nat_eq, inl, List, [], ◌∷◌, ◌++◌, length, map}
use Rattle.std.proofs.Common.{Some, Vec, Global, refl, sym, ap, subst, ◌∙◌, arith}
use Rattle.std.specs.List.{slice_get, flat_map, AllByRecursion, IsDistinct}
use Rattle.std.specs.Cmp.Lexicographic.{pointwise}
use Rattle.std.proofs.Math.ListN.{get_or}
use Rattle.std.proofs.lemmas.List.{length-map, length-append}
use Rattle.std.proofs.lemmas.Nat.{mul-le}
use Rattle.pq_deriv.specs.Choices.{IsOneOf}
use Rattle.pq_deriv.specs.Most.{product}
use Rattle.pq_deriv.proofs.Choices.{one_changed, one_before, one_behind, one_chosen, count_chosen}
use Rattle.pq_auto.specs.Machine.{Machine, AllBelow, follow, has_even_length}
use Rattle.pq_auto.specs.Search.{run}
use Rattle.pq_auto.specs.Searched.{IsSearched}
use Rattle.pq_auto.specs.Tables.{begin, lists, other_parity, starts, steps, steps_from}
use Rattle.pq_auto.specs.Telling.{HaveFew}
use Rattle.pq_auto.proofs.Assembled.{same_count}
use Rattle.pq_auto.proofs.Counted.{count_within, all_changed, distinct_lists}
use Rattle.pq_auto.proofs.Keys.{same_list}
use Rattle.pq_auto.proofs.Products.{led}

-- the number of a parity
abbrev bit : Bool → ℕ
bit true = 0
bit false = 1

-- the parity's number after a word
bit_after : (tables : List Machine) (w k : List ℕ) (b : Bool) → get_or k 0 0 ≡ bit b
    → get_or (run (steps tables) k w) 0 0 ≡ bit (if b then has_even_length w else not (has_even_length w))
bit_after tables [] k true is = is
bit_after tables [] k false is = is
bit_after tables (l ∷ w) k true is = bit_after tables w (steps tables k l) false (ap other_parity is)
bit_after tables (l ∷ w) k false is = bit_after tables w (steps tables k l) true (ap other_parity is) ∙ ap bit (by (has_even_length w))
  where
    by : (c : Bool) → c ≡ not (not c)
    by true = refl
    by false = refl

-- there is a number for each automaton
length_from : (i : ℕ) (ts : List Machine) (k : List ℕ) (l : ℕ) → length (steps_from i ts k l) ≡ length ts
length_from i [] k l = refl
length_from i (t ∷ ts) k l = ap suc (length_from (suc i) ts k l)

length_starts : (ts : List Machine) → length (starts ts) ≡ length ts
length_starts [] = refl
length_starts (t ∷ ts) = ap suc (length_starts ts)

length_run : (tables : List Machine) (w k : List ℕ) → length k ≡ suc (length tables) → length (run (steps tables) k w) ≡ suc (length tables)
length_run tables [] k long = long
length_run tables (l ∷ w) k long = length_run tables w (steps tables k l) (ap suc (length_from 1 tables k l))

-- the numbers are those where the word leads the automata
abbrev AreLed : List Machine → List ℕ → List ℕ → Type 0
AreLed ts w xs = (length xs ≡ length ts) × ((j : ℕ) (t : Machine) → slice_get ts j ≡ Some t → get_or xs j 0 ≡ follow t.rows 0 w)

-- each number in front of each list
abbrev put_first : List ℕ → List (List ℕ) → List (List ℕ)
put_first ns cs = flat_map (λ x. map (λ c. x ∷ c) cs) ns

-- one automaton more
led_more : (t : Machine) (ts : List Machine) (w ns : List ℕ) (cs : List (List ℕ)) (xs : List ℕ) → AreLed (t ∷ ts) w xs
    → IsOneOf ns (follow t.rows 0 w) → ((ys : List ℕ) → AreLed ts w ys → IsOneOf cs ys) → IsOneOf (put_first ns cs) xs
led_more t ts w ns cs [] are here rest = absurd (omega (arith, are.0))
led_more t ts w ns cs (x ∷ xs) are here rest =
    let first : x ≡ follow t.rows 0 w = are.1 0 t refl in
    let long : length xs ≡ length ts = omega (arith, are.0) in
    one_chosen ns cs x xs (subst (IsOneOf ns) (sym first) here) (rest xs (long, λ j u at. are.1 (suc j) u at))

-- words of one parity lead all automata to at most this many states
abbrev IsFew : ℕ → List Machine → ℕ → Bool → Type 0
IsFew letters ts m b = (cs : List (List ℕ)) × (length cs ≤ m) × ((w : List ℕ) → AllBelow letters w → has_even_length w ≡ b → (xs : List ℕ)
    → AreLed ts w xs → IsOneOf cs xs)

few_of_all : (letters : ℕ) (ts : List Machine) (ms : List ℕ) → HaveFew letters ts ms → (b : Bool) → IsFew letters ts (product ms) b
few_of_all letters [] [] few b = ([] ∷ [], omega arith, λ w below is xs are. none xs are.0)
  where
    none : (xs : List ℕ) → length xs ≡ 0 → IsOneOf ([] ∷ []) xs
    none [] short = inl refl
    none (x ∷ xs) short = absurd (omega (arith, short))
few_of_all letters [] (m ∷ ms) few b = absurd few
few_of_all letters (t ∷ ts) [] few b = absurd few
few_of_all letters (t ∷ ts) (m ∷ ms) few b =
    let here = few.0 b in
    let rest = few_of_all letters ts ms few.1 b in
    let each = mul-le (length here.0) (length rest.0) m (product ms) here.1 rest.1 in (
      put_first here.0 rest.0,
      omega (arith, each, count_chosen rest.0 here.0),
      λ w below is xs are. led_more t ts w here.0 rest.0 xs are (here.2 w below is) (rest.2 w below is),
    )

module _ (letters : ℕ) (tables : List Machine) (m : ℕ) (evens : IsFew letters tables m true) (odds : IsFew letters tables m false) where
  -- all lists of a parity and of numbers where words of this parity lead
  abbrev all_keys : List (List ℕ)
  all_keys = map (λ c. 0 ∷ c) evens.0 ++ map (λ c. 1 ∷ c) odds.0

  -- the list of numbers where a word leads is one of them
  one_key : (w : List ℕ) → AllBelow letters w → (k : List ℕ) → length k ≡ suc (length tables) → get_or k 0 0 ≡ bit (has_even_length w)
      → ((j : ℕ) (t : Machine) → slice_get tables j ≡ Some t → get_or k (suc j) 0 ≡ follow t.rows 0 w) → IsOneOf all_keys k
  one_key w below [] long parity are = absurd (omega (arith, long))
  one_key w below (p ∷ xs) long parity are = by (has_even_length w) refl parity
    where
      count : length xs ≡ length tables
      count = omega (arith, long)

      by : (b : Bool) → has_even_length w ≡ b → p ≡ bit b → IsOneOf all_keys (p ∷ xs)
      by true is zero = one_before (map (λ c. 0 ∷ c) evens.0) (map (λ c. 1 ∷ c) odds.0) (p ∷ xs)
          (subst (λ n. IsOneOf (map (λ c. 0 ∷ c) evens.0) (n ∷ xs)) (sym zero)
          (one_changed (λ c. 0 ∷ c) evens.0 xs (evens.2 w below is xs (count, are))))
      by false is one = one_behind (map (λ c. 0 ∷ c) evens.0) (map (λ c. 1 ∷ c) odds.0) (p ∷ xs)
          (subst (λ n. IsOneOf (map (λ c. 1 ∷ c) odds.0) (n ∷ xs)) (sym one)
          (one_changed (λ c. 1 ∷ c) odds.0 xs (odds.2 w below is xs (count, are))))

  count_keys : length all_keys ≤ 2 * m
  count_keys =
      let both = length-append (map (λ (c : List ℕ). 0 ∷ c) evens.0) (map (λ (c : List ℕ). 1 ∷ c) odds.0) in
      omega (arith, both, length-map evens.0 (λ (c : List ℕ). 0 ∷ c), length-map odds.0 (λ (c : List ℕ). 1 ∷ c), evens.1, odds.1)

  -- keys that a search finds, of which no two are equal, are at most this many
  few_keys : (keys rows : List (List ℕ)) → IsSearched (steps tables) (begin tables) letters keys rows → IsDistinct (pointwise nat_eq) keys → length keys ≤ 2 * m
  few_keys keys rows searched distinct =
      let goes = run (steps tables) (begin tables) in
      let each = all_changed (IsOneOf all_keys) goes searched.words
      (λ s w at. one_key w (searched.have.below s w at) (goes w) (length_run tables w (begin tables) (ap suc (length_starts tables)))
      (bit_after tables w (begin tables) true refl) (λ j t here. led tables j t here w)) in
      omega (arith, count_keys, count_within all_keys keys distinct (subst (AllByRecursion (IsOneOf all_keys)) searched.have.lead each))

-- so the automaton of all of them has at most this many states
pub few_rows : (tables : List Machine) (a : Machine) (keys : List (Vec ℕ Global))
    → IsSearched (steps tables) (begin tables) a.letters (lists keys) a.rows → length (lists keys) ≤ length a.rows
    → IsDistinct same_list keys → (ms : List ℕ) → HaveFew a.letters tables ms → length a.rows ≤ 2 * product ms
few_rows tables a keys searched all distinct ms few =
    let most = few_keys a.letters tables (product ms) (few_of_all a.letters tables ms few true) (few_of_all a.letters tables ms few false)
    (lists keys) a.rows searched (distinct_lists keys distinct) in
    omega (arith, most, same_count (steps tables) (begin tables) a (lists keys) searched all)
