-- Where words lead automata that are side by side.
use Rattle.std.proofs.Common.{◌≡◌, ℕ, zero, suc, ◌+◌, ◌<◌, Bool, true, false, not, if◌then◌else◌, ◌==◌, List, [], ◌∷◌, ◌++◌, length, drop}
use Rattle.std.proofs.Common.{drop-cons, Some, refl, sym, ap, ◌∙◌, arith, append_assoc}
use Rattle.std.specs.List.{slice_get}
use Rattle.std.proofs.Math.ListN.{get_or}
use Rattle.pq_auto.specs.Machine.{Machine, follow, has_even_length}
use Rattle.pq_auto.specs.Search.{run}
use Rattle.pq_auto.specs.Tables.{holds_at, other_parity, steps_from, steps, starts, begin, is_even_key, accepting_from}

-- the next state of one of the automata
step_at : (ts : List Machine) (i j : ℕ) (k : List ℕ) (l : ℕ) (t : Machine) → slice_get ts j ≡ Some t
    → get_or (steps_from i ts k l) j 0 ≡ get_or (get_or t.rows (get_or k (i + j) 0) []) l 0
step_at [] i j k l t at = absurd cc
step_at (s ∷ ts) i zero k l t at =
    let same : s ≡ t = cc in
    ap (λ u. get_or (get_or u.rows (get_or k i 0) []) l 0) same ∙ ap (λ n. get_or (get_or t.rows (get_or k n 0) []) l 0) (omega arith)
step_at (s ∷ ts) i (suc j) k l t at = step_at ts (suc i) j k l t at ∙ ap (λ n. get_or (get_or t.rows (get_or k n 0) []) l 0) (omega arith)

-- where a word leads one of the automata
pub run_at : (tables : List Machine) (j : ℕ) (t : Machine) → slice_get tables j ≡ Some t → (w k : List ℕ)
    → get_or (run (steps tables) k w) (suc j) 0 ≡ follow t.rows (get_or k (suc j) 0) w
run_at tables j t at [] k = refl
run_at tables j t at (l ∷ w) k =
    run_at tables j t at w (steps tables k l)
    ∙ ap (λ s. follow t.rows s w) (step_at tables 1 j k l t at ∙ ap (λ n. get_or (get_or t.rows (get_or k n 0) []) l 0) (omega arith))

-- a condition is the choice that it makes
pub chosen_itself : (b : Bool) → b ≡ (if b then true else false)
chosen_itself true = refl
chosen_itself false = refl

-- a choice by the opposite of a condition
pub choice_turned : (b c : Bool) → (if not b then c else not c) ≡ (if b then not c else not (not c))
choice_turned true c = refl
choice_turned false true = refl
choice_turned false false = refl

-- the parity after a letter
turned : (n : ℕ) → (other_parity n == 0) ≡ not (n == 0)
turned n = by (n == 0)
  where
    by : (b : Bool) → ((if b then 1 else 0) == 0) ≡ not b
    by true = refl
    by false = refl

-- the parity after a word
parity_after : (tables : List Machine) (w k : List ℕ)
    → is_even_key (run (steps tables) k w) ≡ (if is_even_key k then has_even_length w else not (has_even_length w))
parity_after tables [] k = chosen_itself (is_even_key k)
parity_after tables (l ∷ w) k =
    parity_after tables w (steps tables k l)
    ∙ ap (λ b. if b then has_even_length w else not (has_even_length w)) (turned (get_or k 0 0))
    ∙ choice_turned (is_even_key k) (has_even_length w)

-- the parity of a word
pub parity_of : (tables : List Machine) (w : List ℕ) → is_even_key (run (steps tables) (begin tables) w) ≡ has_even_length w
parity_of tables w = parity_after tables w (begin tables)

-- before any letter each automaton is in its state 0
starts_at : (ts : List Machine) (j : ℕ) → get_or (starts ts) j 0 ≡ 0
starts_at [] j = refl
starts_at (t ∷ ts) zero = refl
starts_at (t ∷ ts) (suc j) = starts_at ts j

-- where a word leads one of the automata from the beginning
pub led : (tables : List Machine) (j : ℕ) (t : Machine) → slice_get tables j ≡ Some t → (w : List ℕ)
    → get_or (run (steps tables) (begin tables) w) (suc j) 0 ≡ follow t.rows 0 w
led tables j t at w = run_at tables j t at w (begin tables) ∙ ap (λ s. follow t.rows s w) (starts_at tables j)

-- the places with one automaton more
pub accepting_more : (tables : List Machine) (i : ℕ) (k : List ℕ) (t : Machine) (old new : List ℕ) (holds : Bool) → i < length tables
    → t ≡ get_or tables i t → holds ≡ holds_at t (get_or k (i + 1) 0) → new ≡ (if holds then old ++ i ∷ [] else old)
    → new ++ accepting_from (i + 1) (drop (i + 1) tables) k ≡ old ++ accepting_from i (drop i tables) k
accepting_more tables i k t old new holds h is told grown =
    let place : i + 1 ≡ suc i = omega arith in
    let next : drop i tables ≡ t ∷ drop (i + 1) tables = drop-cons tables i t h ∙ ap (λ u. u ∷ drop (suc i) tables) (sym is)
    ∙ ap (λ n. t ∷ drop n tables) (sym place) in
    ap (λ ns. ns ++ accepting_from (i + 1) (drop (i + 1) tables) k) grown
    ∙ by holds
    ∙ ap (λ b. old ++ (if b then i ∷ accepting_from (i + 1) (drop (i + 1) tables) k else accepting_from (i + 1) (drop (i + 1) tables) k)) told
    ∙ ap (λ n. old ++ (if holds_at t (get_or k n 0) then i ∷ accepting_from n (drop (i + 1) tables) k else accepting_from n (drop (i + 1) tables) k)) place
    ∙ ap (λ ts. old ++ accepting_from i ts k) (sym next)
  where
    by : (b : Bool) → (if b then old ++ i ∷ [] else old) ++ accepting_from (i + 1) (drop (i + 1) tables) k ≡ old
        ++ (if b then i ∷ accepting_from (i + 1) (drop (i + 1) tables) k else accepting_from (i + 1) (drop (i + 1) tables) k)
    by true = append_assoc old (i ∷ []) (accepting_from (i + 1) (drop (i + 1) tables) k)
    by false = refl
