-- What a binary search among ascending numbers tells.
use Rattle.std.specs.Prelude.{◌≡◌, ◌≢◌, ℕ, ◌<◌, ◌≤◌, ◌==◌, false, List, length, get_or, All}
use Rattle.std.proofs.Common.{arith, Result, Ok, Err, sym}
use Rattle.std.specs.Result.{MatchResult, is_ok}
use Rattle.std.specs.List.{list_any}
use Rattle.std.specs.List.Sorted.{IsBinarySearchResult}
use Rattle.std.specs.Ordering.{nat_cmp}
use Rattle.std.proofs.lemmas.Bool.Decides.{nat_tests}
use Rattle.std.proofs.lemmas.List.{get_or_default}
use Rattle.std.proofs.lemmas.List.Folds.{list_any_at, list_any_none}
use Rattle.std.proofs.lemmas.List.Sorted.{searched}
use Rattle.pq_model.specs.Lawful.{Ascends}
use Rattle.pq_model.specs.MatchFields.{IsPortNumber}
use Rattle.pq_topo.proofs.Ascending.{rises}

-- at a number, or in the gap where it would be
abbrev IsPlace : List ℕ → ℕ → Result ℕ ℕ → Type 0
IsPlace xs x r = MatchResult r (λ i. (i < length xs) × (get_or xs i 0 ≡ x)) (λ i. (i ≤ length xs) × ((k : ℕ) → k < i → get_or xs k 0 < x)
    × ((k : ℕ) → i ≤ k → k < length xs → x < get_or xs k 0))

place_tells : (xs : List ℕ) (x : ℕ) (r : Result ℕ ℕ) → IsPlace xs x r → is_ok r ≡ list_any (λ y. y == x) xs
place_tells xs x (Ok i) place = sym (list_any_at (λ y. y == x) xs i 0 place.0 (grind (arith, nat_tests, place.1)))
place_tells xs x (Err i) place = sym (list_any_none (λ y. y == x) xs (λ k d below.
    let read : get_or xs k d ≡ get_or xs k 0 = get_or_default xs k d 0 below in
    let differs : get_or xs k d ≢ x = λ same. grind (arith, read, place.1 k, place.2 k, below, same) in
    grind (arith, nat_tests, differs)))

-- the search finds a number exactly where it is among them
pub search_tells : (xs : List ℕ) (x : ℕ) (r : Result ℕ ℕ) → Ascends xs → IsBinarySearchResult (λ y. nat_cmp y x) xs r → is_ok r ≡ list_any (λ y. y == x) xs
search_tells xs x r up position = place_tells xs x r (searched xs x r position (rises xs 0 up))

-- no port has a number beyond those that ports have
pub none_beyond : (ports : List ℕ) (n : ℕ) → All IsPortNumber ports → 0xffffff00 < n → list_any (λ p. p == n) ports ≡ false
none_beyond ports n numbers beyond = list_any_none (λ p. p == n) ports (λ k d below.
    let number = numbers k d below in
    let differs : get_or ports k d ≢ n = λ same. omega (arith, number.1, beyond, same) in
    grind (arith, nat_tests, differs))
