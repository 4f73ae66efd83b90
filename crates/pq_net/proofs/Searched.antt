-- Binary searches by numbers that ascend.
use Rattle.std.specs.Prelude.{◌≡◌, ℕ, ◌<◌, ◌≤◌, List, ◌∷◌, length, get_or, map, MatchOption}
use Rattle.std.proofs.Common.{arith, Result, Ok, Err, sym}
use Rattle.std.specs.Result.{result_ok}
use Rattle.std.specs.List.Sorted.{IsSearchInRange, IsBinarySearchResult, IsNonDecreasingBy}
use Rattle.std.specs.Ordering.{nat_cmp, ordering_index}
use Rattle.std.proofs.lemmas.Cmp.{ranked}
use Rattle.std.proofs.lemmas.Bool.Decides.{nat_tests}
use Rattle.std.proofs.Math.ListN.{get_or-map}
use Rattle.std.proofs.lemmas.List.{length-map}
use Rattle.pq_model.specs.Lawful.{Ascends}
use Rattle.pq_topo.proofs.Ascending.{first_below, rises}
use Rattle.pq_net.specs.Searches.{IsAt, IsNowhere}

-- the first number is below each that follows
pub rises_above : {A : Type 0} (number : A → ℕ) (x : A) (xs : List A) (i : ℕ) (d : A) → Ascends (map number (x ∷ xs)) → i < length xs
    → number x < number (get_or xs i d)
rises_above number x xs i d up below =
    let at_i : get_or (map number xs) i (number d) ≡ number (get_or xs i d) = get_or-map number xs i d in
    let above : number x < get_or (map number xs) i (number d) = first_below (number x) (map number xs) i (number d) up (rw (length-map xs number) below) in
    omega (arith, above, at_i)

module _ {A : Type 0} (number : A → ℕ) (xs : List A) (up : Ascends (map number xs)) (n : ℕ) where
  -- the comparisons with a number rise along the list, as a binary search asks
  comparisons_rise : IsNonDecreasingBy (λ x. ordering_index (nat_cmp (number x) n)) xs
  comparisons_rise i j x le below =
      let at_i : get_or (map number xs) i (number x) ≡ number (get_or xs i x) = get_or-map number xs i x in
      let at_j : get_or (map number xs) j (number x) ≡ number (get_or xs j x) = get_or-map number xs j x in
      let below_here : j < length (map number xs) = rw (length-map xs number) below in
      let rise : number (get_or xs i x) ≤ number (get_or xs j x) = rw (← at_i, ← at_j) (rises (map number xs) (number x) up i j le below_here) in
      grind (arith, nat_tests, rise)

  -- a binary search by number finds the value, or there is none
  pub searched : (r : Result ℕ ℕ) → IsSearchInRange r (length xs) → IsBinarySearchResult (λ x. nat_cmp (number x) n) xs r
      → MatchOption (result_ok r) (IsNowhere number xs n) (λ i. IsAt number xs n i)
  searched (Ok at) in_range equal = (in_range, λ x. ranked _ n _ (sym (equal x)))
  searched (Err at) in_range parted = λ k x below same.
      let before : k < at → number (get_or xs k x) < n = λ lt. ranked _ n _ (sym ((parted comparisons_rise).0 k x (omega arith) lt)) in
      let after : at ≤ k → n < number (get_or xs k x) = λ le. ranked _ n _ (sym ((parted comparisons_rise).1 k x le below)) in
      grind (arith, before, after, same)
