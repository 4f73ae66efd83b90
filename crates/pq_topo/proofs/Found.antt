-- What a search for a switch finds, and what is known of the switch.
use Rattle.std.specs.Prelude.{◌≡◌, ◌≢◌, ℕ, ◌<◌, ◌≤◌, List, [], ◌∷◌, All, length, get_or, map, MatchOption, suc, zero, refl}
use Rattle.std.proofs.Common.{arith, Result, Ok, Err, sym}
use Rattle.std.specs.Result.{result_ok}
use Rattle.std.specs.List.Sorted.{IsSearchInRange, IsBinarySearchResult, IsNonDecreasingBy}
use Rattle.std.specs.Ordering.{nat_cmp, ordering_index}
use Rattle.std.proofs.lemmas.Cmp.{ranked}
use Rattle.std.proofs.lemmas.Bool.Decides.{nat_tests}
use Rattle.std.proofs.Math.ListN.{get_or-map}
use Rattle.std.proofs.lemmas.List.{length-map}
use Rattle.std.proofs.lemmas.List.Elements.{All-tail}
use Rattle.pq_model.specs.Lawful.{Ascends}
use Rattle.pq_model.specs.Topology.{Switch, ports_in, limit_in}
use Rattle.pq_topo.specs.Named.{IsSwitchAt, IsNoSwitch}
use Rattle.pq_topo.proofs.Ascending.{rest_ascends, first_below, rises}

-- the datapath numbers of switches
abbrev numbers_of : List Switch → List ℕ
numbers_of ss = map (λ s. s.datapath) ss

module _ (ss : List Switch) (up : Ascends (numbers_of ss)) (d : ℕ) where
  -- the comparisons with a number rise along the list, as a binary search asks
  comparisons_rise : IsNonDecreasingBy (λ s. ordering_index (nat_cmp s.datapath d)) ss
  comparisons_rise i j s le below =
      let at_i : get_or (numbers_of ss) i s.datapath ≡ (get_or ss i s).datapath = get_or-map (λ s. s.datapath) ss i s in
      let at_j : get_or (numbers_of ss) j s.datapath ≡ (get_or ss j s).datapath = get_or-map (λ s. s.datapath) ss j s in
      let below_here : j < length (numbers_of ss) = rw (length-map ss (λ s. s.datapath)) below in
      let rise : (get_or ss i s).datapath ≤ (get_or ss j s).datapath = rw (← at_i, ← at_j) (rises (numbers_of ss) s.datapath up i j le below_here) in
      grind (arith, nat_tests, rise)

  -- a binary search by datapath number finds the switch, or there is none
  pub searched : (r : Result ℕ ℕ) → IsSearchInRange r (length ss) → IsBinarySearchResult (λ s. nat_cmp s.datapath d) ss r
      → MatchOption (result_ok r) (IsNoSwitch ss d) (λ i. IsSwitchAt ss d i)
  searched (Ok at) in_range equal = (in_range, λ s. ranked _ d _ (sym (equal s)))
  searched (Err at) in_range parted = λ k s below same.
      let before : k < at → (get_or ss k s).datapath < d = λ lt. ranked _ d _ (sym ((parted comparisons_rise).0 k s (omega arith) lt)) in
      let after : at ≤ k → d < (get_or ss k s).datapath = λ le. ranked _ d _ (sym ((parted comparisons_rise).1 k s le below)) in
      grind (arith, before, after, same)

-- what is asked of a switch by its datapath number is told by the switch that was found
pub found : (ss : List Switch) (d i : ℕ) (s : Switch) → Ascends (numbers_of ss) → i < length ss → (get_or ss i s).datapath ≡ d → record {
  ports : ports_in ss d ≡ (get_or ss i s).ports;
  limit : limit_in ss d ≡ (get_or ss i s).limit;
}
found [] d i s up below same = record { ports = grind (arith, below); limit = grind (arith, below) }
found (x ∷ ss) d zero s up below same = record { ports = grind (arith, nat_tests, same); limit = grind (arith, nat_tests, same) }
found (x ∷ ss) d (suc i) s up below same =
    let later = found ss d i s (rest_ascends x.datapath (numbers_of ss) up) (omega (arith, below)) same in
    let at_i : get_or (numbers_of ss) i s.datapath ≡ (get_or ss i s).datapath = get_or-map (λ s. s.datapath) ss i s in
    let above : x.datapath < get_or (numbers_of ss) i s.datapath =
    first_below x.datapath (numbers_of ss) i s.datapath up (rw (length-map ss (λ s. s.datapath)) (omega (arith, below))) in
    let differs : x.datapath < d = omega (arith, above, at_i, same) in
    record { ports = grind (arith, nat_tests, later.ports, differs); limit = grind (arith, nat_tests, later.limit, differs) }

-- nothing is known of a switch that there is not
pub absent : (ss : List Switch) (d : ℕ) → All (λ s. s.datapath ≢ d) ss → record { ports : ports_in ss d ≡ []; limit : limit_in ss d ≡ 0 }
absent [] d none = record { ports = refl; limit = refl }
absent (x ∷ ss) d none =
    let rest = absent ss d (All-tail (λ s. s.datapath ≢ d) x ss none) in
    let differs : x.datapath ≢ d = none 0 x (omega arith) in
    record { ports = grind (arith, nat_tests, rest.ports, differs); limit = grind (arith, nat_tests, rest.limit, differs) }
