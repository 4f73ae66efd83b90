-- A lawful topology has few links.
use Rattle.std.specs.Prelude.{◌≡◌, ℕ, ◌*◌, ◌≤◌, Bool, true, false, ◌||◌, ◌==◌, List, [], ◌∷◌, All, length, map}
use Rattle.std.proofs.Common.{arith, refl, suc, zero}
use Rattle.std.specs.List.{list_any, flat_map}
use Rattle.std.proofs.lemmas.Bool.Decides.{nat_tests}
use Rattle.std.proofs.lemmas.List.{length-append, length-map}
use Rattle.std.proofs.lemmas.List.Elements.{All-tail}
use Rattle.std.proofs.lemmas.List.Folds.{list_any-append}
use Rattle.std.proofs.lemmas.List.Sums.{sum_by-cons}
use Rattle.pq_model.specs.Topology.{Switch, Link, Topology, ports_in}
use Rattle.pq_model.specs.Install.{IsLawfulLink, IsLawfulTopology, ends_of, port_count}
use Rattle.pq_install.specs.Links.{same_end}
use Rattle.pq_install.proofs.Pigeons.{is_among, at_most}

abbrev own_end : ℕ → ℕ → ℕ × ℕ
own_end d p = (d, p)

-- the ports of switches as ends
abbrev all_ports : List Switch → List (ℕ × ℕ)
all_ports ss = flat_map (λ s. map (own_end s.datapath) s.ports) ss

count_ports : (ss : List Switch) → length (all_ports ss) ≡ port_count ss
count_ports [] = refl
count_ports (s ∷ ss) =
    let own : length (map (own_end s.datapath) s.ports) ≡ length s.ports = length-map s.ports (own_end s.datapath) in
    let joined = length-append (map (own_end s.datapath) s.ports) (all_ports ss) in
    let rest = count_ports ss in
    omega (arith, own, joined, rest, sum_by-cons (λ (t : Switch). length t.ports) s ss)

own_port : (d p : ℕ) (ps : List ℕ) → list_any (λ q. q == p) ps ≡ true → is_among (map (own_end d) ps) (d, p) ≡ true
own_port d p [] there = absurd cc
own_port d p (q ∷ qs) there = by (own_port d p qs) (q == p) refl
  where
    by : (list_any (λ r. r == p) qs ≡ true → is_among (map (own_end d) qs) (d, p) ≡ true) → (b : Bool) → (q == p) ≡ b
        → is_among (map (own_end d) (q ∷ qs)) (d, p) ≡ true
    by later true same = grind (arith, nat_tests, same)
    by later false other =
        let behind : list_any (λ r. r == p) qs ≡ true = rw other at there in
        grind (arith, nat_tests, later behind)

port_is_among : (ss : List Switch) (d p : ℕ) → list_any (λ q. q == p) (ports_in ss d) ≡ true → is_among (all_ports ss) (d, p) ≡ true
port_is_among [] d p there = absurd cc
port_is_among (s ∷ ss) d p there = rw (list_any-append (λ e. same_end e (d, p)) (map (own_end s.datapath) s.ports) (all_ports ss))
    (by (port_is_among ss d p) (s.datapath == d) refl)
  where
    by : (list_any (λ q. q == p) (ports_in ss d) ≡ true → is_among (all_ports ss) (d, p) ≡ true) → (b : Bool) → (s.datapath == d) ≡ b
        → (is_among (map (own_end s.datapath) s.ports) (d, p) || is_among (all_ports ss) (d, p)) ≡ true
    by later true same =
        let number : s.datapath ≡ d = grind (arith, nat_tests, same) in
        let here : list_any (λ q. q == p) s.ports ≡ true = rw same at there in
        let own : is_among (map (own_end s.datapath) s.ports) (d, p) ≡ true = rw number (own_port d p s.ports here) in
        rw own refl
    by later false other =
        let behind : list_any (λ q. q == p) (ports_in ss d) ≡ true = rw other at there in
        grind (arith, later behind)

ends_among : (t : Topology) (ls : List Link) → All (IsLawfulLink t) ls → All (λ e. is_among (all_ports t.switches) e ≡ true) (ends_of ls)
ends_among t [] each k e below = absurd (omega (arith, below))
ends_among t (l ∷ ls) each zero e below = port_is_among t.switches l.first.0 l.first.1 (each 0 l (omega arith)).0
ends_among t (l ∷ ls) each (suc zero) e below = port_is_among t.switches l.second.0 l.second.1 (each 0 l (omega arith)).1
ends_among t (l ∷ ls) each (suc (suc k)) e below = ends_among t ls (All-tail (IsLawfulLink t) l ls each) k e (omega (arith, below))

two_ends : (ls : List Link) → length (ends_of ls) ≡ 2 * length ls
two_ends [] = refl
two_ends (l ∷ ls) = omega (arith, two_ends ls)

-- each link takes two of at most 4,096 ports
pub few_links : (t : Topology) → IsLawfulTopology t → length t.links ≤ 2048
few_links t lawful = omega (
  arith,
  at_most (ends_of t.links) (all_ports t.switches) lawful.linked_once (ends_among t t.links lawful.links),
  count_ports t.switches,
  two_ends t.links,
  lawful.few_ports,
)
