-- The ports of switches, counted with no list of them.
use Rattle.std.proofs.Common.{◌≡◌, ℕ, ◌+◌, ◌-◌, ◌≤◌, ◌==◌, Bool, true, false, ◌||◌, if◌then◌else◌, List, [], ◌∷◌, ◌++◌, length, get_or}
use Rattle.std.proofs.Common.{take, drop, take_all, All, refl, ap, ◌∙◌, arith}
use Rattle.std.specs.List.{flat_map}
use Rattle.std.proofs.lemmas.List.{length-map}
use Rattle.std.proofs.lemmas.List.Concat.{length-flat_map}
use Rattle.std.proofs.lemmas.List.Elements.{All-head, All-tail}
use Rattle.std.proofs.lemmas.List.Folds.{list_any-append}
use Rattle.pq_model.specs.Install.{IsLawfulSwitch, port_count}
use Rattle.pq_model.specs.Lawful.{Ascends}
use Rattle.pq_model.specs.Topology.{Switch, Topology}
use Rattle.pq_topo.specs.Named.{IsNamedTopology}
use Rattle.pq_topo.proofs.Ascending.{rest_ascends}
use Rattle.pq_query.specs.Counts.{capped, count_other, count_others}
use Rattle.pq_query.specs.Labels.{ascending, datapath_numbers, port_numbers}
use Rattle.pq_query.proofs.Ascending.{has, first_once, one_more, length_ascending, length_ascends, length_within}

-- a number is one of two lists where it is one of either
pub either_has : (ps qs : List ℕ) (n : ℕ) → has (ps ++ qs) n ≡ (has ps n || has qs n)
either_has ps qs n = list_any-append (λ k. k == n) ps qs

-- ascending ports count where none of the others has them
pub others_counted : (ps known : List ℕ) (n : ℕ) → Ascends ps
    → capped (count_others ps known n + length (ascending known)) ≡ capped (n + length (ascending (ps ++ known)))
others_counted [] known n up = refl
others_counted (p ∷ ps) known n up =
    let new : has (ps ++ known) p ≡ has known p = either_has ps known p ∙ ap (λ b. b || has known p) (first_once p ps up) in
    by (has known p) (length_ascending p (ps ++ known) ∙ ap (λ b. one_more b (length (ascending (ps ++ known)))) new)
    (λ m. others_counted ps known m (rest_ascends p ps up))
  where
    by : (b : Bool) → length (ascending (p ∷ (ps ++ known))) ≡ one_more b (length (ascending (ps ++ known)))
        → ((m : ℕ) → capped (count_others ps known m + length (ascending known)) ≡ capped (m + length (ascending (ps ++ known))))
        → capped (count_others ps known (if b then n else capped (n + 1)) + length (ascending known))
        ≡ capped (n + length (ascending (p ∷ (ps ++ known))))
    by true e later = later n ∙ ap (λ k. capped (n + k)) (omega (arith, e))
    by false e later = later (capped (n + 1)) ∙ omega (arith, e)

others_fit : (ps known : List ℕ) (n : ℕ) → n ≤ 4294967295 → count_others ps known n ≤ 4294967295
others_fit [] known n fits = fits
others_fit (p ∷ ps) known n fits = others_fit ps known (count_other p known n) (by (has known p))
  where
    by : (b : Bool) → (if b then n else capped (n + 1)) ≤ 4294967295
    by true = fits
    by false = omega arith

-- this many ports and those of the switches
abbrev with_ports : ℕ → List Switch → ℕ
with_ports n ss = capped (n + length (ascending (flat_map (λ s. s.ports) ss)))

-- the switches that are left lose the first
pub one_more_switch : (ss : List Switch) (s : Switch) (n m total : ℕ) → 1 ≤ length ss → s ≡ get_or ss 0 s → All IsLawfulSwitch ss
    → n ≤ 4294967295 → m ≡ count_others s.ports (flat_map (λ s. s.ports) (take (length ss - 1) (drop 1 ss))) n → with_ports n ss ≡ total
    → record {
      lawful : All IsLawfulSwitch (take (length ss - 1) (drop 1 ss));
      fits : m ≤ 4294967295;
      count : with_ports m (take (length ss - 1) (drop 1 ss)) ≡ total;
    }
one_more_switch [] s n m total some is lawful fits new so_far = absurd (omega (arith, some))
one_more_switch (x ∷ xs) s n m total some is lawful fits new so_far =
    let all : take (length (x ∷ xs) - 1) xs ≡ xs = take_all (length (x ∷ xs) - 1) xs (omega arith) in
    let known = flat_map (λ s. s.ports) xs in
    let counted : m ≡ count_others x.ports known n = new
    ∙ (ap (λ ys. count_others s.ports (flat_map (λ s. s.ports) ys) n) all ∙ ap (λ y. count_others y.ports known n) is) in
    let own : IsLawfulSwitch x = All-head IsLawfulSwitch x xs lawful in
    rw all (record {
      lawful = All-tail IsLawfulSwitch x xs lawful;
      fits = rw counted (others_fit x.ports known n fits);
      count = rw counted (others_counted x.ports known n own.2 ∙ so_far);
    })

-- a topology's switches and ports, counted
pub sizes_told : (T : Topology) (ss : List Switch) (n : ℕ) → IsNamedTopology T → ss ≡ T.switches
    → n ≡ capped (length (ascending (flat_map (λ s. s.ports) ss)))
    → (length ss ≡ length (ascending (datapath_numbers T))) × (n ≡ length (ascending (port_numbers T)))
sizes_told T ss n named is count =
    let numbers : length (ascending (datapath_numbers T)) ≡ length (datapath_numbers T) = length_ascends (datapath_numbers T) named.lawful.ascending in
    let as_many : length (datapath_numbers T) ≡ length T.switches = length-map T.switches (λ s. s.datapath) in
    let within : length (ascending (port_numbers T)) ≤ length (port_numbers T) = length_within (port_numbers T) in
    let sum : length (port_numbers T) ≡ port_count T.switches = length-flat_map (λ s. s.ports) T.switches in
    let counted : n ≡ capped (length (ascending (port_numbers T))) = count ∙ ap (λ ss. capped (length (ascending (flat_map (λ s. s.ports) ss)))) is in
    (ap length is ∙ omega (arith, numbers, as_many), omega (arith, within, sum, counted, named.lawful.few_ports))
