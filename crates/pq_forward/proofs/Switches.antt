-- The switches of a topology: their numbers, and those of their ports.
use Rattle.std.proofs.Common.{ℕ, zero, suc, ◌+◌, ◌≤◌, ◌≡◌, ◌∙◌, List, [], ◌∷◌, ◌++◌, length, map, inl, inr, refl, sym, ap, subst, arith}
use Rattle.std.specs.Prelude.{◌⊎◌}
use Rattle.std.specs.List.{All, Contains}
use Rattle.std.proofs.lemmas.List.{length-append, map-append}
use Rattle.std.proofs.lemmas.List.Elements.{All-head, Contains-append_left, Contains-append_right}
use Rattle.std.proofs.lemmas.List.Sums.{sum_by-append, sum_by-cons}
use Rattle.pq_policy.proofs.Members.{none_in}
use Rattle.pq_lists.proofs.Holding.{all_back}
use Rattle.pq_model.specs.Install.{IsLawfulSwitch, port_count}
use Rattle.pq_model.specs.Lawful.{Ascends}
use Rattle.pq_model.specs.Topology.{Switch, Topology}
use Rattle.pq_topo.specs.Named.{IsNamedTopology}
use Rattle.pq_forward.proofs.Ports.{last_ascend}

-- the datapath numbers of switches
abbrev pub datapaths : List Switch → List ℕ
datapaths ss = map (λ s. s.datapath) ss

-- and the ports of all of them
abbrev pub ports : List Switch → List ℕ
ports [] = []
ports (s ∷ ss) = s.ports ++ ports ss

-- there are as many as they have together
pub ports_count : (ss : List Switch) → length (ports ss) ≡ port_count ss
ports_count [] = refl
ports_count (s ∷ ss) = length-append s.ports (ports ss) ∙ (ap (λ n. length s.ports + n) (ports_count ss) ∙ sym (sum_by-cons (λ r. length r.ports) s ss))

module _ {X : Type 0} where
  -- an element of a list is its first, or one of those after it
  contains_cases : (x y : X) (ys : List X) → Contains (y ∷ ys) x → (y ≡ x) ⊎ Contains ys x
  contains_cases x y ys (zero, within, at) = inl at
  contains_cases x y ys (suc k, within, at) = inr (k, omega (arith, within), at)

  -- the first is one
  pub contains_first : (x : X) (xs : List X) → Contains (x ∷ xs) x
  contains_first x xs = (zero, omega arith, refl)

  -- and so are those after it
  pub contains_later : (x y : X) (ys : List X) → Contains ys x → Contains (y ∷ ys) x
  contains_later x y ys (k, within, at) = (suc k, omega (arith, within), at)

-- the number of one of the switches is among theirs
pub datapath_among : (ss : List Switch) (s : Switch) → Contains ss s → Contains (datapaths ss) s.datapath
datapath_among [] s there = absurd (none_in s there)
datapath_among (r ∷ ss) s there = elim (contains_cases s r ss there) [
  | inl is ↦ subst (λ q. Contains (datapaths (r ∷ ss)) q.datapath) is (contains_first r.datapath (datapaths ss))
  | inr later ↦ contains_later s.datapath r.datapath (datapaths ss) (datapath_among ss s later)
]

-- and so is each of its ports
pub port_among : (ss : List Switch) (s : Switch) (p : ℕ) → Contains ss s → Contains s.ports p → Contains (ports ss) p
port_among [] s p there port = absurd (none_in s there)
port_among (r ∷ ss) s p there port = elim (contains_cases s r ss there) [
  | inl is ↦ Contains-append_left r.ports (ports ss) p (subst (λ q. Contains q.ports p) (sym is) port)
  | inr later ↦ Contains-append_right r.ports (ports ss) p (port_among ss s p later port)
]

-- what a switch and those after it keep
pub record AreLawful (s : Switch) (met : List Switch) : Type 0 where
  pub switch : IsLawfulSwitch s
  pub rise : Ascends (datapaths (s ∷ met))
  pub few : length (s ∷ met) ≤ 256
  pub few_ports : port_count (s ∷ met) ≤ 4096

-- those of a topology do
pub lawful_there : (T : Topology) (front : List Switch) (s : Switch) (met : List Switch) → IsNamedTopology T → T.switches ≡ front ++ s ∷ met → AreLawful s met
lawful_there T front s met named parts =
    let lawful = named.lawful in
    record {
      switch = All-head IsLawfulSwitch s met (all_back IsLawfulSwitch front (s ∷ met) (subst (All IsLawfulSwitch) parts lawful.switches));
      rise = last_ascend (datapaths front) (datapaths (s ∷ met))
          (subst Ascends (ap datapaths parts ∙ map-append (λ r. r.datapath) front (s ∷ met)) lawful.ascending);
      few = omega (arith, lawful.few_switches, ap length parts, length-append front (s ∷ met));
      few_ports = omega (arith, lawful.few_ports, ap port_count parts, sum_by-append (λ r. length r.ports) front (s ∷ met));
    }
