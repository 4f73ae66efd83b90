-- Which switch may follow others.
use Rattle.std.specs.Prelude.{◌≡◌, ◌+◌, ◌<◌, ◌≤◌, ◌↔◌, List, [], ◌∷◌, ◌++◌, length}
use Rattle.std.proofs.Common.{arith}
use Rattle.std.proofs.lemmas.List.Sums.{sum_by-append}
use Rattle.pq_model.specs.Topology.{Switch}
use Rattle.pq_model.specs.Install.{port_count}
use Rattle.pq_install.specs.Following.{AtLast}
use Rattle.pq_install.specs.Switches.{IsReadSwitch, AreReadSwitches}
use Rattle.pq_install.proofs.Chains.{chain_more, ascending_chain}
use Rattle.pq_install.proofs.UnitLists.{all_more}

-- a switch above the last, whose ports are not too many with those of the others
pub follows : (before : List Switch) (s : Switch) → AreReadSwitches before → IsReadSwitch s
    → AtLast (λ t. t.datapath < s.datapath) before × (port_count before + length s.ports ≤ 4096) ↔ AreReadSwitches (before ++ s ∷ [])
follows before s are fit =
    let above = λ (t u : Switch). t.datapath < u.datapath in
    let chain = chain_more above before s in
    let up = ascending_chain (λ (t : Switch). t.datapath) in
    let each = all_more IsReadSwitch before s in
    let sum : port_count (before ++ s ∷ []) ≡ port_count before + length s.ports =
    grind (arith, sum_by-append (λ (t : Switch). length t.ports) before (s ∷ [])) in (
      λ may. record {
        each = each.1 (are.each, fit);
        ascending = (up (before ++ s ∷ [])).1 (chain.1 ((up before).0 are.ascending, may.0));
        few_ports = omega (arith, sum, may.1);
      },
      λ all. ((chain.0 ((up (before ++ s ∷ [])).0 all.ascending)).1, omega (arith, sum, all.few_ports)),
    )

-- each of switches that may be together may be alone
pub last_is_read : (before : List Switch) (s : Switch) → AreReadSwitches (before ++ s ∷ []) → IsReadSwitch s
last_is_read before s are = ((all_more IsReadSwitch before s).0 are.each).1
