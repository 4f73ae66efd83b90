use Rattle.std.proofs.Common.{◌≤◌, [], ◌∷◌, arith, rules, codes}
use Rattle.std.specs.List.{IsDistinct}
use Rattle.std.proofs.lemmas.List.Elements.{All-nil, All-cons}
use Rattle.pq_model.specs.MatchFields.{IsPortNumber}
use Rattle.pq_model.specs.Topology.{Switch, Topology}
use Rattle.pq_model.specs.Install.{IsLawfulSwitch, IsLawfulLink}
use Rattle.pq_topo.specs.Named.{IsNamedTopology}
use Rattle.call_tests.proofs.policies.topology.Goals as goal

abbrev only : Switch
only = record { name = codes "s1"; datapath = 1; ports = 1 ∷ 2 ∷ 3 ∷ []; limit = 2000 }

abbrev alone : Topology
alone = record { switches = only ∷ []; links = [] }

only_is_lawful : IsLawfulSwitch only
only_is_lawful = (
  omega arith,
  (λ none. cc),
  (omega arith, (omega arith, tt)),
  All-cons IsPortNumber 1 (2 ∷ 3 ∷ []) (search rules)
      (All-cons IsPortNumber 2 (3 ∷ []) (search rules) (All-cons IsPortNumber 3 [] (search rules) (All-nil IsPortNumber))),
)

alone_is_lawful : IsNamedTopology alone
unfolding IsDistinct
alone_is_lawful = record {
  lawful = record {
    few_switches = omega arith;
    few_ports = omega arith;
    switches = All-cons IsLawfulSwitch only [] only_is_lawful (All-nil IsLawfulSwitch);
    ascending = tt;
    links = All-nil (IsLawfulLink alone);
    linked_once = tt;
    links_ascend = tt;
  };
  names_differ = (tt, tt);
  limits = All-cons (λ (s : Switch). s.limit ≤ 16384) only [] (omega arith) (All-nil (λ (s : Switch). s.limit ≤ 16384));
}

pub made-requires : goal.made-requires
made-requires c = rw (c.in_ok-switches.ensures.items, c.name.ensures, c.in_ok-ports.ensures.items, c.new.ensures.items) alone_is_lawful
