-- The topology without switches keeps the rules.
use Rattle.std.proofs.Common.{◌≤◌, [], arith}
use Rattle.std.specs.List.{IsDistinct}
use Rattle.std.proofs.lemmas.List.Elements.{All-nil}
use Rattle.pq_model.specs.Topology.{Switch, Topology}
use Rattle.pq_model.specs.Install.{IsLawfulSwitch, IsLawfulLink}
use Rattle.pq_topo.specs.Named.{IsNamedTopology}

abbrev pub nothing : Topology
nothing = record { switches = []; links = [] }

pub nowhere_is_named : IsNamedTopology nothing
unfolding IsDistinct
nowhere_is_named = record {
  lawful = record {
    few_switches = omega arith;
    few_ports = omega arith;
    switches = All-nil IsLawfulSwitch;
    ascending = tt;
    links = All-nil (IsLawfulLink nothing);
    linked_once = tt;
    links_ascend = tt;
  };
  names_differ = tt;
  limits = All-nil (λ (s : Switch). s.limit ≤ 16384);
}
