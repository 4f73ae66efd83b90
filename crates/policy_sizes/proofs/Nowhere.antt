-- The topology without switches keeps the rules, and there policies of examples have diagrams.
use Rattle.std.proofs.Common.{◌≤◌, arith}
use Rattle.std.specs.Prelude.{All}
use Rattle.std.specs.List.{IsDistinct}
use Rattle.std.proofs.lemmas.List.Elements.{All-nil}
use Rattle.pq_fields.specs.declared.field.Field.TheVariants.{Switch as SwitchField, Port}
use Rattle.pq_model.specs.Topology.{Switch}
use Rattle.pq_model.specs.Install.{IsLawfulSwitch, IsLawfulLink}
use Rattle.pq_topo.specs.Named.{IsNamedTopology}
use Rattle.pq_policy.specs.Policy.{PolicyTree}
use Rattle.pq_store.specs.Room.{IsAmong}
use Rattle.pq_store.proofs.RoomLemmas.{room_for}
use Rattle.pq_forward.specs.Examples.{IsExamplePolicy}
use Rattle.pq_forward.specs.Forward.{FitAsForward}
use Rattle.pq_forward.proofs.Examples.{example_fits}
use Rattle.policy_sizes.specs.Sizes.{nowhere}

-- it keeps the rules
pub nowhere_is_named : IsNamedTopology nowhere
unfolding IsDistinct
nowhere_is_named = record {
  lawful = record {
    few_switches = omega arith;
    few_ports = omega arith;
    switches = All-nil IsLawfulSwitch;
    ascending = tt;
    links = All-nil (IsLawfulLink nowhere);
    linked_once = tt;
    links_ascend = tt;
  };
  names_differ = tt;
  limits = All-nil (λ (s : Switch). s.limit ≤ 16384);
}

-- it states no numbers
pub fits_nowhere : (p : PolicyTree) → IsExamplePolicy p → FitAsForward nowhere p
fits_nowhere p example =
    room_for (λ ns (topology, within).
    (All-nil (λ (s : Switch). IsAmong s.datapath (ns SwitchField) × All (λ q. IsAmong q (ns Port)) s.ports), within))
    (example_fits p example)
