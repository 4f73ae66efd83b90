use Rattle.std.proofs.Common.{◌≡◌, ◌+◌, ◌≤◌, All, length}
use Rattle.std.specs.List.{flat_map}
use Rattle.pq_model.specs.Install.{IsLawfulSwitch}
use Rattle.pq_query.specs.Counts.{capped}
use Rattle.pq_query.specs.Labels.{ascending}
use Rattle.pq_query.proofs.sizes.count_ports.Given as goal

-- the switches that are left make the whole of the count
abbrev pub invariant-loop-rest : goal.invariant-loop-rest
invariant-loop-rest l = record {
  lawful : All IsLawfulSwitch l.rest;
  fits : l.count ≤ 4294967295;
  count : capped (l.count + length (ascending (flat_map (λ s. s.ports) l.rest))) ≡ capped (length (ascending (flat_map (λ s. s.ports) l.switches)));
}

abbrev pub decreases-loop-rest : goal.decreases-loop-rest
decreases-loop-rest l = length l.rest
