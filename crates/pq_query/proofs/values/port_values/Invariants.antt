use Rattle.std.proofs.Common.{◌≡◌, ◌++◌, drop}
use Rattle.std.specs.List.{flat_map}
use Rattle.pq_query.proofs.values.port_values.Given as goal

-- what is there and the switches that are left make the whole
abbrev pub invariant-loop-switch : goal.invariant-loop-switch
invariant-loop-switch l = l.numbers.items ++ flat_map (λ s. s.ports) (drop l.switch-index l.switches) ≡ flat_map (λ s. s.ports) l.switches
