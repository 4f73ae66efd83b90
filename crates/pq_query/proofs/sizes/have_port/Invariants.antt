use Rattle.std.proofs.Common.{◌≡◌, ◌==◌, drop}
use Rattle.std.specs.List.{flat_map, list_any}
use Rattle.pq_query.proofs.sizes.have_port.Given as goal

-- the switches that are left tell the answer
abbrev pub invariant-loop-switch : goal.invariant-loop-switch
invariant-loop-switch l = list_any (λ p. p == l.port) (flat_map (λ s. s.ports) (drop l.switch-index l.switches))
    ≡ list_any (λ p. p == l.port) (flat_map (λ s. s.ports) l.switches)
