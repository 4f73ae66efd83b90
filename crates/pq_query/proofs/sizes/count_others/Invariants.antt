use Rattle.std.proofs.Common.{◌≡◌, drop}
use Rattle.std.specs.List.{flat_map}
use Rattle.pq_query.specs.Counts.{count_others}
use Rattle.pq_query.proofs.sizes.count_others.Given as goal

-- the ports that are left make the whole of the count
abbrev pub invariant-loop-port : goal.invariant-loop-port
invariant-loop-port l = count_others (drop l.port-index l.ports) (flat_map (λ s. s.ports) l.switches) l.total
    ≡ count_others l.ports (flat_map (λ s. s.ports) l.switches) l.count
