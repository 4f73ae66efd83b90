use Rattle.std.proofs.Common.{◌≡◌, drop}
use Rattle.pq_policy.specs.Grown.{on_each, with_other_port}
use Rattle.pq_policy.proofs.sets.put_at_others.Given as goal

abbrev pub invariant-loop-port : goal.invariant-loop-port
invariant-loop-port l = on_each (λ p. with_other_port p l.x) (drop l.port-index l.ports) l.into.keys
    ≡ on_each (λ p. with_other_port p l.x) l.ports l.initial.into.keys
