use Rattle.std.proofs.Common.{◌≡◌}
use Rattle.policy_sizes.specs.Broadcasts.{first_ports}
use Rattle.policy_sizes.proofs.broadcasts.first_ports.Given as goal

-- the ports so far are the first
abbrev pub invariant-loop-place : goal.invariant-loop-place
invariant-loop-place l = l.ports.items ≡ first_ports l.place
