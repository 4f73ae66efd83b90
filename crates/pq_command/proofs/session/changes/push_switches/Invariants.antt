use Rattle.std.proofs.Common.{◌≡◌, ◌++◌, map, take}
use Rattle.std.specs.List.{flat_map}
use Rattle.pq_command.specs.Frames.{change_bytes}
use Rattle.pq_command.proofs.session.changes.push_switches.Given as goal

-- what changes is appended for the switches so far
abbrev pub invariant-loop-change : goal.invariant-loop-change
invariant-loop-change l = l.into.items ≡ l.initial.into.items ++ flat_map change_bytes (map (λ p. (p.0, p.1.items)) (take l.change-index l.changed))
