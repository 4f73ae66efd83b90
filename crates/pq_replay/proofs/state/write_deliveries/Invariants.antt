use Rattle.std.proofs.Common.{◌≡◌, ◌++◌, take}
use Rattle.std.specs.List.{flat_map}
use Rattle.pq_schedule.specs.States.{delivered_line}
use Rattle.pq_replay.proofs.state.write_deliveries.Given as goal

abbrev pub invariant-loop-x : goal.invariant-loop-x
invariant-loop-x l = l.into.items ≡ l.initial.into.items ++ flat_map delivered_line (take l.x-index l.delivered)
