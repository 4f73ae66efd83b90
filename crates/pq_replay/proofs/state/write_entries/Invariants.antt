use Rattle.std.proofs.Common.{◌≡◌, ◌++◌, take}
use Rattle.std.specs.List.{flat_map}
use Rattle.pq_schedule.specs.States.{bucket_line}
use Rattle.pq_replay.proofs.state.write_entries.Given as goal

abbrev pub invariant-loop-entry : goal.invariant-loop-entry
invariant-loop-entry l = l.into.items ≡ l.initial.into.items ++ flat_map (bucket_line l.names) (take l.entry-index l.buckets)
