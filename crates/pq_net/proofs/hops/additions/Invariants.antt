use Rattle.std.proofs.Common.{◌≡◌, ◌++◌, drop}
use Rattle.std.specs.List.{flat_map}
use Rattle.pq_net.specs.Hops.{carries, delivers, collects}
use Rattle.pq_net.proofs.hops.additions.Given as goal

-- what the copies so far add, with what those left add, is what all add
abbrev pub invariant-loop-copy : goal.invariant-loop-copy
invariant-loop-copy l = record {
  flight : l.flight.items ++ flat_map (carries l.wiring) (drop l.copy-index l.sent) ≡ flat_map (carries l.wiring) l.sent;
  delivered : l.delivered.items ++ flat_map (delivers l.wiring) (drop l.copy-index l.sent) ≡ flat_map (delivers l.wiring) l.sent;
  buckets : l.buckets.items ++ flat_map (collects l.report) (drop l.copy-index l.sent) ≡ flat_map (collects l.report) l.sent;
}
