use Rattle.std.proofs.Common.{◌≡◌, drop}
use Rattle.pq_net.specs.Network.{after_all, opened}
use Rattle.pq_replay.proofs.state.network_after.Given as goal

abbrev pub invariant-loop-event : goal.invariant-loop-event
invariant-loop-event l = after_all l.net (drop l.event-index l.events) ≡ after_all (opened l.fn.install) l.events
