use Rattle.pq_schedule.specs.States.{flight_line}
use Rattle.pq_replay.proofs.Lines.{one_more_line}
use Rattle.pq_replay.proofs.state.write_flights.Goals as goal

pub loop-x-preserved : goal.loop-x-preserved
loop-x-preserved c =
    one_more_line flight_line c.args.flight.now c.loop-x.x-index c.x-item.result c.args.into.now.items c.loop-x.into.items c.write_flight.new.into.items
    c.loop-x-test.true c.x-item.is c.loop-x.invariant c.in_ok-write_flight.ensures.ok
