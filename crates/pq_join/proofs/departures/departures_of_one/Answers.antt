use Rattle.pq_join.proofs.Departed.{knows_more}
use Rattle.pq_join.proofs.departures.departures_of_one.Goals as goal

pub returns-clause-made : goal.returns-clause-made
returns-clause-made c =
    knows_more c.args.writes.now c.args.seen.now c.departing.new.seen c.args.root c.args.into.now c.departing.new.into c.in_ok-id.id
    c.args.made.now c.remember.new.done
    c.departing.ensures.seen c.departing.ensures.keeps c.requires.made c.in_ok-id.ensures.departs c.in_ok-remember.ensures
