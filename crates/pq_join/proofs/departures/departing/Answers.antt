use Rattle.pq_join.proofs.Departed.{written_departs, written_fits, written_within}
use Rattle.pq_join.proofs.departures.departing.Goals as goal

pub mapped-requires-clause-fits : goal.mapped-requires-clause-fits
mapped-requires-clause-fits c =
    written_fits c.args.writes.now c.args.seen.now c.overwritten.new.store c.args.root c.in_ok-written.written c.requires.root
    c.requires.fit c.in_ok-written.ensures.overwrites

pub mapped-requires-clause-node : goal.mapped-requires-clause-node
mapped-requires-clause-node c =
    written_within c.args.writes.now c.args.seen.now c.overwritten.new.store c.args.root c.in_ok-written.written c.requires.root
    c.in_ok-written.ensures.overwrites

pub returns-clause-departs : goal.returns-clause-departs
returns-clause-departs c =
    written_departs c.args.writes.now c.args.seen.now c.overwritten.new.store c.args.root c.in_ok-written.written c.mapped.new.into c.in_ok-id.id _
    (λ s b ds h. let first = h.2 in let answer = h.4 in cc) c.requires.root c.overwritten.ensures.keeps c.in_ok-written.ensures.overwrites
    c.in_ok-id.ensures.maps
