use Rattle.pq_fields.specs.declared.field.Field.TheVariants.{Port}
use Rattle.pq_apply.proofs.Kept.{within_still}
use Rattle.pq_join.proofs.Departed.{from_within, starts_still}
use Rattle.pq_join.proofs.Dropping.{drops_fit, drops_made}
use Rattle.pq_join.proofs.trees.departures_or_drops.Goals as goal

pub at_number-dropped-requires-clause-node : goal.at_number-dropped-requires-clause-node
at_number-dropped-requires-clause-node c = within_still c.args.seen.now c.departures.new.seen c.args.root c.departures.ensures.seen c.requires.root

pub at_number-dropped-requires-clause-first : goal.at_number-dropped-requires-clause-first
at_number-dropped-requires-clause-first c =
    starts_still Port c.args.seen.now c.departures.new.seen c.args.root c.departures.ensures.seen c.requires.root c.requires.first

pub with_drops-requires-clause-node : goal.with_drops-requires-clause-node
with_drops-requires-clause-node c =
    from_within c.args.forward.now c.args.node c.departures.new.seen c.args.root c.departures.new.into c.in_ok-id.id c.requires.node
    c.in_ok-id.ensures.departs

pub with_drops-requires-clause-fit : goal.with_drops-requires-clause-fit
with_drops-requires-clause-fit c =
    drops_fit c.args.forward.now c.args.node c.args.seen.now c.departures.new.seen c.args.root c.departures.new.into c.in_ok-id.id
    c.at_number-dropped.result c.departures.ensures.seen
    c.requires.root c.requires.node c.in_ok-id.ensures.departs c.at_number-dropped.ensures.restricts c.requires.fit

pub returns : goal.returns
returns c =
    drops_made c.args.forward.now c.args.node c.args.seen.now c.departures.new.seen c.args.root c.departures.new.into c.in_ok-id.id
    c.at_number-dropped.result c.departures.ensures.seen
    c.requires.root c.requires.node c.in_ok-id.ensures.departs c.at_number-dropped.ensures.restricts c.in_ok-whole.whole c.in_ok-whole.place
    c.in_ok-whole.ensures
