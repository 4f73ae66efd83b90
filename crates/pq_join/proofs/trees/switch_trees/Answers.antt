use Rattle.std.proofs.Common.{subst}
use Rattle.std.proofs.lemmas.Option.{slice_get_within}
use Rattle.std.specs.List.{All}
use Rattle.pq_model.specs.MatchFields.{IsPortNumber}
use Rattle.pq_join.proofs.Arrivals.{arriving_whole}
use Rattle.pq_join.proofs.Leavings.{leaving_whole}
use Rattle.pq_join.proofs.Linking.{no_port_zero}
use Rattle.pq_join.proofs.Rooms.{departures_room, departures_within, policy_room, seen_room, sight_room}
use Rattle.pq_join.proofs.Testing.{arriving_ports, leaving_ports}
use Rattle.pq_join.proofs.trees.switch_trees.Goals as goal

pub sight-requires : goal.sight-requires
sight-requires c = record { fits = seen_room c.args.topology.now c.args.forward.now c.args.policy c.args.letters.now c.args.datapath c.requires.fits }

pub arriving_trees-requires-clause-root : goal.arriving_trees-requires-clause-root
arriving_trees-requires-clause-root c = let there = c.in_ok-seen.ensures in slice_get_within c.in_ok-seen.seen c.in_ok-seen.root there.0 there.1

pub arriving_trees-requires-clause-fits : goal.arriving_trees-requires-clause-fits
arriving_trees-requires-clause-fits c =
    sight_room c.args.topology.now c.args.forward.now c.args.policy c.args.letters.now c.args.datapath c.requires.fits c.in_ok-seen.seen
    c.in_ok-seen.root c.in_ok-seen.ensures

pub departures_or_drops-requires-clause-root : goal.departures_or_drops-requires-clause-root
departures_or_drops-requires-clause-root c = let there = c.in_ok-seen.ensures in slice_get_within c.in_ok-seen.seen c.in_ok-seen.root there.0 there.1

pub departures_or_drops-requires-clause-fit : goal.departures_or_drops-requires-clause-fit
departures_or_drops-requires-clause-fit c =
    policy_room c.args.topology.now c.args.forward.now c.args.policy c.args.letters.now c.args.datapath c.requires.fits c.in_ok-seen.seen
    c.in_ok-seen.root c.in_ok-seen.ensures
    c.at_number-here.result c.requires.policy c.at_number-here.ensures.restricts

pub leaving_trees-requires-clause-node : goal.leaving_trees-requires-clause-node
leaving_trees-requires-clause-node c =
    departures_within c.args.topology.now c.args.forward.now c.args.policy c.args.letters.now c.args.datapath c.requires.fits
    c.in_ok-seen.seen c.in_ok-seen.root c.in_ok-seen.ensures
    c.at_number-here.result c.requires.policy c.at_number-here.ensures.restricts c.in_ok-departures.departures c.in_ok-departures.node
    c.in_ok-departures.ensures

pub leaving_trees-requires-clause-fits : goal.leaving_trees-requires-clause-fits
leaving_trees-requires-clause-fits c =
    departures_room c.args.topology.now c.args.forward.now c.args.policy c.args.letters.now c.args.datapath c.requires.fits
    c.in_ok-seen.seen c.in_ok-seen.root c.in_ok-seen.ensures
    c.at_number-here.result c.requires.policy c.at_number-here.ensures.restricts c.in_ok-departures.departures c.in_ok-departures.node
    c.in_ok-departures.ensures

pub returns-clause-arriving : goal.returns-clause-arriving
returns-clause-arriving c =
    arriving_whole c.args.topology.now c.args.letters.now c.args.classes.now c.args.datapath c.switches-named.ensures.lawful.lawful
    c.count.ensures.lettered c.requires.letters c.ranges.datapath.fits
    c.in_ok-seen.seen c.in_ok-seen.root c.in_ok-seen.ensures c.arriving_trees.new.first c.in_ok-arriving.arriving.items c.in_ok-arriving.ensures.arrives

pub returns-clause-leaving : goal.returns-clause-leaving
returns-clause-leaving c p p_is =
    let none = no_port_zero c.args.topology.now c.args.datapath (subst (All IsPortNumber) c.ports_of-ports.ensures.ports c.ports_of-ports.ensures.numbers) in
    leaving_whole c.args.topology.now c.args.letters.now c.args.classes.now c.args.datapath c.count.ensures.lettered c.requires.letters
    c.ranges.datapath.fits none
    c.in_ok-seen.seen c.in_ok-seen.root c.in_ok-seen.ensures c.args.forward.now c.args.policy c.at_number-here.result c.at_number-here.ensures.restricts
    c.in_ok-departures.departures c.in_ok-departures.node c.in_ok-departures.ensures p p_is (c.requires.idle_free p p_is)
    c.leaving_trees.new.second c.in_ok-leaving.leaving.items c.in_ok-leaving.ensures.leaves

pub returns-clause-ports : goal.returns-clause-ports
returns-clause-ports c policy letters = (
  arriving_ports c.args.topology.now c.args.letters.now c.args.datapath c.switches-named.ensures.lawful.lawful c.count.ensures.lettered.root letters
      c.in_ok-seen.seen c.in_ok-seen.root c.in_ok-seen.ensures c.args.classes.now c.arriving_trees.new.first c.in_ok-arriving.arriving.items
      c.in_ok-arriving.ensures.arrives,
  leaving_ports c.args.topology.now c.args.letters.now c.args.datapath c.switches-named.ensures.lawful.lawful c.count.ensures.lettered.root letters
      c.in_ok-seen.seen c.in_ok-seen.root c.in_ok-seen.ensures c.args.classes.now c.args.forward.now c.args.policy c.at_number-here.result
      c.requires.policy c.at_number-here.ensures.restricts policy
      c.in_ok-departures.departures c.in_ok-departures.node c.in_ok-departures.ensures c.leaving_trees.new.second
      c.in_ok-leaving.leaving.items c.in_ok-leaving.ensures.leaves,
)
