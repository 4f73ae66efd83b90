use Rattle.std.proofs.lemmas.Option.{slice_get_within}
use Rattle.pq_rewrite.proofs.InSequence.{sequence_fits, sequences}
use Rattle.pq_rewrite.proofs.sequence.then.Goals as goal

pub sequenced-requires-clause-fit : goal.sequenced-requires-clause-fit
sequenced-requires-clause-fit g c =
    sequence_fits c.args.store.now c.args.x c.args.y c.view.ensures.diagrams c.requires.x_idle_free c.requires.y_idle_free c.requires.fit

pub equal_rewritings_are_one-requires : goal.equal_rewritings_are_one-requires
equal_rewritings_are_one-requires g c =
    let made = c.in_ok-id.ensures.sequenced in
    slice_get_within c.sequenced.new.store c.in_ok-id.id made.sequenced made.sequenced_is

pub returns-clause-sequences : goal.returns-clause-sequences
returns-clause-sequences g c =
    sequences c.args.store.now c.args.x c.args.y c.view.ensures.diagrams c.requires.x_idle_free c.requires.y_idle_free c.sequenced.new.store
    c.in_ok-id.id c.sequenced.ensures.keeps
    c.in_ok-id.ensures.sequenced
