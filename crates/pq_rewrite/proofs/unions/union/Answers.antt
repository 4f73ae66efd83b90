use Rattle.std.proofs.lemmas.Option.{slice_get_within}
use Rattle.pq_lists.proofs.Places.{at_place}
use Rattle.pq_rewrite.proofs.Merging.{merges_unite}
use Rattle.pq_rewrite.proofs.unions.union.Goals as goal

pub equal_rewritings_are_one-requires : goal.equal_rewritings_are_one-requires
equal_rewritings_are_one-requires g c =
    let t = at_place c.args.store.now c.args.x c.requires.x in
    let u = at_place c.args.store.now c.args.y c.requires.y in
    let merged = c.in_ok-id.ensures.merges t.0 u.0 t.1 u.1 in
    slice_get_within c.united.new.store c.in_ok-id.id merged.0 merged.1

pub returns-clause-unites : goal.returns-clause-unites
returns-clause-unites g c =
    merges_unite c.args.store.now c.united.new.store c.args.x c.args.y c.in_ok-id.id c.requires.x_idle_free c.requires.y_idle_free c.in_ok-id.ensures.merges
