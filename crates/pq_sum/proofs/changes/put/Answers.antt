use Rattle.pq_sum.proofs.Called.{is_put, put_may_change}
use Rattle.pq_sum.proofs.Moving.{put_change, put_sum}
use Rattle.std.proofs.Common.{[], ◌∷◌}
use Rattle.pq_sum.proofs.changes.put.Goals as goal

pub set-requires-clause-change : goal.set-requires-clause-change
set-requires-clause-change g c = put_may_change c.args.store.now c.nothing.new.store c.nothing.ensures.keeps c.args.cells.now c.args.slot c.args.part c.requires

pub returns-clause-sum : goal.returns-clause-sum
returns-clause-sum g c =
    is_put c.args.store.now c.nothing.new.store c.nothing.ensures.keeps c.args.cells.now c.args.slot c.args.part c.set.new.store
    c.set.new.cells c.in_ok-set.ensures.changed

pub returns-in_err-set-clause-steps : goal.returns-in_err-set-clause-steps
returns-in_err-set-clause-steps g c T ps p put =
    c.set.ensures.steps T 10 ps (p ∷ [])
    (put_sum T c.args.store.now c.nothing.new.store c.nothing.ensures.keeps c.args.cells.now c.args.slot c.args.part ps p put)
    (put_change T c.args.store.now c.nothing.new.store c.nothing.ensures.keeps c.args.cells.now c.args.slot c.args.part ps p put)

pub returns-clause-steps : goal.returns-clause-steps
returns-clause-steps g c T ps p put =
    c.set.ensures.steps T 10 ps (p ∷ [])
    (put_sum T c.args.store.now c.nothing.new.store c.nothing.ensures.keeps c.args.cells.now c.args.slot c.args.part ps p put)
    (put_change T c.args.store.now c.nothing.new.store c.nothing.ensures.keeps c.args.cells.now c.args.slot c.args.part ps p put)

pub returns-in_err-set-clause-keeps : goal.returns-in_err-set-clause-keeps
returns-in_err-set-clause-keeps g c k t is = c.set.ensures.keeps k t (c.nothing.ensures.keeps k t is)

pub returns-clause-keeps : goal.returns-clause-keeps
returns-clause-keeps g c k t is = c.set.ensures.keeps k t (c.nothing.ensures.keeps k t is)
