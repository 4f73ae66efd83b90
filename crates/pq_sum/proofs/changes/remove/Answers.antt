use Rattle.std.proofs.Common.{inl, inr, arith}
use Rattle.std.proofs.Math.Nat.{eq-or-lt_of_le}
use Rattle.pq_sum.proofs.Removing.{has_last, last_counted, may_move_last, may_take_last, moved_counted, moved_last, taken_last}
use Rattle.pq_sum.proofs.changes.remove.Goals as goal

pub leaf_at-moved-requires : goal.leaf_at-moved-requires
leaf_at-moved-requires g c =
    has_last c.args.store.now c.nothing.new.store c.nothing.ensures.keeps c.args.cells.now c.args.slot c.args.last c.in_ok-none.none
    c.in_ok-none.ensures.none c.requires

pub set-requires-clause-change : goal.set-requires-clause-change
set-requires-clause-change g c =
    may_take_last c.args.store.now c.nothing.new.store c.nothing.ensures.keeps c.args.cells.now c.args.slot c.args.last c.in_ok-none.none
    c.in_ok-none.ensures.none c.requires

pub returns-in_err-set-clause-keeps : goal.returns-in_err-set-clause-keeps
returns-in_err-set-clause-keeps g c k t is = c.set.ensures.keeps k t (c.nothing.ensures.keeps k t is)

pub returns-in_err-set-clause-steps : goal.returns-in_err-set-clause-steps
returns-in_err-set-clause-steps g c T ps remove k few =
    let most = last_counted c.args.store.now c.nothing.new.store c.nothing.ensures.keeps c.args.cells.now c.args.slot c.args.last
    c.in_ok-none.none c.in_ok-none.ensures.none
    T ps remove k few c.args.steps.now c.set.new.steps c.set.ensures.steps in
    omega (arith, most)

pub returns-then-slot-last-clause-sum : goal.returns-then-slot-last-clause-sum
returns-then-slot-last-clause-sum g c T ps remove =
    taken_last c.args.store.now c.nothing.new.store c.nothing.ensures.keeps c.args.cells.now c.args.slot c.args.last c.in_ok-none.none c.in_ok-none.ensures.none
    c.set.new.store c.set.ensures.keeps c.set.new.cells c.leaf_at-moved.result c.leaf_at-moved.ensures c.in_ok-set.ensures.changed T ps
    remove c.if-slot-last.true

pub returns-then-slot-last-clause-keeps : goal.returns-then-slot-last-clause-keeps
returns-then-slot-last-clause-keeps g c k t is = c.set.ensures.keeps k t (c.nothing.ensures.keeps k t is)

pub returns-then-slot-last-clause-steps : goal.returns-then-slot-last-clause-steps
returns-then-slot-last-clause-steps g c T ps remove k few =
    let most = last_counted c.args.store.now c.nothing.new.store c.nothing.ensures.keeps c.args.cells.now c.args.slot c.args.last
    c.in_ok-none.none c.in_ok-none.ensures.none
    T ps remove k few c.args.steps.now c.set.new.steps c.set.ensures.steps in
    omega (arith, most)

pub set-requires-2-clause-none : goal.set-requires-2-clause-none
set-requires-2-clause-none g c = c.set.ensures.keeps _ _ c.in_ok-none.ensures.none

pub set-requires-2-clause-change : goal.set-requires-2-clause-change
set-requires-2-clause-change g c =
    may_move_last c.args.store.now c.nothing.new.store c.nothing.ensures.keeps c.args.cells.now c.args.slot c.args.last c.in_ok-none.none
    c.in_ok-none.ensures.none
    c.set.new.store c.set.ensures.keeps c.set.new.cells c.leaf_at-moved.result c.leaf_at-moved.ensures c.in_ok-set.ensures.changed
    (elim (eq-or-lt_of_le c.requires.remove.within) [ inl same ↦ absurd (c.if-slot-last.false same) | inr lt ↦ lt ]) c.requires

pub returns-in_err-set-2-clause-keeps : goal.returns-in_err-set-2-clause-keeps
returns-in_err-set-2-clause-keeps g c k t is = c.set-2.ensures.keeps k t (c.set.ensures.keeps k t (c.nothing.ensures.keeps k t is))

pub returns-in_err-set-2-clause-steps : goal.returns-in_err-set-2-clause-steps
returns-in_err-set-2-clause-steps g c T ps remove k few =
    moved_counted c.args.store.now c.nothing.new.store c.nothing.ensures.keeps c.args.cells.now c.args.slot c.args.last c.in_ok-none.none
    c.in_ok-none.ensures.none
    T ps remove k few c.set.new.store c.set.ensures.keeps c.set.new.cells c.leaf_at-moved.result c.leaf_at-moved.ensures c.in_ok-set.ensures.changed
    (elim (eq-or-lt_of_le remove.within) [ inl same ↦ absurd (c.if-slot-last.false same) | inr lt ↦ lt ])
    c.args.steps.now c.set.new.steps c.set-2.new.steps c.set.ensures.steps c.set-2.ensures.steps

pub returns-clause-sum : goal.returns-clause-sum
returns-clause-sum g c T ps remove =
    moved_last c.args.store.now c.nothing.new.store c.nothing.ensures.keeps c.args.cells.now c.args.slot c.args.last c.in_ok-none.none c.in_ok-none.ensures.none
    c.set.new.store c.set.ensures.keeps c.set.new.cells c.leaf_at-moved.result c.leaf_at-moved.ensures c.in_ok-set.ensures.changed T ps remove
    (elim (eq-or-lt_of_le remove.within) [ inl same ↦ absurd (c.if-slot-last.false same) | inr lt ↦ lt ])
    c.set-2.new.store c.set-2.new.cells c.in_ok-set-2.ensures.changed

pub returns-clause-keeps : goal.returns-clause-keeps
returns-clause-keeps g c k t is = c.set-2.ensures.keeps k t (c.set.ensures.keeps k t (c.nothing.ensures.keeps k t is))

pub returns-clause-steps : goal.returns-clause-steps
returns-clause-steps g c T ps remove k few =
    moved_counted c.args.store.now c.nothing.new.store c.nothing.ensures.keeps c.args.cells.now c.args.slot c.args.last c.in_ok-none.none
    c.in_ok-none.ensures.none
    T ps remove k few c.set.new.store c.set.ensures.keeps c.set.new.cells c.leaf_at-moved.result c.leaf_at-moved.ensures c.in_ok-set.ensures.changed
    (elim (eq-or-lt_of_le remove.within) [ inl same ↦ absurd (c.if-slot-last.false same) | inr lt ↦ lt ])
    c.args.steps.now c.set.new.steps c.set-2.new.steps c.set.ensures.steps c.set-2.ensures.steps
