use Rattle.std.proofs.Common.{◌∙◌, sym, subst}
use Rattle.pq_sum.specs.Sum.{IsSumTree}
use Rattle.pq_sum.proofs.Called.{is_opened, lent, may_fill}
use Rattle.pq_sum.proofs.changes.opened.Goals as goal

pub fill-requires-clause-fill : goal.fill-requires-clause-fill
fill-requires-clause-fill g c =
    may_fill c.args.store.now c.nothing.new.store c.nothing.ensures.keeps c.in_ok-none.none c.in_ok-none.ensures.none c.deref_mut.result.now c.args.parts.now
    (c.deref_mut.ensures.value ∙ c.in_ok-cells.ensures) c.requires

pub returns-clause-sum : goal.returns-clause-sum
returns-clause-sum g c T ps each few fits =
    subst (λ l. IsSumTree T c.fill.new.store 10 l ps) (sym (lent c.fill.new.cells _ c.in_ok-cells.cells.len (c.fill.auto.cells ∙ c.deref_mut.ensures.len)))
    (is_opened c.args.store.now c.nothing.new.store c.nothing.ensures.keeps c.in_ok-none.none c.in_ok-none.ensures.none c.deref_mut.result.now c.args.parts.now
    (c.deref_mut.ensures.value ∙ c.in_ok-cells.ensures) c.fill.new.store c.fill.new.cells c.in_ok-fill.ensures.filled T ps each few fits)
