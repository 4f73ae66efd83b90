use Rattle.pq_lower.proofs.Going.{walk_on}
use Rattle.pq_lower.proofs.lowering.+queries.Goals as goal

pub lower_each-loop-query-preserved : goal.lower_each-loop-query-preserved
lower_each-loop-query-preserved t c =
    walk_on c.args.base c.args.label.now _ _ _ c.args.operands.now c.loop-query.query-index c.query-item.result c.loop-query.place
    c.lower_query.new.place c.loop-query.added.items c.lower_query.new.added.items c.loop-query.exprs.items c.push.new.self.items
    c.in_ok-expr.expr
    c.loop-query.invariant c.loop-query-test.true c.query-item.is c.in_ok-push.ensures.items c.in_ok-expr.ensures.expr
    c.in_ok-expr.ensures.added c.in_ok-expr.ensures.place c.in_ok-expr.ensures.within
