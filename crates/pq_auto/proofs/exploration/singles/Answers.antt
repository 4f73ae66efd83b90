use Rattle.std.proofs.Common.{map, drop, length, arith, ◌+◌, ◌*◌}
use Rattle.std.specs.List.{sum}
use Rattle.std.proofs.lemmas.List.{at_drop_all}
use Rattle.pq_expr.specs.Expr.{expr_tree, expr_trees}
use Rattle.pq_deriv.specs.Most.{mosts}
use Rattle.pq_auto.proofs.Steps.{steps_more}
use Rattle.pq_auto.proofs.Tellings.{tell_all, tell_more}
use Rattle.pq_auto.proofs.exploration.singles.Goals as goal

pub loop-expr-preserved : goal.loop-expr-preserved
loop-expr-preserved g c =
    let exprs = c.args.exprs.now in
    let letters = length c.args.alphabet.now in
    record {
      tell = tell_more (map (λ v. v.items) c.args.alphabet.now) exprs c.loop-expr.expr-index c.expr-item.result c.loop-expr.tables.items
          c.push.new.self.items c.in_ok-single.field-0 c.loop-expr-test.true c.expr-item.is c.in_ok-push.ensures.items
          c.in_ok-single.ensures.table c.loop-expr.invariant.tell;
      counted = λ lawful. steps_more exprs c.loop-expr.expr-index c.expr-item.result letters c.loop-expr.steps c.single.new.steps
          (c.args.steps.now + letters * (2 * sum (mosts (expr_trees exprs)))) c.loop-expr-test.true c.expr-item.is
          c.in_ok-single.ensures.counted (c.loop-expr.invariant.counted lawful);
    }

pub returns-clause-tables : goal.returns-clause-tables
returns-clause-tables g c = tell_all (map (λ v. v.items) c.args.alphabet.now) c.loop-expr.tables.items (map expr_tree c.args.exprs.now)
    (map expr_tree (drop c.loop-expr.expr-index c.args.exprs.now))
    (at_drop_all (map expr_tree) c.args.exprs.now c.loop-expr.expr-index c.loop-expr-test.false) c.loop-expr.invariant.tell

pub returns-clause-counted : goal.returns-clause-counted
returns-clause-counted g c lawful = omega (arith, (c.loop-expr.invariant.counted lawful).1)
