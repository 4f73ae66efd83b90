use Rattle.std.proofs.Common.{List, ◌++◌, ◌+◌, ◌*◌, ◌≤◌, drop, length, map}
use Rattle.std.specs.List.{sum}
use Rattle.pq_expr.specs.Expr.{expr_tree, expr_trees, AreLawful}
use Rattle.pq_deriv.specs.Most.{mosts}
use Rattle.pq_auto.specs.Machine.{Machine}
use Rattle.pq_auto.specs.Telling.{TellEach}
use Rattle.pq_auto.proofs.exploration.singles.Given as goal

abbrev pub invariant-loop-expr : goal.invariant-loop-expr
invariant-loop-expr g l = record {
  tell : (more : List Machine) → TellEach (map (λ v. v.items) l.alphabet) more (map expr_tree (drop l.expr-index l.exprs))
      → TellEach (map (λ v. v.items) l.alphabet) (l.tables.items ++ more) (map expr_tree l.exprs);
  counted : AreLawful (expr_trees l.exprs) → AreLawful (expr_trees (drop l.expr-index l.exprs))
      × (l.steps + length l.alphabet * (2 * sum (mosts (expr_trees (drop l.expr-index l.exprs)))) ≤ l.fn.steps + length l.alphabet *
      (2 * sum (mosts (expr_trees l.exprs))));
}
