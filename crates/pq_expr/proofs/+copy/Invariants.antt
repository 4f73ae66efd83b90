use Rattle.std.proofs.Common.{◌≡◌, ◌++◌, map, drop}
use Rattle.pq_expr.specs.Expr.{expr_tree}
use Rattle.pq_expr.proofs.+copy.Given as goal

abbrev pub invariant-twins::copies-loop-expr :
    goal.invariant-twins::copies-loop-expr
invariant-twins::copies-loop-expr l = map expr_tree l.all.items ++ map expr_tree (drop l.expr-index l.exprs) ≡ map expr_tree l.exprs
