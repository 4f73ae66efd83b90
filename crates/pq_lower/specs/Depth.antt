-- How deep expressions and queries are nested: an atom is one level, an operator one more than its operands.
use Rattle.std.specs.Prelude.{ℕ, suc, max}
use Rattle.pq_expr.specs.Expr.{Exprs, none as no_exprs, put as set, ExprTree}
use Rattle.pq_query.specs.Query.{Queries, none, put, QueryTree}

abbrev pub depths : Exprs → ℕ
depths no_exprs = 0
depths (set top below rest) = max (suc (depths below)) (depths rest)

abbrev pub depth : ExprTree → ℕ
depth e = suc (depths e.below)

abbrev pub query_depths : Queries → ℕ
query_depths none = 0
query_depths (put top below rest) = max (suc (query_depths below)) (query_depths rest)

abbrev pub query_depth : QueryTree → ℕ
query_depth q = suc (query_depths q.below)
