-- The expression that a query is lowered to.
use Rattle.std.specs.Prelude.{ℕ, ◌+◌, List, [], ◌∷◌}
use Rattle.pq_expr.specs.Expr.{NoWord, ExprTree, leaf}
use Rattle.pq_query.specs.Query.{QueryTop, Enters, Leaves, Passes, Ends, InTurn, Either, Both, Other, Repeated, Queries, none, put, QueryTree}
use Rattle.pq_lower.specs.Added.{top_count, pred_count}
use Rattle.pq_lower.specs.Operators.{entry, hop, turn_of, any_of, all_of, other_than, repeated}

-- the first of the expressions
abbrev pub first_expr : List ExprTree → ExprTree
first_expr [] = leaf NoWord
first_expr (e ∷ es) = e

-- Predicate t holds of every packet; those of the query are numbered from n on.

-- a query with this top and these operands
abbrev pub lowered_top : ℕ → ℕ → QueryTop → List ExprTree → ExprTree
lowered_top t n (Enters p gs) es = entry t n
lowered_top t n (Leaves p gs) es = hop t t n
lowered_top t n (Passes p gs q hs) es = hop t n (n + 1)
lowered_top t n (Ends p) es = hop t n (n + 1)
lowered_top t n InTurn es = turn_of es
lowered_top t n Either es = any_of es
lowered_top t n Both es = all_of t es
lowered_top t n Other es = other_than t (first_expr es)
lowered_top t n Repeated es = repeated (first_expr es)

-- queries, in text order
abbrev pub lowered_each : ℕ → ℕ → Queries → List ExprTree
lowered_each t n none = []
lowered_each t n (put top below rest) = lowered_top t n top (lowered_each t n below) ∷ lowered_each t (n + top_count top (pred_count below)) rest

-- a query
abbrev pub lowered : ℕ → ℕ → QueryTree → ExprTree
lowered t n q = lowered_top t n q.top (lowered_each t n q.below)
