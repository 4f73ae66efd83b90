-- A lowered query is nested little deeper than the query.
use Rattle.std.proofs.Common.{◌≤◌, ℕ, ◌+◌, ◌*◌, List, [], ◌∷◌, arith}
use Rattle.pq_expr.specs.Expr.{NoWord, ExprTree, exprs, leaf}
use Rattle.pq_query.specs.Query.{QueryTop, Enters, Leaves, Passes, Ends, InTurn, Either, Both, Other, Repeated, Queries, none, put, QueryTree}
use Rattle.pq_lower.specs.Added.{top_count, pred_count}
use Rattle.pq_lower.specs.Depth.{depths, depth, query_depths, query_depth}
use Rattle.pq_lower.specs.Lowered.{first_expr, lowered_top, lowered_each, lowered}
use Rattle.pq_lower.specs.Operators.{turn_of, any_of, all_of, other_than}

-- operators
turn_depth : (n : ℕ) (es : List ExprTree) → depths (exprs es) ≤ n → depth (turn_of es) ≤ n + 1
turn_depth n [] few = omega arith
turn_depth n (e ∷ es) few = omega (arith, few)

any_depth : (n : ℕ) (es : List ExprTree) → depths (exprs es) ≤ n → depth (any_of es) ≤ n + 1
any_depth n [] few = omega arith
any_depth n (e ∷ es) few = omega (arith, few)

other_depth : (n t : ℕ) (e : ExprTree) → 1 ≤ n → depth e ≤ n → depth (other_than t e) ≤ n + 2
other_depth n t e some few = omega (arith, some, few)

all_depth : (n t : ℕ) (es : List ExprTree) → 1 ≤ n → depths (exprs es) ≤ n → depth (all_of t es) ≤ n + 2
all_depth n t [] some few = other_depth n t (leaf NoWord) some (omega (arith, some))
all_depth n t (e ∷ es) some few = omega (arith, few)

first_depth : (n : ℕ) (es : List ExprTree) → 1 ≤ n → depths (exprs es) ≤ n → depth (first_expr es) ≤ n
first_depth n [] some few = omega (arith, some)
first_depth n (e ∷ es) some few = omega (arith, few)

-- queries
top_depth : (t k n : ℕ) (top : QueryTop) (es : List ExprTree) → depths (exprs es) ≤ 1 + 2 * n → depth (lowered_top t k top es) ≤ 3 + 2 * n
top_depth t k n (Enters p gs) es few = omega arith
top_depth t k n (Leaves p gs) es few = omega arith
top_depth t k n (Passes p gs q hs) es few = omega arith
top_depth t k n (Ends p) es few = omega arith
top_depth t k n InTurn es few = let own = turn_depth (1 + 2 * n) es few in omega (arith, own)
top_depth t k n Either es few = let own = any_depth (1 + 2 * n) es few in omega (arith, own)
top_depth t k n Both es few = let own = all_depth (1 + 2 * n) t es (omega arith) few in omega (arith, own)
top_depth t k n Other es few = let own =
    other_depth (1 + 2 * n) t (first_expr es) (omega arith) (first_depth (1 + 2 * n) es (omega arith) few) in omega (arith, own)
top_depth t k n Repeated es few = let own = first_depth (1 + 2 * n) es (omega arith) few in omega (arith, own)

each_depth : (t k : ℕ) (qs : Queries) → depths (exprs (lowered_each t k qs)) ≤ 1 + 2 * query_depths qs
each_depth t k none = omega arith
each_depth t k (put top below rest) =
    let own = top_depth t k (query_depths below) top (lowered_each t k below) (each_depth t k below) in
    let later = each_depth t (k + top_count top (pred_count below)) rest in
    omega (arith, own, later)

pub lowered_depth : (t k : ℕ) (q : QueryTree) → depth (lowered t k q) ≤ 1 + 2 * query_depth q
lowered_depth t k q = let own = top_depth t k (query_depths q.below) q.top (lowered_each t k q.below) (each_depth t k q.below) in omega (arith, own)
