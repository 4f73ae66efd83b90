-- Queries as plain data.
use Rattle.std.specs.Prelude.{List, [], ◌∷◌}
use Rattle.pq_fields.specs.Pred.{PredTree, pred_tree}
use Rattle.pq_query.specs.Groups.{Group}
use Rattle.pq_query.specs.declared.query.Query.{Query}
use Rattle.pq_query.specs.declared.query.Query.TheOpen.{Query-F}
use Rattle.pq_query.specs.declared.query.Query.TheFolds.{fold-Query}

-- what is at the top of a query: an atom with its predicates, each with its grouped fields; or an operator
pub data QueryTop : Type 0 where
  Enters : PredTree → List Group → QueryTop
  Leaves : PredTree → List Group → QueryTop
  Passes : PredTree → List Group → PredTree → List Group → QueryTop
  Ends : PredTree → QueryTop
  InTurn : QueryTop
  Either : QueryTop
  Both : QueryTop
  Other : QueryTop
  Repeated : QueryTop

-- queries: the top of the first, its operands, and the queries after it
pub data Queries : Type 0 where
  none : Queries
  put : QueryTop → Queries → Queries → Queries

-- a query
pub record QueryTree : Type 0 where
  pub top : QueryTop
  pub below : Queries

-- queries one after another
abbrev pub queries : List QueryTree → Queries
queries [] = none
queries (q ∷ qs) = put q.top q.below (queries qs)

abbrev pub leaf : QueryTop → QueryTree
leaf top = record { top = top; below = none }

abbrev pub query_step : Query-F QueryTree → QueryTree
query_step (Query-F.In p gs) = leaf (Enters (pred_tree p) gs.items)
query_step (Query-F.Out p gs) = leaf (Leaves (pred_tree p) gs.items)
query_step (Query-F.InOut p gs q hs) = leaf (Passes (pred_tree p) gs.items (pred_tree q) hs.items)
query_step (Query-F.End p) = leaf (Ends (pred_tree p))
query_step (Query-F.Cat qs) = record { top = InTurn; below = queries qs.items }
query_step (Query-F.Or qs) = record { top = Either; below = queries qs.items }
query_step (Query-F.And qs) = record { top = Both; below = queries qs.items }
query_step (Query-F.Not q) = record { top = Other; below = queries (q.value ∷ []) }
query_step (Query-F.Star q) = record { top = Repeated; below = queries (q.value ∷ []) }

-- a query as plain data
abbrev pub query_tree : Query → QueryTree
query_tree = fold-Query QueryTree query_step
