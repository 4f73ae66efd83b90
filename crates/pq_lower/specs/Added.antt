-- The predicates that a query needs under a label: one that holds of every packet, and those of its atoms, in text order.
use Rattle.std.specs.Prelude.{ℕ, ◌+◌, List, [], ◌∷◌, ◌++◌, length, drop}
use Rattle.pq_fields.specs.declared.field.Field.TheVariants.{Port}
use Rattle.pq_fields.specs.Pred.{PredTree, Always, Never, Equals, Every, Negated, preds, leaf}
use Rattle.pq_query.specs.Groups.{Group}
use Rattle.pq_query.specs.Query.{QueryTop, Enters, Leaves, Passes, Ends, InTurn, Either, Both, Other, Repeated, Queries, none, put, QueryTree}
use Rattle.pq_query.specs.Language.{share}

-- the packet is at port 0
abbrev pub dropped : PredTree
dropped = leaf (Equals Port 0)

abbrev pub sent : PredTree
sent = record { top = Negated; below = preds (dropped ∷ []) }

-- the test of a grouped field for the first value of a label; without a value there is none that passes
abbrev pub test_at : Group → List ℕ → PredTree
test_at g [] = leaf Never
test_at g (n ∷ label) = leaf (Equals g.field n)

-- the tests of grouped fields for the values of a label
abbrev pub tests : List Group → List ℕ → List PredTree
tests [] label = []
tests (g ∷ gs) label = test_at g label ∷ tests gs (drop 1 label)

-- the predicate, the tests of its grouped fields, and more predicates
abbrev pub fulfilling : PredTree → List Group → List ℕ → List PredTree → PredTree
fulfilling p gs label more = record { top = Every; below = preds ((p ∷ tests gs label) ++ more) }

-- the predicates of a query with this top, from those of its operands
abbrev pub top_preds : QueryTop → List ℕ → List PredTree → List PredTree
top_preds (Enters p gs) label ps = fulfilling p gs label [] ∷ []
top_preds (Leaves p gs) label ps = fulfilling p gs label (sent ∷ []) ∷ []
top_preds (Passes p gs q hs) label ps = fulfilling p gs label [] ∷ fulfilling q hs (drop (length gs) label) (sent ∷ []) ∷ []
top_preds (Ends p) label ps = p ∷ dropped ∷ []
top_preds InTurn label ps = ps
top_preds Either label ps = ps
top_preds Both label ps = ps
top_preds Other label ps = ps
top_preds Repeated label ps = ps

-- the predicates of queries; each takes its own share of the label
abbrev pub preds_of : Queries → List ℕ → List PredTree
preds_of none label = []
preds_of (put top below rest) label = top_preds top label (preds_of below label) ++ preds_of rest (drop (share top below) label)

abbrev pub query_preds : QueryTree → List ℕ → List PredTree
query_preds q label = top_preds q.top label (preds_of q.below label)

-- all that are added
abbrev pub added_preds : QueryTree → List ℕ → List PredTree
added_preds q label = leaf Always ∷ query_preds q label

-- How many they are.

-- of a query with this top, from the number of its operands
abbrev pub top_count : QueryTop → ℕ → ℕ
top_count (Enters p gs) k = 1
top_count (Leaves p gs) k = 1
top_count (Passes p gs q hs) k = 2
top_count (Ends p) k = 2
top_count InTurn k = k
top_count Either k = k
top_count Both k = k
top_count Other k = k
top_count Repeated k = k

abbrev pub pred_count : Queries → ℕ
pred_count none = 0
pred_count (put top below rest) = top_count top (pred_count below) + pred_count rest

abbrev pub query_count : QueryTree → ℕ
query_count q = top_count q.top (pred_count q.below)
