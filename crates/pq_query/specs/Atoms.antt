-- How many atoms queries have.
use Rattle.std.specs.Prelude.{ℕ, ◌+◌}
use Rattle.pq_query.specs.Query.{QueryTop, Enters, Leaves, Passes, Ends, InTurn, Either, Both, Other, Repeated, Queries, none, put, QueryTree}

-- at the top of a query
abbrev pub top_atoms : QueryTop → ℕ
top_atoms (Enters p gs) = 1
top_atoms (Leaves p gs) = 1
top_atoms (Passes p gs q hs) = 1
top_atoms (Ends p) = 1
top_atoms InTurn = 0
top_atoms Either = 0
top_atoms Both = 0
top_atoms Other = 0
top_atoms Repeated = 0

-- in queries
abbrev pub atoms : Queries → ℕ
atoms none = 0
atoms (put top below rest) = top_atoms top + (atoms below + atoms rest)

abbrev pub query_atoms : QueryTree → ℕ
query_atoms q = top_atoms q.top + atoms q.below
