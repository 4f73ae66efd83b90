-- The labels of a query over a topology: one value for each of its grouped fields.
use Rattle.std.specs.Prelude.{ℕ, ◌==◌, if◌then◌else◌, List, [], ◌∷◌, ◌++◌, map, Option, Some, None}
use Rattle.std.specs.BTreeSet.{insert_key}
use Rattle.std.specs.List.{flat_map}
use Rattle.std.specs.Ordering.{nat_cmp}
use Rattle.pq_fields.specs.declared.field.Field.{Field}
use Rattle.pq_fields.specs.Packet.{rank}
use Rattle.pq_model.specs.Topology.{Topology}
use Rattle.pq_query.specs.Groups.{Group}
use Rattle.pq_query.specs.Query.{QueryTop, Enters, Leaves, Passes, Ends, InTurn, Either, Both, Other, Repeated, Queries, none, put, QueryTree, queries}

-- the grouped fields of what is at the top of a query, in text order
abbrev pub top_groups : QueryTop → List Group
top_groups (Enters p gs) = gs
top_groups (Leaves p gs) = gs
top_groups (Passes p gs q hs) = gs ++ hs
top_groups (Ends p) = []
top_groups InTurn = []
top_groups Either = []
top_groups Both = []
top_groups Other = []
top_groups Repeated = []

-- the grouped fields of queries, in text order
abbrev pub groups_of : Queries → List Group
groups_of none = []
groups_of (put top below rest) = top_groups top ++ (groups_of below ++ groups_of rest)

-- the numbers in ascending order, each once
abbrev pub ascending : List ℕ → List ℕ
ascending [] = []
ascending (n ∷ ns) = insert_key nat_cmp (ascending ns) n

-- the datapath numbers of the topology
abbrev pub datapath_numbers : Topology → List ℕ
datapath_numbers T = map (λ s. s.datapath) T.switches

-- the port numbers of the topology; one that several switches have stands for all of them
abbrev pub port_numbers : Topology → List ℕ
port_numbers T = flat_map (λ s. s.ports) T.switches

-- the values of `switch` or of `port` that the topology lists
abbrev pub listed_values : Topology → Field → List ℕ
listed_values T f = if rank f == 0 then datapath_numbers T else port_numbers T

-- the values that the group takes: those that are stated, or else those that the topology lists
abbrev pub group_values : Topology → Group → List ℕ
group_values T g = by g.values where
  by : Option (List ℕ) → List ℕ
  by (Some ns) = ns
  by None = listed_values T g.field

-- all lists with one value from each list of values; those with its first value come first, and so on
abbrev pub one_from_each : List (List ℕ) → List (List ℕ)
one_from_each [] = [] ∷ []
one_from_each (ns ∷ rest) = flat_map (λ n. map (λ label. n ∷ label) (one_from_each rest)) ns

-- the labels of a query, ascending, the first value deciding first: all lists with one value for each of its grouped fields
abbrev pub labels : Topology → QueryTree → List (List ℕ)
labels T q = one_from_each (map (λ g. ascending (group_values T g)) (groups_of (queries (q ∷ []))))
