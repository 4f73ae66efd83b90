-- How labels are counted, and the values that they take from: group by group, in text order.
use Rattle.std.specs.Prelude.{ℕ, ◌+◌, ◌-◌, ◌*◌, ◌^◌, ◌==◌, min, if◌then◌else◌, List, [], ◌∷◌, ◌++◌, length, Option, Some, None}
use Rattle.std.specs.BTreeSet.{insert_key}
use Rattle.std.specs.List.{list_any}
use Rattle.std.specs.Ordering.{nat_cmp}
use Rattle.pq_fields.specs.declared.field.Field.{Field}
use Rattle.pq_fields.specs.Packet.{rank}
use Rattle.pq_model.specs.Topology.{Topology}
use Rattle.pq_query.specs.declared.sizes.Sizes.{Sizes}
use Rattle.pq_query.specs.Groups.{Group}
use Rattle.pq_query.specs.Labels.{ascending, datapath_numbers, port_numbers, top_groups}
use Rattle.pq_query.specs.Query.{Queries, none, put, QueryTree, queries}

-- the number, or 2 ^ 32 - 1 where it is greater
abbrev pub capped : ℕ → ℕ
capped n = min n (2 ^ 32 - 1)

-- what the groups make of a value, one after another
abbrev pub on_groups : {A : Type 0} → (Group → A → A) → List Group → A → A
on_groups step [] a = a
on_groups step (g ∷ gs) a = on_groups step gs (step g a)

-- what the groups of queries make of a value, one after another
abbrev pub on_queries : {A : Type 0} → (Group → A → A) → Queries → A → A
on_queries step none a = a
on_queries step (put top below rest) a = on_queries step rest (on_queries step below (on_groups step (top_groups top) a))

-- what the groups of a query make of a value
abbrev pub on_query : {A : Type 0} → (Group → A → A) → QueryTree → A → A
on_query step q a = on_queries step (queries (q ∷ [])) a

-- Counts.

-- the numbers of values of `switch` and of `port` that the topology lists
abbrev pub sizes_of : Topology → Sizes
sizes_of T = record { switches = length (ascending (datapath_numbers T)); ports = length (ascending (port_numbers T)) }

-- the number of values of `switch` or of `port`
abbrev pub listed_count : Sizes → Field → ℕ
listed_count s f = if rank f == 0 then s.switches else s.ports

-- the number of values that the group takes
abbrev pub value_count : Sizes → Group → ℕ
value_count s g = by g.values where
  by : Option (List ℕ) → ℕ
  by (Some ns) = capped (length (ascending ns))
  by None = listed_count s g.field

-- this many labels, each with each value of one more group
abbrev pub times : Sizes → Group → ℕ → ℕ
times s g n = capped (n * value_count s g)

-- the number of labels of a query
abbrev pub counted : Sizes → QueryTree → ℕ
counted s q = on_query (times s) q 1

-- this many instances and those of the queries
abbrev pub sum_counted : Sizes → List QueryTree → ℕ → ℕ
sum_counted s [] n = n
sum_counted s (q ∷ qs) n = sum_counted s qs (capped (n + counted s q))

-- this many numbers and this one, where it is none of those that are known
abbrev pub count_other : ℕ → List ℕ → ℕ → ℕ
count_other p known n = if list_any (λ q. q == p) known then n else capped (n + 1)

-- this many numbers and those of the first list that are none of the second
abbrev pub count_others : List ℕ → List ℕ → ℕ → ℕ
count_others [] known n = n
count_others (p ∷ ps) known n = count_others ps known (count_other p known n)

-- Values.

-- the numbers are put among ascending ones, the last of them first
abbrev pub put_last_first : List ℕ → List ℕ → List ℕ
put_last_first [] ks = ks
put_last_first (n ∷ ns) ks = insert_key nat_cmp (put_last_first ns ks) n

-- the values that the group takes, where `switch` and `port` have these
abbrev pub values_of : List ℕ → List ℕ → Group → List ℕ
values_of datapaths ports g = by g.values where
  by : Option (List ℕ) → List ℕ
  by (Some ns) = ascending ns
  by None = if rank g.field == 0 then datapaths else ports

-- the values of one more group after those of others
abbrev pub with_values : List ℕ → List ℕ → Group → List (List ℕ) → List (List ℕ)
with_values datapaths ports g lists = lists ++ values_of datapaths ports g ∷ []
