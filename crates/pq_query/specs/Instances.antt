-- The instances of queries over a topology: each query with each of its labels.
use Rattle.std.specs.Prelude.{ℕ, ◌≡◌, ◌+◌, ◌-◌, ◌^◌, ◌<◌, ◌≤◌, min, List, [], ◌∷◌, ◌++◌, map, length, sum_by}
use Rattle.pq_model.specs.Buckets.{Instance}
use Rattle.pq_model.specs.Topology.{Topology}
use Rattle.pq_query.specs.declared.listing.InstancesFault.{InstancesFault}
use Rattle.pq_query.specs.declared.listing.InstancesFault.TheVariants.{InstancesFull, Memory}
use Rattle.pq_query.specs.declared.query.Query.{Query}
use Rattle.pq_query.specs.Labels.{labels}
use Rattle.pq_query.specs.Query.{QueryTree, query_tree}

-- the query at this place of a document, with each of these labels
abbrev pub under_labels : ℕ → List (List ℕ) → List Instance
under_labels place ls = map (λ label. record { query = place; label = label }) ls

-- the instances of queries of which the first is at this place
abbrev pub instances_from : Topology → ℕ → List QueryTree → List Instance
instances_from T place [] = []
instances_from T place (q ∷ qs) = under_labels place (labels T q) ++ instances_from T (place + 1) qs

-- the instances of a document's queries: by query, in order, then by label, ascending
abbrev pub instances_of : Topology → List QueryTree → List Instance
instances_of T qs = instances_from T 0 qs

-- the number of labels of all the queries
abbrev pub label_sum : Topology → List QueryTree → ℕ
label_sum T qs = sum_by (λ q. length (labels T q)) qs

-- the queries, without their names
abbrev pub named_trees : List (List ℕ × Query) → List QueryTree
named_trees qs = map (λ q. query_tree q.1) qs

-- why there are no instances: too many labels, this many or 2 ^ 32 - 1 where there are more; or running out of memory
abbrev pub IsCause : InstancesFault → ℕ → Type 0
IsCause (InstancesFull count) sum = (1024 < sum) × (count ≡ min sum (2 ^ 32 - 1))
IsCause Memory sum = sum ≤ 1024
