-- Instances as they are listed, query by query and label by label.
use Rattle.std.proofs.Common.{◌≡◌, ℕ, ◌+◌, ◌<◌, ◌≤◌, List, [], ◌∷◌, ◌++◌, length, get_or, drop, All, sym, ap, ap₂, ◌∙◌, arith, append_assoc}
use Rattle.std.proofs.lemmas.List.{drop_more, length-map}
use Rattle.std.proofs.lemmas.List.Elements.{All-append, All-map, All-weaker}
use Rattle.std.proofs.lemmas.List.Sums.{sum_by-cons}
use Rattle.pq_model.specs.Buckets.{Instance}
use Rattle.pq_model.specs.Topology.{Topology}
use Rattle.pq_query.specs.Counts.{capped, counted, on_query, sizes_of, sum_counted, with_values}
use Rattle.pq_query.specs.Instances.{instances_from, instances_of, label_sum, named_trees, under_labels}
use Rattle.pq_query.specs.Labels.{ascending, datapath_numbers, labels, one_from_each, port_numbers}
use Rattle.pq_query.specs.Query.{QueryTree, query_tree}
use Rattle.pq_query.specs.declared.query.Query.{Query}
use Rattle.pq_query.specs.declared.sizes.Sizes.{Sizes}
use Rattle.pq_query.proofs.Counted.{labels_counted, labels_made, sum_is}

-- the queries of instances are among the queries
pub instances_below : (T : Topology) (place : ℕ) (qs : List QueryTree) → All (λ i. i.query < place + length qs) (instances_from T place qs)
instances_below T place [] = λ k d below. absurd (omega (arith, below))
instances_below T place (q ∷ qs) =
    let own : All (λ i. i.query < place + length (q ∷ qs)) (under_labels place (labels T q)) =
    All-map (λ i. i.query < place + length (q ∷ qs)) (λ label. record { query = place; label = label }) (labels T q)
    (λ k d below. omega arith) in
    let later : All (λ i. i.query < place + length (q ∷ qs)) (instances_from T (place + 1) qs) =
    All-weaker (λ (i : Instance). i.query < place + 1 + length qs) (λ i. i.query < place + length (q ∷ qs)) (λ i lt. omega (arith, lt))
    (instances_from T (place + 1) qs) (instances_below T (place + 1) qs) in
    All-append (λ i. i.query < place + length (q ∷ qs)) (under_labels place (labels T q)) (instances_from T (place + 1) qs) own later

-- one more label
pub one_more_label : (all : List Instance) (place : ℕ) (ls : List (List ℕ)) (i : ℕ) → i < length ls
    → (all ++ record { query = place; label = get_or ls i [] } ∷ []) ++ under_labels place (drop (i + 1) ls) ≡ all
    ++ under_labels place (drop i ls)
one_more_label all place ls i below =
    rw (drop_more ls i [] below)
    (append_assoc all (record { query = place; label = get_or ls i [] } ∷ []) (under_labels place (drop (i + 1) ls)))

-- where there are few labels, they are counted exactly
few_counted : (T : Topology) (q : QueryTree) → length (labels T q) ≤ 1024 → counted (sizes_of T) q ≡ length (labels T q)
few_counted T q few = labels_counted T q ∙ omega (arith, few)

-- Queries of a document, by their places.

-- the queries that are left begin with the one at hand
opened : (qs : List (List ℕ × Query)) (place : ℕ) (d : List ℕ × Query) → place < length qs
    → named_trees (drop place qs) ≡ query_tree (get_or qs place d).1 ∷ named_trees (drop (place + 1) qs)
opened qs place d below = ap named_trees (drop_more qs place d below)

-- where the queries that are left have few labels, the one at hand and those after it have
pub few_left : (T : Topology) (qs : List (List ℕ × Query)) (place : ℕ) (d : List ℕ × Query) → place < length qs
    → label_sum T (named_trees (drop place qs)) ≤ 1024 → (length (labels T (query_tree (get_or qs place d).1)) ≤ 1024)
    × (label_sum T (named_trees (drop (place + 1) qs)) ≤ 1024)
few_left T qs place d below few =
    let own = query_tree (get_or qs place d).1 in
    let parts : label_sum T (named_trees (drop place qs)) ≡ length (labels T own) + label_sum T (named_trees (drop (place + 1) qs)) =
    ap (label_sum T) (opened qs place d below) ∙ sum_by-cons (λ r. length (labels T r)) own (named_trees (drop (place + 1) qs)) in
    (omega (arith, parts, few), omega (arith, parts, few))

-- lists of values that were made over the topology give the labels
pub lists_told : (T : Topology) (q : QueryTree) (datapaths ports : List ℕ) (lists : List (List ℕ))
    → datapaths ≡ ascending (datapath_numbers T) → ports ≡ ascending (port_numbers T) → lists ≡ on_query (with_values datapaths ports) q []
    → one_from_each lists ≡ labels T q
lists_told T q datapaths ports lists is_d is_p made = ap one_from_each (made ∙ ap₂ (λ d p. on_query (with_values d p) q []) is_d is_p) ∙ labels_made T q

-- one more query
pub one_more_query : (T : Topology) (qs : List (List ℕ × Query)) (place : ℕ) (d : List ℕ × Query) (all new whole : List Instance)
    (ls : List (List ℕ)) → place < length qs → ls ≡ labels T (query_tree (get_or qs place d).1) → new ≡ all ++ under_labels place ls
    → all ++ instances_from T place (named_trees (drop place qs)) ≡ whole
    → new ++ instances_from T (place + 1) (named_trees (drop (place + 1) qs)) ≡ whole
one_more_query T qs place d all new whole ls below told pushed so_far =
    let later = instances_from T (place + 1) (named_trees (drop (place + 1) qs)) in
    ap (λ l. l ++ later) (pushed ∙ ap (λ k. all ++ under_labels place k) told)
    ∙ (append_assoc all (under_labels place (labels T (query_tree (get_or qs place d).1))) later
    ∙ (ap (λ k. all ++ instances_from T place k) (sym (opened qs place d below)) ∙ so_far))

-- the count of all labels
pub sum_told : (T : Topology) (qs : List QueryTree) (s : Sizes) (n : ℕ) → s ≡ sizes_of T → n ≡ sum_counted s qs 0 → n ≡ capped (label_sum T qs)
sum_told T qs s n is count = count ∙ (ap (λ z. sum_counted z qs 0) is ∙ (sum_is T qs 0 ∙ ap capped (omega arith)))

-- the count of the labels of a query
pub count_told : (T : Topology) (q : QueryTree) (s : Sizes) (n : ℕ) → s ≡ sizes_of T → n ≡ counted s q → length (labels T q) ≤ 1024 → n ≡ length (labels T q)
count_told T q s n is count few = count ∙ (ap (λ z. counted z q) is ∙ few_counted T q few)

-- the queries of listed instances are among the document's
pub listed_below : (T : Topology) (qs : List (List ℕ × Query)) (all : List Instance) → all ≡ instances_of T (named_trees qs)
    → All (λ i. i.query < length qs) all
listed_below T qs all is =
    let as_many : length (named_trees qs) ≡ length qs = length-map qs (λ q. query_tree q.1) in
    rw is (All-weaker (λ (i : Instance). i.query < 0 + length (named_trees qs)) (λ i. i.query < length qs)
    (λ i lt. omega (arith, lt, as_many)) (instances_from T 0 (named_trees qs)) (instances_below T 0 (named_trees qs)))
