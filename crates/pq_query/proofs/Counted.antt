-- Counts of labels and of values, group by group, are those of all lists.
use Rattle.std.proofs.Common.{◌≡◌, ℕ, zero, suc, ◌+◌, ◌*◌, ◌<◌, ◌≤◌, Ordering, Less, Equal, Greater, nat_cmp, ◌==◌, Bool, true, false}
use Rattle.std.proofs.Common.{if◌then◌else◌, List, [], ◌∷◌, ◌++◌, map, length, Option, Some, None, min, refl, sym, ap, ◌∙◌, arith, mul-suc}
use Rattle.std.proofs.Common.{mul_comm, mul_assoc, append_assoc, append-nil}
use Rattle.std.specs.Cmp.{ranks}
use Rattle.std.specs.Ordering.{MatchOrdering}
use Rattle.std.proofs.lemmas.List.Sums.{sum_by-cons}
use Rattle.pq_fields.specs.Packet.{rank}
use Rattle.pq_model.specs.Topology.{Topology}
use Rattle.pq_query.specs.Counts.{capped, on_groups, on_queries, on_query, sizes_of, value_count, times, counted, sum_counted, values_of, with_values}
use Rattle.pq_query.specs.Groups.{Group}
use Rattle.pq_query.specs.Instances.{label_sum}
use Rattle.pq_query.specs.Labels.{ascending, datapath_numbers, port_numbers, group_values, groups_of, labels, one_from_each, top_groups}
use Rattle.pq_query.specs.Query.{Queries, none, put, QueryTree, queries}
use Rattle.pq_query.proofs.OneFromEach.{each_length}

-- Groups of queries.

pub groups_append : {A : Type 0} (step : Group → A → A) (gs hs : List Group) (a : A) → on_groups step (gs ++ hs) a ≡ on_groups step hs (on_groups step gs a)
groups_append step [] hs a = refl
groups_append step (g ∷ gs) hs a = groups_append step gs hs (step g a)

groups_below : {A : Type 0} (step : Group → A → A) (qs : Queries) (a : A) → on_queries step qs a ≡ on_groups step (groups_of qs) a
groups_below step none a = refl
groups_below step (put top below rest) a =
    let own = on_groups step (top_groups top) a in
    let inner : on_queries step below own ≡ on_groups step (groups_of below) own = groups_below step below own in
    let outer : on_queries step rest (on_queries step below own) ≡ on_groups step (groups_of rest) (on_queries step below own) =
    groups_below step rest (on_queries step below own) in
    outer ∙ (ap (on_groups step (groups_of rest)) inner ∙ sym (groups_append step (top_groups top) (groups_of below ++ groups_of rest) a
    ∙ groups_append step (groups_of below) (groups_of rest) own))

-- Caps.

above : (a b : ℕ) → 4294967295 ≤ a → min (min a 4294967295 * b) 4294967295 ≡ min (a * b) 4294967295
above a zero big = grind arith
above a (suc b) big =
    let most : min a 4294967295 ≡ 4294967295 = omega (arith, big) in
    let more : a * suc b ≡ a * b + a = mul-suc a b in
    rw most (omega (arith, more, big))

capped_first : (a b : ℕ) → capped (capped a * b) ≡ capped (a * b)
capped_first a b = by (nat_cmp a 4294967295) (ranks a 4294967295)
  where
    by : (r : Ordering) → MatchOrdering r (a < 4294967295) (a ≡ 4294967295) (4294967295 < a) → capped (capped a * b) ≡ capped (a * b)
    by Less small = ap (λ n. capped (n * b)) (omega (arith, small))
    by Equal same = ap (λ n. capped (n * b)) (omega (arith, same))
    by Greater big = above a b (omega (arith, big))

capped_second : (a b : ℕ) → capped (a * capped b) ≡ capped (a * b)
capped_second a b = rw (mul_comm a (capped b), mul_comm a b) (capped_first b a)

-- Labels.

-- the lists of values of groups over a topology
abbrev lists_over : Topology → List Group → List (List ℕ)
lists_over T gs = map (λ g. ascending (group_values T g)) gs

values_counted : (T : Topology) (g : Group) → capped (value_count (sizes_of T) g) ≡ capped (length (ascending (group_values T g)))
values_counted T g = by g.values
  where
    listed : (b : Bool) → (if b then length (ascending (datapath_numbers T)) else length (ascending (port_numbers T)))
        ≡ length (ascending (if b then datapath_numbers T else port_numbers T))
    listed true = refl
    listed false = refl

    by : (vs : Option (List ℕ)) → capped (value_count (sizes_of T) (record { field = g.field; values = vs }))
        ≡ capped (length (ascending (group_values T (record { field = g.field; values = vs }))))
    by (Some ns) = omega arith
    by None = ap capped (listed (rank g.field == 0))

groups_counted : (T : Topology) (gs : List Group) (n : ℕ) → on_groups (times (sizes_of T)) gs (capped n) ≡ capped (n * length (one_from_each (lists_over T gs)))
groups_counted T [] n = ap capped (omega arith)
groups_counted T (g ∷ gs) n =
    let s = sizes_of T in
    let own = length (ascending (group_values T g)) in
    let later = length (one_from_each (lists_over T gs)) in
    let step : times s g (capped n) ≡ capped (n * own) =
    capped_first n (value_count s g) ∙ (sym (capped_second n (value_count s g)) ∙ (ap (λ k. capped (n * k)) (values_counted T g) ∙ capped_second n own)) in
    let product : length (one_from_each (lists_over T (g ∷ gs))) ≡ own * later = each_length (ascending (group_values T g)) (lists_over T gs) in
    ap (on_groups (times s) gs) step ∙ (groups_counted T gs (n * own) ∙ ap capped (mul_assoc n own later ∙ ap (λ k. n * k) (sym product)))

-- a query has this many labels
pub labels_counted : (T : Topology) (q : QueryTree) → counted (sizes_of T) q ≡ capped (length (labels T q))
labels_counted T q = groups_below (times (sizes_of T)) (queries (q ∷ [])) 1 ∙ (groups_counted T (groups_of (queries (q ∷ []))) 1 ∙ ap capped (omega arith))

-- queries have this many labels together
pub sum_is : (T : Topology) (qs : List QueryTree) (n : ℕ) → sum_counted (sizes_of T) qs (capped n) ≡ capped (n + label_sum T qs)
sum_is T [] n = ap capped (omega arith)
sum_is T (q ∷ qs) n =
    let step : capped (capped n + counted (sizes_of T) q) ≡ capped (n + length (labels T q)) = rw (labels_counted T q) (omega arith) in
    ap (sum_counted (sizes_of T) qs) step ∙ (sum_is T qs (n + length (labels T q)) ∙ ap capped (omega (arith, sum_by-cons (λ r. length (labels T r)) q qs)))

-- Values.

values_over : (T : Topology) (g : Group) → values_of (ascending (datapath_numbers T)) (ascending (port_numbers T)) g ≡ ascending (group_values T g)
values_over T g = by g.values
  where
    listed : (b : Bool) → (if b then ascending (datapath_numbers T) else ascending (port_numbers T))
        ≡ ascending (if b then datapath_numbers T else port_numbers T)
    listed true = refl
    listed false = refl

    by : (vs : Option (List ℕ))
        → values_of (ascending (datapath_numbers T)) (ascending (port_numbers T)) (record { field = g.field; values = vs })
        ≡ ascending (group_values T (record { field = g.field; values = vs }))
    by (Some ns) = refl
    by None = listed (rank g.field == 0)

lists_made : (T : Topology) (gs : List Group) (made : List (List ℕ))
    → on_groups (with_values (ascending (datapath_numbers T)) (ascending (port_numbers T))) gs made ≡ made ++ lists_over T gs
lists_made T [] made = sym (append-nil made)
lists_made T (g ∷ gs) made = rw (values_over T g) (lists_made T gs (made ++ ascending (group_values T g) ∷ [])
    ∙ append_assoc made (ascending (group_values T g) ∷ []) (lists_over T gs))

-- a query has these labels
pub labels_made : (T : Topology) (q : QueryTree)
    → one_from_each (on_query (with_values (ascending (datapath_numbers T)) (ascending (port_numbers T))) q []) ≡ labels T q
labels_made T q = ap one_from_each (groups_below (with_values (ascending (datapath_numbers T)) (ascending (port_numbers T)))
    (queries (q ∷ [])) [] ∙ lists_made T (groups_of (queries (q ∷ []))) [])
