-- The labels of queries, counted one query after another.
use Rattle.std.proofs.Common.{◌≡◌, ℕ, ◌+◌, ◌-◌, ◌^◌, ◌<◌, ◌≤◌, List, [], ◌∷◌, ◌++◌, length, map, take, get_or, ap, sym, ◌∙◌, arith}
use Rattle.std.specs.Prelude.{min, sum_by}
use Rattle.std.proofs.lemmas.List.{map_more}
use Rattle.std.proofs.lemmas.List.Sums.{sum_by_push}
use Rattle.pq_model.specs.Topology.{Topology}
use Rattle.pq_query.specs.declared.query.Query.{Query}
use Rattle.pq_query.specs.Instances.{label_sum, named_trees}
use Rattle.pq_query.specs.Labels.{labels}
use Rattle.pq_query.specs.Query.{QueryTree, query_tree}
use Rattle.pq_summary.proofs.Counted.{within_whole}

-- the labels so far, with those of one query more, are few
pub record Counts (T : Topology) (qs : List (List ℕ × Query)) (i n : ℕ) : Type 0 where
  pub few : label_sum T (named_trees (take i qs)) + n ≤ 1024
  pub more : label_sum T (named_trees (take i qs)) + n ≡ label_sum T (named_trees (take (i + 1) qs))

pub counts_one : (T : Topology) (qs : List (List ℕ × Query)) (i n : ℕ) (q : List ℕ × Query) → q ≡ get_or qs i q → i < length qs
    → label_sum T (named_trees qs) ≤ 1024 → n ≡ min (length (labels T (query_tree q.1))) (2 ^ 32 - 1) → Counts T qs i n
counts_one T qs i n q read below few counted =
    let tree : List ℕ × Query → QueryTree = λ (named : List ℕ × Query). query_tree named.1 in
    let size : QueryTree → ℕ = λ (t : QueryTree). length (labels T t) in
    let within = within_whole size tree qs i q read below in
    let longer : map tree (take (i + 1) qs) ≡ map tree (take i qs) ++ tree q ∷ [] =
    map_more tree qs i q below ∙ ap (λ (x : List ℕ × Query). map tree (take i qs) ++ tree x ∷ []) (sym read) in
    let sum : label_sum T (named_trees (take (i + 1) qs)) ≡ sum_by size (map tree (take i qs) ++ tree q ∷ []) = ap (sum_by size) longer in
    let exact : n ≡ size (tree q) = omega (arith, counted, within, few) in
    record {
      few = omega (arith, within, few, exact);
      more = omega (arith, sum, exact, sum_by_push size (map tree (take i qs)) (tree q));
    }
