-- Atoms of queries are counted one query after another.
use Rattle.std.proofs.Common.{ℕ, suc, ◌+◌, ◌<◌, ◌≤◌, ◌≡◌, ◌∙◌, List, ◌∷◌, length, map, drop, get_or, drop-cons, sym, ap, subst, arith}
use Rattle.pq_query.specs.declared.query.Query.{Query}
use Rattle.pq_query.specs.Query.{QueryTree, queries, query_tree}
use Rattle.pq_query.specs.Atoms.{atoms, query_atoms}

-- the atoms of queries are those of the first and of the rest
regroup : (all count : ℕ) (q : QueryTree) (qs : List QueryTree) → all ≤ count + atoms (queries (q ∷ qs)) → all ≤ count + (query_atoms q + atoms (queries qs))
regroup all count q qs h = omega (arith, h)

-- the atoms of the first of the queries that are left are counted
pub one_counted : (all count more i : ℕ) (qs : List Query) (q : Query) → i < length qs → q ≡ get_or qs i q
    → all ≤ count + atoms (queries (map query_tree (drop i qs))) → query_atoms (query_tree q) ≤ more
    → all ≤ (count + more) + atoms (queries (map query_tree (drop (i + 1) qs)))
one_counted all count more i qs q there is so_far fits =
    let next : suc i ≡ i + 1 = omega arith in
    let first : drop i qs ≡ q ∷ drop (i + 1) qs =
    drop-cons qs i q there ∙ ap {A = Query} {B = List Query} (λ z. z ∷ drop (suc i) qs) (sym is) ∙ ap {A = ℕ} {B = List Query} (λ k. q ∷ drop k qs) next in
    let split : all ≤ count + (query_atoms (query_tree q) + atoms (queries (map query_tree (drop (i + 1) qs)))) =
    regroup all count (query_tree q) (map query_tree (drop (i + 1) qs)) (subst (λ z. all ≤ count + atoms (queries (map query_tree z))) first so_far) in
    omega (arith, split, fits)
