-- Operands that are pushed one after another.
use Rattle.std.proofs.Common.{◌≡◌, ◌∙◌, List, [], ◌∷◌, ◌++◌, map, ap, ap₂}
use Rattle.std.proofs.lemmas.List.{map-append}
use Rattle.pq_query.specs.declared.query.Query.{Query}
use Rattle.pq_query.specs.Query.{QueryTree, query_tree}

-- the trees of some queries and one more
pub one_more : (qs all : List Query) (q : Query) (ts : List QueryTree) (t : QueryTree) → all ≡ qs ++ q ∷ [] → map query_tree qs ≡ ts
    → query_tree q ≡ t → map query_tree all ≡ ts ++ t ∷ []
one_more qs all q ts t pushed before last = ap (map query_tree) pushed ∙ (map-append query_tree qs (q ∷ []) ∙ ap₂ (λ us u. us ++ u ∷ []) before last)
