-- What is below a tree.
use Rattle.std.proofs.Common.{◌≡◌, ◌≤◌, true, List, [], ◌∷◌, length, refl, arith}
use Rattle.pq_tree.specs.declared.term.Term.{Term}
use Rattle.pq_tree.specs.Trees.{trees}
use Rattle.pq_query.specs.Resolved.{has_values}

-- a list that has a term gives a tree
pub some_below : (ts : List Term) → 1 ≤ length ts → true ≡ has_values (trees ts)
some_below [] few = absurd (omega (arith, few))
some_below (t ∷ ts) few = refl
