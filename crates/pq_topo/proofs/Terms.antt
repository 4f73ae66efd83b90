-- The trees of the terms that a loop still has to read.
use Rattle.std.specs.Prelude.{◌≡◌, ℕ, suc, ◌+◌, ◌<◌, List, ◌∷◌, length, get_or}
use Rattle.std.proofs.Common.{drop, drop-cons, ap, sym, ◌∙◌, add-one}
use Rattle.pq_tree.specs.declared.term.Term.{Term}
use Rattle.pq_tree.specs.declared.term.Term.TheViews.{out-Term}
use Rattle.pq_tree.specs.Trees.{grown, Tree, trees}
use Rattle.pq_tree.proofs.Folds.{tree_out}

-- the first tree of a list
pub trees_first : (t : Term) (ts : List Term) → trees (t ∷ ts) ≡ grown (out-Term t).head (trees (out-Term t).children.now) (trees ts)
trees_first t ts = ap (λ (tree : Tree). grown tree.head tree.below (trees ts)) (tree_out t)

-- the first term that is left, and the terms after it
pub trees_left : (ts : List Term) (i : ℕ) (d : Term) → i < length ts
    → trees (drop i ts) ≡ grown (out-Term (get_or ts i d)).head (trees (out-Term (get_or ts i d)).children.now) (trees (drop (i + 1) ts))
trees_left ts i d below =
    let split : trees (drop i ts) ≡ trees (get_or ts i d ∷ drop (suc i) ts) = ap trees (drop-cons ts i d below) in
    let first = trees_first (get_or ts i d) (drop (suc i) ts) in
    split ∙ first ∙ ap (λ j. grown (out-Term (get_or ts i d)).head (trees (out-Term (get_or ts i d)).children.now) (trees (drop j ts))) (sym (add-one i))
