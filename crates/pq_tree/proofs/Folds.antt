-- The tree of a term, from its head and its children.
use Rattle.std.proofs.Common.{◌≡◌}
use Rattle.pq_tree.specs.declared.term.Term.{Term}
use Rattle.pq_tree.specs.declared.term.Term.TheOpen.{Term-F}
use Rattle.pq_tree.specs.declared.term.Term.TheViews.{out-Term, roll-Term}
use Rattle.pq_tree.specs.declared.term.Term.TheFolds.{fold-roll-Term, fold_out-Term}
use Rattle.pq_tree.specs.Trees.{Tree, tree_step, tree, trees}

-- the tree of a term that is built from its head and its children
pub tree_roll : (x : Term-F Term) → tree (roll-Term x) ≡ record { head = x.head; below = trees x.children.now }
tree_roll = fold-roll-Term Tree tree_step

-- the tree of a term that is taken apart
pub tree_out : (t : Term) → tree t ≡ record { head = (out-Term t).head; below = trees (out-Term t).children.now }
tree_out = fold_out-Term Tree tree_step
