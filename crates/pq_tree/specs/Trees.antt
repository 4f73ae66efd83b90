-- Trees as plain data, whatever memory they lie in.
use Rattle.std.specs.Prelude.{List, [], ◌∷◌, map}
use Rattle.pq_term.specs.declared.token.Token.{Token}
use Rattle.pq_tree.specs.declared.term.Term.{Term}
use Rattle.pq_tree.specs.declared.term.Term.TheOpen.{Term-F}
use Rattle.pq_tree.specs.declared.term.Term.TheFolds.{fold-Term}

-- trees one after another: none; or the head of the first one, the trees below it, and the trees after it
pub data Forest : Type 0 where
  nothing : Forest
  grown : Token → Forest → Forest → Forest

-- a tree: its head, and the trees below it
pub record Tree : Type 0 where
  pub head : Token
  pub below : Forest

-- the trees of a list
abbrev pub forest : List Tree → Forest
forest [] = nothing
forest (t ∷ ts) = grown t.head t.below (forest ts)

-- the tree of a term, from those of its children
abbrev pub tree_step : Term-F Tree → Tree
tree_step t = record { head = t.head; below = forest t.children.now }

-- the tree of a term
abbrev pub tree : Term → Tree
tree = fold-Term Tree tree_step

-- the trees of terms
abbrev pub trees : List Term → Forest
trees ts = forest (map tree ts)
