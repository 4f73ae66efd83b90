-- The trees that marks make, by the shape of the trees.
use Rattle.std.specs.Prelude.{ℕ, List, [], ◌∷◌, ◌++◌}
use Rattle.pq_grammar.specs.declared.symbol.Role.TheVariants.{Leaf, Spelled, Head, Lead}
use Rattle.pq_grammar.specs.declared.mark.Lexeme.{Lexeme}
use Rattle.pq_grammar.specs.declared.mark.Mark.{Mark}
use Rattle.pq_grammar.specs.declared.mark.Mark.TheVariants.{Token, Close}
use Rattle.pq_tree.specs.Trees.{Tree, forest}

-- the token is the head of a tree, and these are the trees below it
abbrev pub tree_over : Lexeme → List Tree → Tree
tree_over x below = record { head = x.token; below = forest below }

-- the marks make the trees, the last one last
pub data Makes : List Mark → List Tree → Type 0 where
  -- no mark makes no tree
  none : Makes [] []
  -- a leaf is its token
  leaf : (ms : List Mark) (ts : List Tree) (x : Lexeme) (depth : ℕ) → Makes ms ts → Makes (ms ++ Token Leaf x depth ∷ []) (ts ++ tree_over x [] ∷ [])
  -- a token that is only spelled makes no tree
  spelled : (ms : List Mark) (ts : List Tree) (x : Lexeme) (depth : ℕ) → Makes ms ts → Makes (ms ++ Token Spelled x depth ∷ []) ts
  -- a tree is its head, the marks of its children, and `Close`
  head : (ms below : List Mark) (ts us : List Tree) (x : Lexeme) (depth : ℕ) → Makes ms ts → Makes below us
      → Makes (ms ++ Token Head x depth ∷ below ++ Close ∷ []) (ts ++ tree_over x us ∷ [])
  -- a head that leads takes the tree before it as its first child
  lead : (ms below : List Mark) (ts us : List Tree) (t : Tree) (x : Lexeme) (depth : ℕ) → Makes ms (ts ++ t ∷ []) → Makes below us
      → Makes (ms ++ Token Lead x depth ∷ below ++ Close ∷ []) (ts ++ tree_over x (t ∷ us) ∷ [])

-- the marks make some trees
abbrev pub MakesSome : List Mark → Type 0
MakesSome ms = (ts : List Tree) × Makes ms ts
