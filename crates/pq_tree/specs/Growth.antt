-- What the code keeps while it goes over marks. Only the clauses of private functions speak of it.
use Rattle.std.specs.Prelude.{ℕ, ◌-◌, List, [], ◌∷◌, ◌++◌, length, take, drop, map, reverse}
use Rattle.pq_term.specs.declared.token.Token.{Token as Head}
use Rattle.pq_grammar.specs.declared.symbol.Role.TheVariants.{Leaf, Spelled, Head as HeadRole, Lead}
use Rattle.pq_grammar.specs.declared.mark.Mark.{Mark}
use Rattle.pq_grammar.specs.declared.mark.Mark.TheVariants.{Token, Close}
use Rattle.pq_tree.specs.declared.growth.Opened.{Opened}
use Rattle.pq_tree.specs.declared.growth.Growing.{Growing}
use Rattle.pq_tree.specs.Trees.{nothing, Tree, forest, tree}

-- what has grown
pub record Growth : Type 0 where
  -- the trees that have an end, the last one last
  pub finished : List Tree
  -- the heads of those that have none, the last one first, each with the number of trees that are not below it
  pub opened : List Opened

-- nothing has grown
abbrev pub bare : Growth
bare = record { finished = []; opened = [] }

-- a tree with no children is the last one
abbrev pub with_leaf : Head → Growth → Growth
with_leaf head g = record { finished = g.finished ++ record { head = head; below = nothing } ∷ []; opened = g.opened }

-- a tree begins, which this many trees are not below
abbrev pub with_head : Head → ℕ → Growth → Growth
with_head head before g = record { finished = g.finished; opened = record { head = head; before = before } ∷ g.opened }

-- all trees but the first ones, this many, are the children of one
abbrev pub gathered : Opened → List Tree → List Tree
gathered o ts = take o.before ts ++ record { head = o.head; below = forest (drop o.before ts) } ∷ []

-- the tree that was opened last ends; where none is open, nothing happens
abbrev pub closed : List Opened → List Tree → Growth
closed [] ts = record { finished = ts; opened = [] }
closed (o ∷ os) ts = record { finished = gathered o ts; opened = os }

-- a mark more
abbrev pub step : Mark → Growth → Growth
step (Token Leaf x depth) g = with_leaf x.token g
step (Token Spelled x depth) g = g
step (Token HeadRole x depth) g = with_head x.token (length g.finished) g
step (Token Lead x depth) g = with_head x.token (length g.finished - 1) g
step Close g = closed g.opened g.finished

-- what has grown, as the code keeps it
abbrev pub growth : Growing → Growth
growth g = record { finished = map tree g.finished.items; opened = reverse g.opened.items }
