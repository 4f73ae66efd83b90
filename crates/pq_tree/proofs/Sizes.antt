-- There are at most as many trees as tokens.
use Rattle.std.proofs.Common.{◌≡◌, ◌+◌, ◌≤◌, ℕ, suc, List, [], ◌∷◌, ◌++◌, length, refl, arith}
use Rattle.pq_grammar.specs.declared.mark.Mark.{Mark}
use Rattle.pq_grammar.specs.declared.mark.Mark.TheVariants.{Token as TokenMark, Close}
use Rattle.pq_grammar.specs.declared.symbol.Role.TheVariants.{Leaf, Spelled, Head, Lead}
use Rattle.pq_grammar.specs.Sentences.{tokens}
use Rattle.pq_tree.specs.Trees.{Forest, nothing, grown, Tree, forest}
use Rattle.pq_tree.specs.Shapes.{Makes, none, leaf, spelled, head, lead, tree_over}

-- how many trees there are, with those below them
abbrev pub nodes : Forest → ℕ
nodes nothing = 0
nodes (grown t below rest) = suc (nodes below + nodes rest)

-- the trees of a list, with those below them
abbrev sizes : List Tree → ℕ
sizes [] = 0
sizes (t ∷ ts) = suc (nodes t.below + sizes ts)

-- those of their forest
sizes_forest : (ts : List Tree) → nodes (forest ts) ≡ sizes ts
sizes_forest [] = refl
sizes_forest (t ∷ ts) = let more = sizes_forest ts in omega (arith, more)

-- trees after others
sizes_append : (ts us : List Tree) → sizes (ts ++ us) ≡ sizes ts + sizes us
sizes_append [] us = omega arith
sizes_append (t ∷ ts) us = let more = sizes_append ts us in omega (arith, more)

-- a mark makes at most one node of its token
abbrev pub tokens_in : List Mark → ℕ
tokens_in ms = length (tokens ms)

-- marks after others
tokens_append : (ms ns : List Mark) → tokens_in (ms ++ ns) ≡ tokens_in ms + tokens_in ns
tokens_append [] ns = omega arith
tokens_append (TokenMark role x depth ∷ ms) ns = let more = tokens_append ms ns in omega (arith, more)
tokens_append (Close ∷ ms) ns = tokens_append ms ns

-- a head, the marks below it and its end, after others
tokens_below : (ms below : List Mark) (m : Mark) → tokens_in (ms ++ m ∷ below ++ Close ∷ []) ≡ tokens_in ms + tokens_in (m ∷ below)
tokens_below ms below m =
    let all = tokens_append (ms ++ m ∷ below) (Close ∷ []) in
    let front = tokens_append ms (m ∷ below) in
    omega (arith, all, front)

-- so it is with the trees that marks make
made_size : {ms : List Mark} {ts : List Tree} → Makes ms ts → sizes ts ≤ tokens_in ms
made_size none = omega arith
made_size (leaf ms ts x depth made) =
    let less = made_size made in
    let trees = sizes_append ts (tree_over x [] ∷ []) in
    let marks = tokens_append ms (TokenMark Leaf x depth ∷ []) in
    omega (arith, less, trees, marks)
made_size (spelled ms ts x depth made) =
    let less = made_size made in let marks = tokens_append ms (TokenMark Spelled x depth ∷ []) in omega (arith, less, marks)
made_size (head ms below ts us x depth made inner) =
    let less = made_size made in
    let fewer = made_size inner in
    let trees = sizes_append ts (tree_over x us ∷ []) in
    let children = sizes_forest us in
    let marks = tokens_below ms below (TokenMark Head x depth) in
    omega (arith, less, fewer, trees, children, marks)
made_size (lead ms below ts us t x depth made inner) =
    let less = made_size made in
    let fewer = made_size inner in
    let front = sizes_append ts (t ∷ []) in
    let trees = sizes_append ts (tree_over x (t ∷ us) ∷ []) in
    let children = sizes_forest us in
    let marks = tokens_below ms below (TokenMark Lead x depth) in
    omega (arith, less, fewer, front, trees, children, marks)

-- and with their forest
pub forest_size : (ms : List Mark) (ts : List Tree) → Makes ms ts → nodes (forest ts) ≤ tokens_in ms
forest_size ms ts made = let same = sizes_forest ts in let most = made_size made in omega (arith, same, most)
