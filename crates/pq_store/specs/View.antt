-- What a view of a node shows.
use Rattle.std.specs.Prelude.{ℕ, ◌≡◌, List, Some, slice_get}
use Rattle.pq_store.specs.declared.view.View.{View}
use Rattle.pq_store.specs.declared.view.View.TheVariants.{Leaf, Node}
use Rattle.pq_store.specs.Tree.{Tree}
use Rattle.pq_store.specs.Tree.Tree.{Tip}
use Rattle.pq_store.specs.Store.{ShowsBranch}

-- the tree at a place is the leaf that is shown, or a fork of the trees at the places that are shown
abbrev pub Shows : {L : Type 0} → List (Tree L) → ℕ → View L → Type 0
Shows ts k (Leaf l) = slice_get ts k ≡ Some (Tip l.now)
Shows ts k (Node test i j) = ShowsBranch ts k test i j
