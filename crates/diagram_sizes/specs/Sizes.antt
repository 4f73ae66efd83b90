-- The sizes of a diagram and of the store in which it was built.
use Rattle.std.specs.Prelude.{ℕ, ◌≡◌, Bool, List, [], ◌∷◌, length}
use Rattle.pq_fields.specs.Pred.{PredTree}
use Rattle.pq_store.specs.Tree.{Tree}
use Rattle.pq_store.specs.Compaction.{IsCompaction}
use Rattle.pq_apply.specs.Predicates.{HoldsAt}
use Rattle.diagram_sizes.specs.declared.sizes.Sizes.{Sizes}

-- the sizes of a store that has the predicate's diagram at its root, and of the part that is under the root
pub record AreSizes (p : PredTree) (sizes : Sizes) : Type 0 where
  pub store : List (Tree Bool)
  pub root : ℕ
  pub holds : HoldsAt p store root
  pub store_is : sizes.store ≡ length store
  pub diagram : List (Tree Bool)
  pub ids : List ℕ
  pub part : IsCompaction store (root ∷ []) diagram ids
  pub diagram_is : sizes.diagram ≡ length diagram
