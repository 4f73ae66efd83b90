-- The languages of instances.
use Rattle.std.specs.Prelude.{◌≡◌, ℕ, List, Some, slice_get}
use Rattle.pq_model.specs.Buckets.{Instance}
use Rattle.pq_model.specs.Word.{Word}
use Rattle.pq_query.specs.Language.{lang}
use Rattle.pq_query.specs.Query.{QueryTree}

-- the query of the instance with this number, among these queries and instances, holds the word under the instance's label
pub record IsHeld (qs : List QueryTree) (is : List Instance) (i : ℕ) (w : Word) : Type 0 where
  pub instance : Instance
  pub at : slice_get is i ≡ Some instance
  pub query : QueryTree
  pub asked : slice_get qs instance.query ≡ Some query
  pub holds : lang query instance.label w
