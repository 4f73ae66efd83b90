-- The expressions of instances, over a list of predicates that hold of packets.
use Rattle.std.specs.Prelude.{◌≡◌, ◌↔◌, ◌≤◌, true, List, length, Some, slice_get}
use Rattle.std.specs.List.{AllZip, Contains}
use Rattle.pq_fields.specs.Pred.{PredTree}
use Rattle.pq_model.specs.Buckets.{Instance}
use Rattle.pq_model.specs.Word.{Word, is_word}
use Rattle.pq_query.specs.Language.{lang}
use Rattle.pq_query.specs.Query.{QueryTree}
use Rattle.pq_expr.specs.Expr.{ExprTree, bound}
use Rattle.pq_expr.specs.Language.{holds}
use Rattle.pq_lower.specs.Added.{added_preds}
use Rattle.pq_lower.specs.HalfSteps.{half_steps}

-- the expression holds the half steps of a word exactly where the instance's query holds the word under its label
pub record IsLowered (qs : List QueryTree) (ps : List PredTree) (i : Instance) (e : ExprTree) : Type 0 where
  pub few : bound e ≤ length ps
  pub language : (q : QueryTree) → slice_get qs i.query ≡ Some q → (w : Word) → is_word w ≡ true → lang q i.label w ↔ (holds e (half_steps ps w) ≡ true)

abbrev pub AreLowered : List QueryTree → List PredTree → List Instance → List ExprTree → Type 0
AreLowered qs ps is es = AllZip (IsLowered qs ps) is es

-- the predicate is one that an instance needs
pub record IsAdded (qs : List QueryTree) (is : List Instance) (p : PredTree) : Type 0 where
  pub instance : Instance
  pub listed : Contains is instance
  pub query : QueryTree
  pub asked : slice_get qs instance.query ≡ Some query
  pub added : Contains (added_preds query instance.label) p
