-- What is left of an expression after a word.
use Rattle.std.specs.Prelude.{ℕ, List}
use Rattle.pq_expr.specs.declared.expr.Expr.{Expr}
use Rattle.pq_expr.specs.Expr.{expr_tree}
use Rattle.pq_expr.specs.Language.{Language}
use Rattle.pq_deriv.specs.Left.{left}

-- an expression, and its rest
pub record StateValue : Type 0 where
  pub expr : Expr
  pub rest : List ℕ

-- the words that the state accepts
abbrev pub accepted : StateValue → Language
accepted s = left (expr_tree s.expr) s.rest
