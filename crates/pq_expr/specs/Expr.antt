-- Expressions over half steps, as plain data.
use Rattle.std.specs.Prelude.{ℕ, suc, max, ◌≢◌, List, [], ◌∷◌, map}
use Rattle.pq_expr.specs.declared.expr.Expr.{Expr}
use Rattle.pq_expr.specs.declared.expr.Expr.TheOpen.{Expr-F}
use Rattle.pq_expr.specs.declared.expr.Expr.TheFolds.{fold-Expr}

-- what is at the top of an expression: no word, the empty word, a half step of which a predicate holds, or an operator
pub data ExprTop : Type 0 where
  NoWord : ExprTop
  EmptyWord : ExprTop
  Enters : ℕ → ExprTop
  Leaves : ℕ → ExprTop
  InTurn : ExprTop
  Either : ExprTop
  Both : ExprTop
  Other : ExprTop
  Repeated : ExprTop

-- expressions: the top of the first, its operands, and the expressions after it
pub data Exprs : Type 0 where
  none : Exprs
  put : ExprTop → Exprs → Exprs → Exprs

-- an expression
pub record ExprTree : Type 0 where
  pub top : ExprTop
  pub below : Exprs

-- expressions one after another
abbrev pub exprs : List ExprTree → Exprs
exprs [] = none
exprs (e ∷ es) = put e.top e.below (exprs es)

abbrev pub leaf : ExprTop → ExprTree
leaf top = record { top = top; below = none }

abbrev pub expr_step : Expr-F ExprTree → ExprTree
expr_step Expr-F.Nothing = leaf NoWord
expr_step Expr-F.Empty = leaf EmptyWord
expr_step (Expr-F.In p) = leaf (Enters p)
expr_step (Expr-F.Out p) = leaf (Leaves p)
expr_step (Expr-F.Cat es) = record { top = InTurn; below = exprs es.items }
expr_step (Expr-F.Or es) = record { top = Either; below = exprs es.items }
expr_step (Expr-F.And es) = record { top = Both; below = exprs es.items }
expr_step (Expr-F.Not e) = record { top = Other; below = exprs (e.value ∷ []) }
expr_step (Expr-F.Star e) = record { top = Repeated; below = exprs (e.value ∷ []) }

-- an expression as plain data
abbrev pub expr_tree : Expr → ExprTree
expr_tree = fold-Expr ExprTree expr_step

abbrev pub expr_trees : List Expr → Exprs
expr_trees es = exprs (map expr_tree es)

-- one more than the predicate number at the top, 0 where there is none
abbrev pub top_bound : ExprTop → ℕ
top_bound NoWord = 0
top_bound EmptyWord = 0
top_bound (Enters p) = suc p
top_bound (Leaves p) = suc p
top_bound InTurn = 0
top_bound Either = 0
top_bound Both = 0
top_bound Other = 0
top_bound Repeated = 0

-- one more than the greatest predicate number in the expressions, 0 where there is none
abbrev pub bounds : Exprs → ℕ
bounds none = 0
bounds (put top below rest) = max (max (top_bound top) (bounds below)) (bounds rest)

abbrev pub bound : ExprTree → ℕ
bound e = bounds (exprs (e ∷ []))

-- the operator has operands
abbrev pub HasOperands : ExprTop → Exprs → Type 0
HasOperands NoWord below = Unit {0}
HasOperands EmptyWord below = Unit {0}
HasOperands (Enters p) below = Unit {0}
HasOperands (Leaves p) below = Unit {0}
HasOperands InTurn below = below ≢ none
HasOperands Either below = below ≢ none
HasOperands Both below = below ≢ none
HasOperands Other below = below ≢ none
HasOperands Repeated below = below ≢ none

-- no list of operands is empty
abbrev pub AreLawful : Exprs → Type 0
AreLawful none = Unit {0}
AreLawful (put top below rest) = HasOperands top below × AreLawful below × AreLawful rest

abbrev pub IsLawful : ExprTree → Type 0
IsLawful e = AreLawful (exprs (e ∷ []))
