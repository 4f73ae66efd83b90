-- The plain data of expressions with operands.
use Rattle.std.proofs.Common.{◌≡◌, [], ◌∷◌, Vec, Box, Global, ap, sym, ◌∙◌}
use Rattle.pq_expr.specs.declared.expr.Expr as expr
use Rattle.pq_expr.specs.declared.expr.Expr.{Expr}
use Rattle.pq_expr.specs.declared.expr.Expr.TheOpen.{Expr-F}
use Rattle.pq_expr.specs.declared.expr.Expr.TheFolds.{fold-roll-Expr}
use Rattle.pq_expr.specs.declared.expr.Expr.TheVariants.{rolls-Cat, rolls-Or, rolls-And, rolls-Star}
use Rattle.pq_expr.specs.Expr.{ExprTree, InTurn, Either, Both, Repeated, exprs, expr_step, expr_tree, expr_trees}

pub tree_Cat : (es : Vec Expr Global) → expr_tree (expr.Cat es) ≡ record { top = InTurn; below = expr_trees es.items }
tree_Cat es = ap expr_tree (sym (rolls-Cat es)) ∙ fold-roll-Expr ExprTree expr_step (Expr-F.Cat es)

pub tree_Or : (es : Vec Expr Global) → expr_tree (expr.Or es) ≡ record { top = Either; below = expr_trees es.items }
tree_Or es = ap expr_tree (sym (rolls-Or es)) ∙ fold-roll-Expr ExprTree expr_step (Expr-F.Or es)

pub tree_And : (es : Vec Expr Global) → expr_tree (expr.And es) ≡ record { top = Both; below = expr_trees es.items }
tree_And es = ap expr_tree (sym (rolls-And es)) ∙ fold-roll-Expr ExprTree expr_step (Expr-F.And es)

pub tree_Star : (e : Box Expr Global) → expr_tree (expr.Star e) ≡ record { top = Repeated; below = exprs (expr_tree e.value ∷ []) }
tree_Star e = ap expr_tree (sym (rolls-Star e)) ∙ fold-roll-Expr ExprTree expr_step (Expr-F.Star e)
