use Rattle.std.proofs.Common.{inl, inr, sym, ◌∙◌}
use Rattle.pq_expr.specs.Expr.{expr_trees}
use Rattle.pq_expr.specs.Language.{languages}
use Rattle.pq_expr.proofs.Trees.{tree_Cat, tree_And}
use Rattle.pq_deriv.proofs.Turns.{turn_ends}
use Rattle.pq_deriv.proofs.empties.+empties.Goals as goal

pub holds_empty-returns-in-Cat : goal.holds_empty-returns-in-Cat
holds_empty-returns-in-Cat t c =
    let all = rw c.deref-in-Cat.ensures.value at c.all_hold_empty.ensures in
    let es = c.in-Cat.exprs in
    elim c.in-Cat.is [
      | inl is ↦ rw (is, tree_Cat es) (all ∙ sym (turn_ends (languages (expr_trees es.items))))
      | inr is ↦ rw (is, tree_And es) all
    ]
