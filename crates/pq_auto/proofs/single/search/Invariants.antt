use Rattle.std.proofs.Common.{◌≡◌, ◌+◌, ◌*◌, ◌^◌, ◌-◌, length, map}
use Rattle.pq_expr.specs.Expr.{expr_tree}
use Rattle.pq_auto.specs.Rests.{after, rests, whole, AreAlike, AreRestsOf}
use Rattle.pq_auto.specs.Searched.{IsSearched}
use Rattle.pq_auto.specs.Tables.{lists}
use Rattle.pq_auto.proofs.single.search.Given as goal

abbrev pub invariant-states : goal.invariant-states
invariant-states g l = record {
  searched : IsSearched (after (map (λ v. v.items) l.alphabet)) (whole (expr_tree l.expr)) (length l.alphabet) (rests l.states.keys) (lists l.rows.items);
  alike : AreAlike l.states.keys;
  own : AreRestsOf (expr_tree l.expr) l.states.keys;
  counted : l.steps ≡ l.fn.steps + length l.rows.items * length l.alphabet;
}

abbrev pub decreases-states : goal.decreases-states
decreases-states g l = 2 ^ 64 - length l.rows.items
