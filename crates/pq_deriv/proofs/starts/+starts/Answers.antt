use Rattle.std.proofs.Common.{◌≡◌, ◌+◌, [], ◌∷◌, ◌++◌, length, drop, refl, IfOk, append_assoc, arith, sym, subst}
use Rattle.std.proofs.lemmas.List.{append-nil, drop_all}
use Rattle.std.proofs.lemmas.Result.{IfOk-weaker}
use Rattle.pq_lists.proofs.Places.{from_place}
use Rattle.pq_expr.specs.Expr.{InTurn, Repeated, exprs, expr_tree, expr_trees}
use Rattle.pq_expr.proofs.Trees.{tree_Or, tree_And, tree_Star}
use Rattle.pq_deriv.specs.Stepped.{AreStarts}
use Rattle.pq_deriv.proofs.Beginnings.{turn_begun, start_more, either_starts, both_start}
use Rattle.pq_deriv.specs.Choices.{IsOneOf}
use Rattle.pq_deriv.specs.Rests.{in_parts, top_rests, rests, all_rests}
use Rattle.pq_deriv.proofs.Shaped.{no_part, part_more, turn_shaped, repeated_fresh}
use Rattle.pq_deriv.proofs.starts.+starts.Goals as goal

pub start_each-loop-expr-preserved : goal.start_each-loop-expr-preserved
start_each-loop-expr-preserved t c =
    let es = c.args.exprs.now in
    let i = c.loop-expr.expr-index in
    let e = c.expr-item.result in
    let first = from_place es i e c.loop-expr-test.true c.expr-item.is in
    let r = c.in_ok-rest.rest.items in
    let pushed = rw c.deref.ensures.value at c.in_ok-push_part.ensures in (
      λ more starts. subst (AreStarts (expr_trees es)) (sym (rw pushed (append_assoc c.loop-expr.out.items (length r ∷ r) more)))
          (c.loop-expr.invariant.0 ((length r ∷ r) ++ more) (rw first (start_more e (drop (i + 1) es) r more c.in_ok-rest.ensures.left starts))),
      λ more are. subst (IsOneOf (in_parts (rests (expr_trees es)))) (sym (rw pushed (append_assoc c.loop-expr.out.items (length r ∷ r) more)))
          (c.loop-expr.invariant.1 ((length r ∷ r) ++ more)
          (rw first (part_more (all_rests (expr_tree e)) (rests (expr_trees (drop (i + 1) es))) r more c.in_ok-rest.ensures.rest are))),
    )

pub start_each-returns-clause-left : goal.start_each-returns-clause-left
start_each-returns-clause-left t c =
    subst (AreStarts (expr_trees c.args.exprs.now)) (append-nil c.loop-expr.out.items)
    (c.loop-expr.invariant.0 [] (rw (drop_all c.loop-expr.expr-index c.args.exprs.now c.loop-expr-test.false) (λ w. refl)))

pub start_each-returns-clause-rest : goal.start_each-returns-clause-rest
start_each-returns-clause-rest t c =
    subst (IsOneOf (in_parts (rests (expr_trees c.args.exprs.now)))) (append-nil c.loop-expr.out.items)
    (c.loop-expr.invariant.1 [] (rw (drop_all c.loop-expr.expr-index c.args.exprs.now c.loop-expr-test.false) no_part))

pub start_rest-returns-in-Or-clause-left : goal.start_rest-returns-in-Or-clause-left
start_rest-returns-in-Or-clause-left t c =
    rw (c.in-Or.is, tree_Or c.in-Or.exprs)
    (IfOk-weaker c.start_each.result (λ r. AreStarts (expr_trees c.in-Or.exprs.items) r.items) _
    (λ r. either_starts (expr_trees c.in-Or.exprs.items) r.items) (rw c.deref-in-Or.ensures.value at c.start_each.ensures.left))

pub start_rest-returns-in-Or-clause-rest : goal.start_rest-returns-in-Or-clause-rest
start_rest-returns-in-Or-clause-rest t c = rw (c.in-Or.is, tree_Or c.in-Or.exprs) (rw c.deref-in-Or.ensures.value at c.start_each.ensures.rest)

pub start_rest-returns-in-And-clause-left : goal.start_rest-returns-in-And-clause-left
start_rest-returns-in-And-clause-left t c =
    rw (c.in-And.is, tree_And c.in-And.exprs)
    (IfOk-weaker c.start_each-in-And.result (λ r. AreStarts (expr_trees c.in-And.exprs.items) r.items) _
    (λ r. both_start (expr_trees c.in-And.exprs.items) r.items) (rw c.deref-in-And.ensures.value at c.start_each-in-And.ensures.left))

pub start_rest-returns-in-And-clause-rest : goal.start_rest-returns-in-And-clause-rest
start_rest-returns-in-And-clause-rest t c = rw (c.in-And.is, tree_And c.in-And.exprs) (rw c.deref-in-And.ensures.value at c.start_each-in-And.ensures.rest)

pub start_turn-returns-clause-left : goal.start_turn-returns-clause-left
start_turn-returns-clause-left t c =
    let es = c.args.exprs.now in
    let r = c.in_ok-start.start.items in
    let is : IfOk c.begun.result (λ b. b.items ≡ (0 ∷ length (1 ∷ length r ∷ r) ∷ 1 ∷ length r ∷ r)) = rw c.deref.ensures.value at c.begun.ensures in
    IfOk-weaker c.begun.result (λ b. b.items ≡ (0 ∷ length (1 ∷ length r ∷ r) ∷ 1 ∷ length r ∷ r)) _
    (λ b is w. rw is (turn_begun es c.first-item.result r (omega (arith, c.in-len1-up.len_at_least)) c.first-item.is c.in_ok-start.ensures.left w)) is

pub start_turn-returns-clause-rest : goal.start_turn-returns-clause-rest
start_turn-returns-clause-rest t c =
    let es = c.args.exprs.now in
    let r = c.in_ok-start.start.items in
    let is : IfOk c.begun.result (λ b. b.items ≡ (0 ∷ length (1 ∷ length r ∷ r) ∷ 1 ∷ length r ∷ r)) = rw c.deref.ensures.value at c.begun.ensures in
    IfOk-weaker c.begun.result (λ b. b.items ≡ (0 ∷ length (1 ∷ length r ∷ r) ∷ 1 ∷ length r ∷ r)) _
    (λ b is. subst (IsOneOf (top_rests InTurn (rests (expr_trees es)))) (sym is)
    (turn_shaped es c.first-item.result r (omega (arith, c.in-len1-up.len_at_least)) c.first-item.is c.in_ok-start.ensures.rest)) is

pub start_rest-returns-in-Star-clause-rest : goal.start_rest-returns-in-Star-clause-rest
start_rest-returns-in-Star-clause-rest t c =
    let e = c.in-Star.field-0 in
    rw (c.in-Star.is, tree_Star e)
    (IfOk-weaker c.one_number-in-Star.result (λ r. r.items ≡ 1 ∷ []) _
    (λ r is. subst (IsOneOf (top_rests Repeated (rests (exprs (expr_tree e.value ∷ []))))) (sym is)
    (repeated_fresh (rests (exprs (expr_tree e.value ∷ []))))) c.one_number-in-Star.ensures)
