use Rattle.std.proofs.Common.{◌≡◌, ◌+◌, ◌-◌, [], ◌∷◌, length, drop, refl, sym, ◌∙◌, arith}
use Rattle.pq_lists.proofs.Places.{from_place}
use Rattle.pq_expr.specs.Expr.{expr_tree, expr_trees}
use Rattle.pq_expr.proofs.Trees.{tree_Cat, tree_Or, tree_And}
use Rattle.pq_expr.specs.Language.{holds, languages}
use Rattle.pq_deriv.specs.Parts.{members, spread, first_set, behind_set}
use Rattle.pq_deriv.specs.Left.{left, lefts, turn_left}
use Rattle.pq_deriv.proofs.Reading.{parts_more}
use Rattle.pq_deriv.proofs.Idle.{ends_idle, ends_over, turn_is}
use Rattle.pq_deriv.proofs.Spread.{spread_gap}
use Rattle.pq_deriv.proofs.Turns.{turn_passed}
use Rattle.pq_deriv.proofs.ends.+ends.Goals as goal

pub ends-returns-in-Cat : goal.ends-returns-in-Cat
ends-returns-in-Cat t c = rw (c.in-Cat.is, tree_Cat c.in-Cat.exprs) (rw c.deref.ensures.value at c.turn_ends.ensures)

pub ends-returns-in-Or : goal.ends-returns-in-Or
ends-returns-in-Or t c = rw (c.in-Or.is, tree_Or c.in-Or.exprs) (rw c.deref-in-Or.ensures.value at c.one_ends.ensures)

pub ends-returns-in-And : goal.ends-returns-in-And
ends-returns-in-And t c = rw (c.in-And.is, tree_And c.in-And.exprs) (rw c.deref-in-And.ensures.value at c.all_end.ensures)

pub member_ends-loop-more-preserved : goal.member_ends-loop-more-preserved
member_ends-loop-more-preserved t c =
    let before = rw (parts_more c.loop-more.more c.loop-more.left.now (omega arith)) at c.loop-more.invariant in
    let ends = rw (c.split_part.ensures.part, c.if-ends.false) at c.ends.ensures in
    rw c.split_part.ensures.behind (rw (← ends) at before)

pub turn_ends-operands-init : goal.turn_ends-operands-init
turn_ends-operands-init t c =
    rw (
      c.split_gap-gap.ensures.gap,
      c.split_gap-gap.ensures.behind,
      spread_gap (length (languages (expr_trees c.args.exprs.now))) c.args.rest.now,
    ) refl

pub turn_ends-returns-then-place-exprs : goal.turn_ends-returns-then-place-exprs
turn_ends-returns-then-place-exprs t c =
    let es = c.args.exprs.now in
    let skip = c.idle-skip.result in
    let passed = ends_idle c.operands.begins c.operands.place skip c.operands.gap c.operands.left.now es
    (omega (arith, c.idle-skip.ensures.few)) c.idle-skip.ensures.begins c.idle-skip.ensures.empty in
    turn_is es c.args.rest.now (sym c.is_empty.ensures ∙ c.if-is_empty.false) c.operands.begins
    (sym (ends_over c.operands.begins (c.operands.place + skip) es ((c.operands.gap - skip) ∷ c.operands.left.now) c.if-place-exprs.true)
    ∙ passed ∙ c.operands.invariant)

pub turn_ends-operands-preserved : goal.turn_ends-operands-preserved
turn_ends-operands-preserved t c =
    let es = c.args.exprs.now in
    let skip = c.idle-skip.result in
    let i = c.operands.place + skip in
    let e = c.index-exprs-place.result in
    let later = expr_trees (drop (i + 1) es) in
    let less : c.saturating_sub.result ≡ c.operands.gap - skip = c.saturating_sub.ensures in
    let r = c.saturating_sub.result ∷ c.operands.left.now in
    let first = from_place es i e (omega (arith, c.if-place-exprs.false)) c.index-exprs-place.is in
    let passed = ends_idle c.operands.begins c.operands.place skip c.operands.gap c.operands.left.now es
    (omega (arith, c.idle-skip.ensures.few)) c.idle-skip.ensures.begins c.idle-skip.ensures.empty in
    let before = rw (← less, first) at (passed ∙ c.operands.invariant) in
    let passes = rw c.split_set-next_gap.ensures.set at c.passes-begins.ensures in
    rw (passes, c.split_set-next_gap.ensures.gap, c.split_set-next_gap.ensures.behind, spread_gap (length (languages later)) (behind_set r))
    (turn_passed c.operands.begins (holds (expr_tree e)) (languages later) (left (expr_tree e)) (members (first_set r))
    (turn_left (languages later) (lefts later) (spread (length (languages later)) (behind_set r)) []) ∙ before)
