use Rattle.std.proofs.Common.{◌≡◌, ℕ, Vec, Global, List, ◌≤◌, ◌+◌, ◌-◌, [], ◌∷◌, ◌++◌, length, map, drop, refl, false, append_assoc, arith, sym, subst, ◌∙◌}
use Rattle.std.proofs.lemmas.List.{append-nil, drop_all}
use Rattle.std.proofs.lemmas.Result.{IfOk-weaker}
use Rattle.pq_lists.proofs.Places.{from_place}
use Rattle.pq_expr.specs.Word.{HalfStep}
use Rattle.pq_expr.specs.Expr.{InTurn, Repeated, expr_tree, expr_trees}
use Rattle.pq_expr.proofs.Trees.{tree_Cat, tree_Or, tree_And, tree_Star}
use Rattle.pq_deriv.specs.Parts.{parts, members, set_of, first_part, behind_part, set_before, behind_set}
use Rattle.pq_deriv.proofs.Spread.{wide_none}
use Rattle.pq_deriv.specs.Left.{left}
use Rattle.pq_deriv.specs.Stepped.{AreStepped, AreSetsStepped}
use Rattle.pq_deriv.proofs.Reading.{parts_more, members_front}
use Rattle.pq_deriv.proofs.Letters.{member_more, set_kept, set_begun, turn_more, turn_over, turn_whole, sets_whole, idle_left, rest_more}
use Rattle.pq_deriv.proofs.Letters.{either_steps, both_step, repetition_steps}
use Rattle.pq_deriv.specs.Choices.{IsOneOf}
use Rattle.pq_deriv.specs.Rests.{sets, in_parts, in_sets, top_rests, rests, all_rests}
use Rattle.pq_deriv.proofs.Rests.{one_set}
use Rattle.pq_deriv.proofs.Shaped.{no_part, part_more, no_set, set_more, idle_before, no_members, turn_none, turn_some, repeated_begun, repeated_over}
use Rattle.pq_deriv.proofs.steps.+steps.Goals as goal

pub step_each-loop-expr-preserved : goal.step_each-loop-expr-preserved
step_each-loop-expr-preserved t c =
    let es = c.args.exprs.now in
    let i = c.loop-expr.expr-index in
    let e = c.expr-item.result in
    let l : HalfStep = record { side = c.args.side; truth = c.args.signature.now } in
    let first = from_place es i e c.loop-expr-test.true c.expr-item.is in
    let r = c.in_ok-stepped.stepped.items in
    let pushed = rw c.deref.ensures.value at c.in_ok-push_part.ensures in
    let steps = rw c.split_part.ensures.part at c.in_ok-stepped.ensures.left in (
      λ more rest. subst (AreStepped l (expr_trees es) c.args.rest.now) (sym (rw pushed (append_assoc c.loop-expr.out.items (length r ∷ r) more)))
          (c.loop-expr.invariant.0 ((length r ∷ r) ++ more)
          (rw first (rest_more l e (drop (i + 1) es) c.loop-expr.left.now r more steps (rw c.split_part.ensures.behind at rest)))),
      λ more are. subst (IsOneOf (in_parts (rests (expr_trees es)))) (sym (rw pushed (append_assoc c.loop-expr.out.items (length r ∷ r) more)))
          (c.loop-expr.invariant.1 ((length r ∷ r) ++ more)
          (rw first (part_more (all_rests (expr_tree e)) (rests (expr_trees (drop (i + 1) es))) r more c.in_ok-stepped.ensures.rest
          are))),
    )

pub step_each-returns-clause-left : goal.step_each-returns-clause-left
step_each-returns-clause-left t c =
    let l : HalfStep = record { side = c.args.side; truth = c.args.signature.now } in
    subst (AreStepped l (expr_trees c.args.exprs.now) c.args.rest.now) (append-nil c.loop-expr.out.items)
    (c.loop-expr.invariant.0 [] (rw (drop_all c.loop-expr.expr-index c.args.exprs.now c.loop-expr-test.false) (λ w. refl)))

pub step_each-returns-clause-rest : goal.step_each-returns-clause-rest
step_each-returns-clause-rest t c =
    subst (IsOneOf (in_parts (rests (expr_trees c.args.exprs.now)))) (append-nil c.loop-expr.out.items)
    (c.loop-expr.invariant.1 [] (rw (drop_all c.loop-expr.expr-index c.args.exprs.now c.loop-expr-test.false) no_part))

pub step_sets-operands-init : goal.step_sets-operands-init
step_sets-operands-init t c =
    let es = c.args.exprs.now in
    let l : HalfStep = record { side = c.args.side; truth = c.args.signature.now } in (
      λ more steps. rw (c.new-out.ensures.items, wide_none more)
          (sets_whole l (expr_trees es) false c.args.rest.now more
          (rw (c.split_gap-gap.ensures.gap, c.split_gap-gap.ensures.behind) at steps)),
      λ more are. rw (c.new-out.ensures.items, wide_none more) are,
      omega arith,
    )

pub step_sets-returns-then-place-exprs-clause-left : goal.step_sets-returns-then-place-exprs-clause-left
step_sets-returns-then-place-exprs-clause-left t c =
    let es = c.args.exprs.now in
    let l : HalfStep = record { side = c.args.side; truth = c.args.signature.now } in
    let W : List ℕ → Type 0 = AreSetsStepped l (expr_trees es) false c.args.rest.now in
    let skip = c.idle-skip.result in
    let r = (c.operands.gap - skip) ∷ c.operands.left.now in
    subst W (append-nil c.operands.out.items)
    (idle_left l c.operands.begins c.operands.place skip c.operands.gap c.operands.empties c.operands.left.now c.operands.out.items es W
    (omega (arith, c.idle-skip.ensures.few)) c.idle-skip.ensures.begins c.idle-skip.ensures.empty c.operands.invariant.0 []
    (rw (drop_all (c.operands.place + skip) es c.if-place-exprs.true) (turn_over l c.operands.begins r [])))

pub step_sets-returns-then-place-exprs-clause-rest : goal.step_sets-returns-then-place-exprs-clause-rest
step_sets-returns-then-place-exprs-clause-rest t c =
    let es = c.args.exprs.now in
    let W : List ℕ → Type 0 = IsOneOf (in_sets (map sets (rests (expr_trees es)))) in
    let skip = c.idle-skip.result in
    subst W (append-nil c.operands.out.items)
    (idle_before c.operands.place skip c.operands.empties c.operands.out.items es W
    (omega (arith, c.idle-skip.ensures.few)) c.operands.invariant.1 []
    (rw (drop_all (c.operands.place + skip) es c.if-place-exprs.true) no_set))

pub step_sets-operands-preserved : goal.step_sets-operands-preserved
step_sets-operands-preserved t c =
    let es = c.args.exprs.now in
    let skip = c.idle-skip.result in
    let i = c.operands.place + skip in
    let e = c.index-exprs-place.result in
    let few : skip ≤ length es - c.operands.place = omega (arith, c.idle-skip.ensures.few) in
    let less : c.saturating_sub.result ≡ c.operands.gap - skip = c.saturating_sub.ensures in
    let r = c.saturating_sub.result ∷ c.operands.left.now in
    let l : HalfStep = record { side = c.args.side; truth = c.args.signature.now } in
    let W : List ℕ → Type 0 = AreSetsStepped l (expr_trees es) false c.args.rest.now in
    let V : List ℕ → Type 0 = IsOneOf (in_sets (map sets (rests (expr_trees es)))) in
    let first = from_place es i e (omega (arith, c.if-place-exprs.false)) c.index-exprs-place.is in
    let set = c.in_ok-stepped.stepped.items in
    let pushed = rw c.deref.ensures.value at c.in_ok-empties.ensures.set in
    let steps = rw c.split_set-next_gap.ensures.set at c.in_ok-stepped.ensures.left in
    let passes = rw c.split_set-next_gap.ensures.set at c.passes-begins.ensures in (
      λ more rest. subst W (sym (pushed more))
          (idle_left l c.operands.begins c.operands.place skip c.operands.gap c.operands.empties c.operands.left.now c.operands.out.items es
          W few c.idle-skip.ensures.begins c.idle-skip.ensures.empty c.operands.invariant.0 (set_before set more)
          (rw (first, ← less) (turn_more l e (drop (i + 1) es) c.operands.begins r set more steps
          (sets_whole l (expr_trees (drop (i + 1) es)) _ (behind_set r) more
          (rw (passes, c.split_set-next_gap.ensures.gap, c.split_set-next_gap.ensures.behind) at rest))))),
      λ more are. subst V (sym (pushed more))
          (idle_before c.operands.place skip c.operands.empties c.operands.out.items es V few c.operands.invariant.1 (set_before set more)
          (rw first (set_more (sets (all_rests (expr_tree e))) (map sets (rests (expr_trees (drop (i + 1) es)))) set more c.in_ok-stepped.ensures.set are))),
      omega (arith, c.in_ok-empties.ensures.few, c.operands.invariant.2),
    )

pub step_sets-returns-clause-left : goal.step_sets-returns-clause-left
step_sets-returns-clause-left t c =
    let l : HalfStep = record { side = c.args.side; truth = c.args.signature.now } in
    subst (AreSetsStepped l (expr_trees c.args.exprs.now) false c.args.rest.now) (append-nil c.operands.out.items)
    (c.operands.invariant.0 []
    (rw (drop_all c.operands.place c.args.exprs.now c.operands-test.false)
    (turn_over l c.operands.begins (c.operands.gap ∷ c.operands.left.now) [])))

pub step_sets-returns-clause-rest : goal.step_sets-returns-clause-rest
step_sets-returns-clause-rest t c =
    subst (IsOneOf (in_sets (map sets (rests (expr_trees c.args.exprs.now))))) (append-nil c.operands.out.items)
    (c.operands.invariant.1 [] (rw (drop_all c.operands.place c.args.exprs.now c.operands-test.false) no_set))

pub step_turn-returns-clause-left : goal.step_turn-returns-clause-left
step_turn-returns-clause-left t c =
    let l : HalfStep = record { side = c.args.side; truth = c.args.signature.now } in
    let es = c.args.exprs.now in
    IfOk-weaker c.step_sets.result (λ r. AreSetsStepped l (expr_trees es) false c.args.rest.now r.items) _
    (λ r. turn_whole l es c.args.rest.now r.items (sym c.is_empty.ensures ∙ c.if-is_empty.false)) c.step_sets.ensures.left

pub step_turn-returns-clause-rest : goal.step_turn-returns-clause-rest
step_turn-returns-clause-rest t c =
    let es = c.args.exprs.now in
    rw (turn_some es (sym c.is_empty.ensures ∙ c.if-is_empty.false)) c.step_sets.ensures.rest

pub step_turn-returns-then-is_empty-clause-rest : goal.step_turn-returns-then-is_empty-clause-rest
step_turn-returns-then-is_empty-clause-rest t c =
    let es = c.args.exprs.now in
    IfOk-weaker c.one_number.result (λ r. r.items ≡ 0 ∷ []) _ (λ r is. subst (IsOneOf (top_rests InTurn (rests (expr_trees es)))) (sym is)
    (turn_none es (sym c.is_empty.ensures ∙ c.if-is_empty.true))) c.one_number.ensures

pub step_members-loop-more-preserved : goal.step_members-loop-more-preserved
step_members-loop-more-preserved t c =
    let l : HalfStep = record { side = c.args.side; truth = c.args.signature.now } in
    let e = expr_tree c.args.expr.now in
    let r = c.loop-more.left.now in
    let before = rw (parts_more c.loop-more.more r (omega arith)) at c.loop-more.invariant.0 in
    let steps = rw c.split_part.ensures.part at c.in_ok-rest.ensures.left in (
      λ P w. rw c.split_part.ensures.behind
          (member_more (left e) l (first_part r) c.in_ok-rest.rest.items (map (λ v. v.items) c.loop-more.stepped.items)
          (map (λ v. v.items) c.put.new.set.items) (parts (c.loop-more.more - 1) (behind_part r)) steps c.in_ok-put.ensures.left P w
          ∙ before P w),
      c.in_ok-put.ensures.members (all_rests e) c.in_ok-rest.ensures.rest c.loop-more.invariant.1,
    )

pub step_set-returns-then-not-begins-clause-left : goal.step_set-returns-then-not-begins-clause-left
step_set-returns-then-not-begins-clause-left t c =
    let l : HalfStep = record { side = c.args.side; truth = c.args.signature.now } in
    let e = expr_tree c.args.expr.now in
    let stepped = map {A = Vec ℕ Global} (λ v. v.items) c.in_ok-stepped.stepped.items in
    rw c.if-not-begins.true
    (IfOk-weaker c.spell_set.result (λ r. r.items ≡ set_of stepped) _
    (λ r. set_kept l e (members c.args.set.now) stepped r.items c.in_ok-stepped.ensures.left)
    (rw c.deref.ensures.value at c.spell_set.ensures))

pub step_set-returns-then-not-begins-clause-set : goal.step_set-returns-then-not-begins-clause-set
step_set-returns-then-not-begins-clause-set t c =
    let U = all_rests (expr_tree c.args.expr.now) in
    let stepped = map {A = Vec ℕ Global} (λ v. v.items) c.in_ok-stepped.stepped.items in
    IfOk-weaker c.spell_set.result (λ r. r.items ≡ set_of stepped) _
    (λ r is. subst (IsOneOf (sets U)) (sym is) (one_set U stepped c.in_ok-stepped.ensures.members))
    (rw c.deref.ensures.value at c.spell_set.ensures)

pub step_set-returns-clause-set : goal.step_set-returns-clause-set
step_set-returns-clause-set t c =
    let U = all_rests (expr_tree c.args.expr.now) in
    let new = map {A = Vec ℕ Global} (λ v. v.items) c.put.new.set.items in
    IfOk-weaker c.spell_set-2.result (λ r. r.items ≡ set_of new) _
    (λ r is. subst (IsOneOf (sets U)) (sym is) (one_set U new (c.in_ok-put.ensures.members U c.in_ok-begun.ensures.rest c.in_ok-stepped.ensures.members)))
    (rw c.deref-3.ensures.value at c.spell_set-2.ensures)

pub step_set-returns-clause-left : goal.step_set-returns-clause-left
step_set-returns-clause-left t c =
    let l : HalfStep = record { side = c.args.side; truth = c.args.signature.now } in
    let e = expr_tree c.args.expr.now in
    let stepped = map {A = Vec ℕ Global} (λ v. v.items) c.in_ok-stepped.stepped.items in
    let new = map {A = Vec ℕ Global} (λ v. v.items) c.put.new.set.items in
    let begins = rw c.deref-2.ensures.value at c.in_ok-begun.ensures.left in
    rw c.if-not-begins.false
    (IfOk-weaker c.spell_set-2.result (λ r. r.items ≡ set_of new) _
    (λ r. set_begun l e (members c.args.set.now) stepped new c.in_ok-start.start.items c.in_ok-begun.begun.items r.items
    c.in_ok-stepped.ensures.left c.in_ok-start.ensures.left begins c.in_ok-put.ensures.left)
    (rw c.deref-3.ensures.value at c.spell_set-2.ensures))

pub step_repetition-returns-clause-left : goal.step_repetition-returns-clause-left
step_repetition-returns-clause-left t c =
    let l : HalfStep = record { side = c.args.side; truth = c.args.signature.now } in
    let e = expr_tree c.args.expr.now in
    let set = c.in_ok-stepped.stepped.items in
    let spelled : c.extend_from_slice.new.self.items ≡ (0 ∷ set) = c.in_ok-extend_from_slice.ensures.items
    ∙ rw (c.in_ok-out.ensures, c.deref.ensures.value) refl in
    let steps = rw c.repetition_ends-begins.ensures at c.in_ok-stepped.ensures.left in
    λ w. rw spelled (repetition_steps l e c.args.rest.now set (omega (arith, c.in-len1-up.len_at_least)) steps w)

pub step_repetition-returns-clause-rest : goal.step_repetition-returns-clause-rest
step_repetition-returns-clause-rest t c =
    let U = all_rests (expr_tree c.args.expr.now) in
    let set = c.in_ok-stepped.stepped.items in
    let spelled : c.extend_from_slice.new.self.items ≡ (0 ∷ set) = c.in_ok-extend_from_slice.ensures.items
    ∙ rw (c.in_ok-out.ensures, c.deref.ensures.value) refl in
    rw spelled (repeated_begun (U ∷ []) set c.in_ok-stepped.ensures.set)

pub step_rest-returns-in-Or-clause-left : goal.step_rest-returns-in-Or-clause-left
step_rest-returns-in-Or-clause-left t c =
    let l : HalfStep = record { side = c.args.side; truth = c.args.signature.now } in
    let es = expr_trees c.in-Or.exprs.items in
    rw (c.in-Or.is, tree_Or c.in-Or.exprs)
    (IfOk-weaker c.step_each.result (λ r. AreStepped l es c.args.rest.now r.items) _ (λ r. either_steps l es c.args.rest.now r.items)
    (rw c.deref-in-Or.ensures.value at c.step_each.ensures.left))

pub step_rest-returns-in-Or-clause-rest : goal.step_rest-returns-in-Or-clause-rest
step_rest-returns-in-Or-clause-rest t c = rw (c.in-Or.is, tree_Or c.in-Or.exprs) (rw c.deref-in-Or.ensures.value at c.step_each.ensures.rest)

pub step_rest-returns-in-And-clause-left : goal.step_rest-returns-in-And-clause-left
step_rest-returns-in-And-clause-left t c =
    let l : HalfStep = record { side = c.args.side; truth = c.args.signature.now } in
    let es = expr_trees c.in-And.exprs.items in
    rw (c.in-And.is, tree_And c.in-And.exprs)
    (IfOk-weaker c.step_each-in-And.result (λ r. AreStepped l es c.args.rest.now r.items) _ (λ r. both_step l es c.args.rest.now r.items)
    (rw c.deref-in-And.ensures.value at c.step_each-in-And.ensures.left))

pub step_rest-returns-in-And-clause-rest : goal.step_rest-returns-in-And-clause-rest
step_rest-returns-in-And-clause-rest t c = rw (c.in-And.is, tree_And c.in-And.exprs) (rw c.deref-in-And.ensures.value at c.step_each-in-And.ensures.rest)

pub step_rest-returns-in-Cat-clause-left : goal.step_rest-returns-in-Cat-clause-left
step_rest-returns-in-Cat-clause-left t c = rw (c.in-Cat.is, tree_Cat c.in-Cat.exprs) (rw c.deref.ensures.value at c.step_turn.ensures.left)

pub step_rest-returns-in-Cat-clause-rest : goal.step_rest-returns-in-Cat-clause-rest
step_rest-returns-in-Cat-clause-rest t c = rw (c.in-Cat.is, tree_Cat c.in-Cat.exprs) (rw c.deref.ensures.value at c.step_turn.ensures.rest)

pub step_rest-returns-in-Star-clause-left : goal.step_rest-returns-in-Star-clause-left
step_rest-returns-in-Star-clause-left t c = rw (c.in-Star.is, tree_Star c.in-Star.expr) (rw c.deref-in-Star.ensures at c.step_repetition.ensures.left)

pub step_rest-returns-in-Star-clause-rest : goal.step_rest-returns-in-Star-clause-rest
step_rest-returns-in-Star-clause-rest t c = rw (c.in-Star.is, tree_Star c.in-Star.expr) (rw c.deref-in-Star.ensures at c.step_repetition.ensures.rest)

pub step_members-returns-in_default-clause-members : goal.step_members-returns-in_default-clause-members
step_members-returns-in_default-clause-members t c = rw c.new-stepped.ensures.items (no_members (all_rests (expr_tree c.args.expr.now)))

pub step_members-loop-more-init : goal.step_members-loop-more-init
step_members-loop-more-init t c = (
  λ P w. rw (c.new-stepped.ensures.items, members_front c.args.set.now (omega (arith, c.in-len1-up.len_at_least))) refl,
  rw c.new-stepped.ensures.items (no_members (all_rests (expr_tree c.args.expr.now))),
)

pub step_repetition-returns-in_default-clause-rest : goal.step_repetition-returns-in_default-clause-rest
step_repetition-returns-in_default-clause-rest t c =
    let U = all_rests (expr_tree c.args.expr.now) in
    IfOk-weaker c.one_number.result (λ r. r.items ≡ 0 ∷ []) _
    (λ r is. subst (IsOneOf (top_rests Repeated (U ∷ []))) (sym is) (repeated_over (U ∷ []))) c.one_number.ensures
