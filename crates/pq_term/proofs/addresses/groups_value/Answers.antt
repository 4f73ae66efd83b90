use Rattle.std.proofs.Common.{◌+◌, ◌*◌, Fits, ap, sym, ◌∙◌, subst, arith}
use Rattle.std.specs.Int.{w128}
use Rattle.std.specs.Prelude.{option_copied}
use Rattle.pq_term.specs.Groups.{parts, parts_in}
use Rattle.pq_term.proofs.GroupValues.{IsValueBefore, value_steps}
use Rattle.pq_term.proofs.addresses.groups_value.Goals as goal

-- the value with the next group fits
pub overflow_mul-value : goal.overflow_mul-value
overflow_mul-value c =
    let now = ap (λ left. parts_in c.args.separator (option_copied left)) c.in-Some.is ∙ c.cut_at.ensures.parts in
    let steps = value_steps c.args.weight c.args.base _ _ c.cut_at.result.0.now _ c.loop-left.value c.requires.few now c.loop-left.invariant in
    subst (λ weight. Fits w128 (c.loop-left.value * weight)) (sym c.from.ensures) (omega (arith, steps.2))

pub overflow_add-value : goal.overflow_add-value
overflow_add-value c =
    let now = ap (λ left. parts_in c.args.separator (option_copied left)) c.in-Some.is ∙ c.cut_at.ensures.parts in
    let steps = value_steps c.args.weight c.args.base _ _ c.cut_at.result.0.now _ c.loop-left.value c.requires.few now c.loop-left.invariant in
    let digit = c.from-in-Some.ensures ∙ c.group_value.ensures in
    subst (λ n. Fits w128 n) (λ i. c.loop-left.value * sym c.from.ensures i + sym digit i) (omega (arith, steps.2))

-- one more group is counted
pub loop-left-preserved : goal.loop-left-preserved
loop-left-preserved c =
    let now = ap (λ left. parts_in c.args.separator (option_copied left)) c.in-Some.is ∙ c.cut_at.ensures.parts in
    let steps = value_steps c.args.weight c.args.base _ _ c.cut_at.result.0.now _ c.loop-left.value c.requires.few now c.loop-left.invariant in
    let digit = c.from-in-Some.ensures ∙ c.group_value.ensures in
    subst (λ n. IsValueBefore c.args.weight c.args.base (parts c.args.separator c.args.text.now)
    (parts_in c.args.separator (option_copied c.cut_at.result.1)) n)
    (λ i. c.loop-left.value * sym c.from.ensures i + sym digit i) steps.0
