use Rattle.std.proofs.Common.{◌∙◌}
use Rattle.pq_delta.proofs.StepLemmas.{group_delete_step}
use Rattle.pq_delta.proofs.group_changes.push_group_deletes.Goals as goal

pub loop-number-preserved : goal.loop-number-preserved
loop-number-preserved c =
    let before = c.loop-number.messages.items in
    let after = c.push_group_delete.new.messages.items in
    group_delete_step before after c.loop-number.number c.args.groups c.loop-number-test.true c.in_ok-push_group_delete.ensures ∙ c.loop-number.invariant
