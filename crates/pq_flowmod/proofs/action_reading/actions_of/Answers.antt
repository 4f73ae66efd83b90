use Rattle.std.proofs.Common.{◌∙◌, sym}
use Rattle.pq_model.specs.Lawful.{IsLawfulAction}
use Rattle.pq_model.specs.Spelling.{action_bytes}
use Rattle.pq_flowmod.proofs.ActionsRead.{action_is, action_long, no_action}
use Rattle.pq_flowmod.proofs.Leading.{one_read, none_read, all_read, some_left, none_left}
use Rattle.pq_flowmod.proofs.action_reading.actions_of.Goals as goal

-- no length is told, so no lawful action is there
pub returns-in_default : goal.returns-in_default
returns-in_default c =
    let left = some_left c.loop-rest.rest.now c.is_empty.result c.is_empty.ensures c.loop-rest-test.true in
    none_read action_bytes IsLawfulAction c.args.bytes.now c.loop-rest.actions.items c.loop-rest.rest.now left
    (λ a more law is. let told = c.in_default.ensures.told a more law is in absurd cc) c.loop-rest.invariant

-- what is there says no action
pub returns-in_default-action_of : goal.returns-in_default-action_of
returns-in_default-action_of c =
    let left = some_left c.loop-rest.rest.now c.is_empty.result c.is_empty.ensures c.loop-rest-test.true in
    none_read action_bytes IsLawfulAction c.args.bytes.now c.loop-rest.actions.items c.loop-rest.rest.now left
    (λ a more law is. no_action c.loop-rest.rest.now c.in-Some.size a more law is (c.in-Some.ensures.told a more law is)
    (sym c.action_of.ensures ∙ c.in_default-action_of.is))
    c.loop-rest.invariant

-- one more action
pub loop-rest-preserved : goal.loop-rest-preserved
loop-rest-preserved c =
    let left = some_left c.loop-rest.rest.now c.is_empty.result c.is_empty.ensures c.loop-rest-test.true in
    rw c.in_ok-push.ensures.items
    (one_read action_bytes IsLawfulAction c.args.bytes.now c.loop-rest.actions.items c.loop-rest.rest.now c.in-Some-action_of.action _
    left
    (λ a more law is. action_is c.loop-rest.rest.now c.in-Some.size c.in-Some-action_of.action a more law is
    (c.in-Some.ensures.told a more law is) (sym c.action_of.ensures ∙ c.in-Some-action_of.is))
    c.loop-rest.invariant)

-- nothing is left
pub returns : goal.returns
returns c = λ whole law is.
    all_read action_bytes IsLawfulAction action_long c.args.bytes.now c.loop-rest.actions.items c.loop-rest.rest.now
    (none_left c.loop-rest.rest.now c.is_empty.result c.is_empty.ensures c.loop-rest-test.false) c.loop-rest.invariant whole law is
