use Rattle.std.proofs.Common.{◌∙◌, ap, sym, Some}
use Rattle.std.proofs.lemmas.Bool.{both_ways}
use Rattle.std.proofs.lemmas.List.{take_rest}
use Rattle.pq_model.specs.Lawful.{IsLawfulCommand}
use Rattle.pq_model.specs.declared.flow_mod.FlowCommand.TheVariants.{Add as AddFlow}
use Rattle.pq_flowmod.proofs.FlowLaws.{flow_is}
use Rattle.pq_flowmod.proofs.Parts.{flow_parted, instructions_short}
use Rattle.pq_flowmod.proofs.flow_reading.addition.Goals as goal

-- no match is there
pub returns-in_default-clause-said : goal.returns-in_default-clause-said
returns-in_default-clause-said c = λ f law add xid short is.
    let parts = flow_parted c.args.body.now f is in
    absurd (rw c.in_default.is at c.in_ok-matching.ensures.said f.matching _ law.matching parts.rest)

-- no instructions are after it
pub returns-in_default-2-clause-said : goal.returns-in_default-2-clause-said
returns-in_default-2-clause-said c = λ f law add xid short is.
    let parts = flow_parted c.args.body.now f is in
    let command : IsLawfulCommand AddFlow f = rw add at law.command in
    let read = rw c.in-Some.is at c.in_ok-matching.ensures.said f.matching _ law.matching parts.rest in
    let found = c.in_ok-instructions.ensures f.actions f.goto command.1 (instructions_short c.args.body.now f is short)
    (take_rest c.args.body.now c.in-Some.matching.1 ∙ read.1) in
    absurd (rw c.in_default-2.is at found)

-- these may not be added
pub returns-then-not-is_addition-clause-said : goal.returns-then-not-is_addition-clause-said
returns-then-not-is_addition-clause-said c = λ f law add xid short is.
    let parts = flow_parted c.args.body.now f is in
    let command : IsLawfulCommand AddFlow f = rw add at law.command in
    let read = rw c.in-Some.is at c.in_ok-matching.ensures.said f.matching _ law.matching parts.rest in
    let found = c.in_ok-instructions.ensures f.actions f.goto command.1 (instructions_short c.args.body.now f is short)
    (take_rest c.args.body.now c.in-Some.matching.1 ∙ read.1) in
    let instructions = rw c.in-Some-2.is at found in
    absurd (both_ways c.is_addition.result c.if-not-is_addition.true
    (c.is_addition.ensures.1 (rw (parts.table, c.deref.ensures.value, instructions.0, instructions.1) command)))

-- all is read
pub returns-clause-said : goal.returns-clause-said
returns-clause-said c = λ f law add xid short is.
    let parts = flow_parted c.args.body.now f is in
    let command : IsLawfulCommand AddFlow f = rw add at law.command in
    let read = rw c.in-Some.is at c.in_ok-matching.ensures.said f.matching _ law.matching parts.rest in
    let found = c.in_ok-instructions.ensures f.actions f.goto command.1 (instructions_short c.args.body.now f is short)
    (take_rest c.args.body.now c.in-Some.matching.1 ∙ read.1) in
    let instructions = rw c.in-Some-2.is at found in
    ap Some (flow_is f _ _ _ _ _ _ _ _ (sym xid) (c.u64_of.ensures ∙ parts.cookie law.cookie) parts.table (sym add) (c.u16_of.ensures
    ∙ parts.priority law.priority) read.0 instructions.0 instructions.1)
