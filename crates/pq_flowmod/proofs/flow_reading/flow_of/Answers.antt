use Rattle.std.proofs.Common.{ap, arith, Some}
use Rattle.pq_model.specs.declared.flow_mod.FlowCommand.TheVariants.{Add as AddFlow, DeleteAll, DeleteStrict}
use Rattle.pq_flowmod.proofs.FlowLaws.{command_is, if_ok}
use Rattle.pq_flowmod.proofs.Parts.{flow_parted}
use Rattle.pq_flowmod.proofs.flow_reading.flow_of.Goals as goal

-- the numbers take forty bytes
pub returns-then-body-lt40-clause-said : goal.returns-then-body-lt40-clause-said
returns-then-body-lt40-clause-said c = λ f law xid short is. absurd (omega (arith, (flow_parted c.args.body.now f is).long, c.if-body-lt40.true))

-- there is no such command
pub returns-in-None-clause-said : goal.returns-in-None-clause-said
returns-in-None-clause-said c = λ f law xid short is.
    let none = c.in-None.ensures f.command (flow_parted c.args.body.now f is).command in
    absurd cc

-- an entry is added
pub returns-in-Some-Add-clause-said : goal.returns-in-Some-Add-clause-said
returns-in-Some-Add-clause-said c = if_ok c.addition.result _ _
    (λ found said f law xid short is.
    said f law (command_is c.in-Some-Add.field-0 f.command AddFlow
    (c.in-Some-Add.ensures f.command (flow_parted c.args.body.now f is).command) c.in-Some-Add.field-0-is) xid short is)
    c.addition.ensures.said

-- all entries are removed
pub returns-in-Some-DeleteAll-clause-said : goal.returns-in-Some-DeleteAll-clause-said
returns-in-Some-DeleteAll-clause-said c = λ f law xid short is.
    ap Some (c.clearing.ensures.said f law
    (command_is c.in-Some-DeleteAll.field-0 f.command DeleteAll
    (c.in-Some-DeleteAll.ensures f.command (flow_parted c.args.body.now f is).command) c.in-Some-DeleteAll.field-0-is) xid)

-- an entry is removed
pub returns-in-Some-DeleteStrict-clause-said : goal.returns-in-Some-DeleteStrict-clause-said
returns-in-Some-DeleteStrict-clause-said c = if_ok c.removal.result _ _
    (λ found said f law xid short is.
    said f law (command_is c.in-Some-DeleteStrict.field-0 f.command DeleteStrict
    (c.in-Some-DeleteStrict.ensures f.command (flow_parted c.args.body.now f is).command) c.in-Some-DeleteStrict.field-0-is) xid is)
    c.removal.ensures.said
