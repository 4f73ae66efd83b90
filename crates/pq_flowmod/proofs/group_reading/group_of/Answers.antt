use Rattle.std.proofs.Common.{◌∙◌, sym, arith}
use Rattle.std.proofs.lemmas.List.{take_rest}
use Rattle.pq_model.specs.declared.group_mod.GroupCommand.TheVariants.{Add as AddGroup, Modify, Delete}
use Rattle.pq_flowmod.proofs.FlowLaws.{group_command_is, if_ok}
use Rattle.pq_flowmod.proofs.Parts.{group_parted, group_below, buckets_short}
use Rattle.pq_flowmod.proofs.group_reading.group_of.Goals as goal

-- the numbers take eight bytes
pub returns-then-body-lt8-clause-said : goal.returns-then-body-lt8-clause-said
returns-then-body-lt8-clause-said c = λ g law xid short is. absurd (omega (arith, (group_parted c.args.body.now g is).long, c.if-body-lt8.true))

-- there is no such command
pub returns-in-None-clause-said : goal.returns-in-None-clause-said
returns-in-None-clause-said c = λ g law xid short is.
    let none = c.in-None.ensures g.command (group_parted c.args.body.now g is).command in
    absurd cc

-- a group is put
pub returns-in-Some-Add-clause-said : goal.returns-in-Some-Add-clause-said
returns-in-Some-Add-clause-said c = if_ok c.filled.result _ _
    (λ found said g law xid short is.
    let parts = group_parted c.args.body.now g is in
    said g law (group_command_is c.in-Some-Add.field-0 g.command AddGroup (c.in-Some-Add.ensures g.command parts.command) c.in-Some-Add.field-0-is) xid
    (sym (c.u32_of-group.ensures ∙ parts.group (group_below g law))) (buckets_short c.args.body.now g is short) (take_rest c.args.body.now 8 ∙ parts.rest))
    c.filled.ensures.said

-- the buckets of a group are replaced
pub returns-in-Some-Modify-clause-said : goal.returns-in-Some-Modify-clause-said
returns-in-Some-Modify-clause-said c = if_ok c.filled-in-Some-Modify.result _ _
    (λ found said g law xid short is.
    let parts = group_parted c.args.body.now g is in
    said g law (group_command_is c.in-Some-Modify.field-0 g.command Modify (c.in-Some-Modify.ensures g.command parts.command) c.in-Some-Modify.field-0-is) xid
    (sym (c.u32_of-group.ensures ∙ parts.group (group_below g law))) (buckets_short c.args.body.now g is short) (take_rest c.args.body.now 8 ∙ parts.rest))
    c.filled-in-Some-Modify.ensures.said

-- a group is removed
pub returns-in-Some-Delete-clause-said : goal.returns-in-Some-Delete-clause-said
returns-in-Some-Delete-clause-said c = λ g law xid short is.
    let parts = group_parted c.args.body.now g is in
    c.removal.ensures.said g law
    (group_command_is c.in-Some-Delete.field-0 g.command Delete
    (c.in-Some-Delete.ensures g.command parts.command) c.in-Some-Delete.field-0-is) xid
    (sym (c.u32_of-group.ensures ∙ parts.group (group_below g law)))
