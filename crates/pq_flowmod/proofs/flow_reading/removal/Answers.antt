use Rattle.std.proofs.Common.{◌∙◌, ap, sym, Some}
use Rattle.std.proofs.lemmas.Bool.{both_ways}
use Rattle.pq_model.specs.Lawful.{IsLawfulCommand}
use Rattle.pq_model.specs.declared.flow_mod.FlowCommand.TheVariants.{DeleteStrict}
use Rattle.pq_flowmod.proofs.FlowLaws.{flow_is}
use Rattle.pq_flowmod.proofs.Parts.{flow_parted}
use Rattle.pq_flowmod.proofs.flow_reading.removal.Goals as goal

-- no match is there
pub returns-in_default-clause-said : goal.returns-in_default-clause-said
returns-in_default-clause-said c = λ f law strict xid is.
    let parts = flow_parted c.args.body.now f is in
    absurd (rw c.in_default.is at c.in_ok-matching.ensures.said f.matching _ law.matching parts.rest)

-- the table is another's
pub returns-then-not-is_table-clause-said : goal.returns-then-not-is_table-clause-said
returns-then-not-is_table-clause-said c = λ f law strict xid is.
    let parts = flow_parted c.args.body.now f is in
    let command : IsLawfulCommand DeleteStrict f = rw strict at law.command in
    absurd (both_ways c.is_table.result c.if-not-is_table.true (c.is_table.ensures.1 (rw parts.table command.1)))

-- all is read
pub returns-clause-said : goal.returns-clause-said
returns-clause-said c = λ f law strict xid is.
    let parts = flow_parted c.args.body.now f is in
    let command : IsLawfulCommand DeleteStrict f = rw strict at law.command in
    let read = rw c.in-Some.is at c.in_ok-matching.ensures.said f.matching _ law.matching parts.rest in
    ap Some (flow_is f _ _ _ _ _ _ _ _ (sym xid) (sym command.0) parts.table (sym strict) (c.u16_of.ensures
    ∙ parts.priority law.priority) read.0 (c.new.ensures.items ∙ sym command.2.0) (sym command.2.1))
