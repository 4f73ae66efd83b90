use Rattle.std.proofs.Common.{◌∙◌, arith, ap}
use Rattle.std.specs.declared.option.Option.TheVariants.{Some}
use Rattle.pq_flowmod.proofs.ActionsRead.{action_told}
use Rattle.pq_flowmod.proofs.action_reading.action_len.Goals as goal

-- an action has eight bytes
pub returns-then-bytes-lt8-clause-told : goal.returns-then-bytes-lt8-clause-told
returns-then-bytes-lt8-clause-told c = λ a more law is.
    let sized = action_told c.args.bytes.now a more law is in
    absurd (omega (arith, sized.long, sized.within, c.if-bytes-lt8.true))

-- it says so
pub returns-then-size-lt8-clause-told : goal.returns-then-size-lt8-clause-told
returns-then-size-lt8-clause-told c = λ a more law is.
    let sized = action_told c.args.bytes.now a more law is in
    absurd (omega (arith, sized.told, sized.long, c.from-size.ensures, c.if-size-lt8.true))

-- it lies within the bytes
pub returns-then-bytes-size-clause-told : goal.returns-then-bytes-size-clause-told
returns-then-bytes-size-clause-told c = λ a more law is.
    let sized = action_told c.args.bytes.now a more law is in
    absurd (omega (arith, sized.told, sized.within, c.from-size.ensures, c.if-bytes-size.true))

-- its length is told
pub returns-clause-told : goal.returns-clause-told
returns-clause-told c = λ a more law is. ap Some (c.from-size.ensures ∙ (action_told c.args.bytes.now a more law is).told)
