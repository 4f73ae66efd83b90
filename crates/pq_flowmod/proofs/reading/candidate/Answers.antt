use Rattle.std.proofs.Common.{◌≡◌, ◌∙◌, ◌-◌, ap, arith, length, take, drop}
use Rattle.pq_flowmod.specs.Reading.{message_body}
use Rattle.pq_flowmod.proofs.FlowLaws.{if_ok}
use Rattle.pq_flowmod.proofs.Parts.{message_parted}
use Rattle.pq_flowmod.proofs.reading.candidate.Goals as goal

-- a message has a header
pub returns-then-bytes-lt8-clause-said : goal.returns-then-bytes-lt8-clause-said
returns-then-bytes-lt8-clause-said c = λ m more law is. absurd (omega (arith, (message_parted c.args.bytes.now m more law is).within, c.if-bytes-lt8.true))

-- its length counts the header
pub returns-then-length-lt8-clause-said : goal.returns-then-length-lt8-clause-said
returns-then-length-lt8-clause-said c = λ m more law is.
    absurd (omega (arith, (message_parted c.args.bytes.now m more law is).told, c.from_be_bytes.ensures, c.from-length.ensures, c.if-length-lt8.true))

-- it lies within the bytes
pub returns-then-bytes-length-clause-said : goal.returns-then-bytes-length-clause-said
returns-then-bytes-length-clause-said c = λ m more law is.
    let parts = message_parted c.args.bytes.now m more law is in
    absurd (omega (arith, parts.told, parts.within, c.from_be_bytes.ensures, c.from-length.ensures, c.if-bytes-length.true))

-- its body is read
pub returns-clause-said : goal.returns-clause-said
returns-clause-said c = if_ok c.content.result _ _
    (λ found said m more law is.
    let parts = message_parted c.args.bytes.now m more law is in
    let size : c.from-length.result - 8 ≡ length (message_body m) = omega (arith, parts.told, c.from_be_bytes.ensures, c.from-length.ensures) in
    said m law.content parts.kind (c.u32_of-xid.ensures ∙ parts.xid) (omega (arith, parts.short))
    (ap (λ k. take k (drop 8 c.args.bytes.now)) size ∙ parts.body))
    c.content.ensures.said
