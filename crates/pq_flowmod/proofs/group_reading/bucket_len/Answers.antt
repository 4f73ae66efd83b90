use Rattle.std.proofs.Common.{arith, ap}
use Rattle.std.specs.declared.option.Option.TheVariants.{Some}
use Rattle.pq_flowmod.proofs.Parts.{bucket_told}
use Rattle.pq_flowmod.proofs.group_reading.bucket_len.Goals as goal

-- a bucket has a header
pub returns-then-bytes-lt16-clause-told : goal.returns-then-bytes-lt16-clause-told
returns-then-bytes-lt16-clause-told c = λ actions more short is.
    let sized = bucket_told c.args.bytes.now actions more short is in
    absurd (omega (arith, sized.long, sized.within, c.if-bytes-lt16.true))

-- its length counts it
pub returns-then-size-lt16-clause-told : goal.returns-then-size-lt16-clause-told
returns-then-size-lt16-clause-told c = λ actions more short is.
    let sized = bucket_told c.args.bytes.now actions more short is in
    absurd (omega (arith, sized.told, sized.long, c.from_be_bytes.ensures, c.from-size.ensures, c.if-size-lt16.true))

-- it lies within the bytes
pub returns-then-bytes-size-clause-told : goal.returns-then-bytes-size-clause-told
returns-then-bytes-size-clause-told c = λ actions more short is.
    let sized = bucket_told c.args.bytes.now actions more short is in
    absurd (omega (arith, sized.told, sized.within, c.from_be_bytes.ensures, c.from-size.ensures, c.if-bytes-size.true))

-- its length is told
pub returns-clause-told : goal.returns-clause-told
returns-clause-told c = λ actions more short is.
    let sized = bucket_told c.args.bytes.now actions more short is in
    ap Some (omega (arith, sized.told, c.from_be_bytes.ensures, c.from-size.ensures))
