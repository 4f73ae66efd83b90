use Rattle.std.proofs.Common.{◌≡◌, ◌∙◌, ◌-◌, take, drop, arith, ap, inl, inr}
use Rattle.std.proofs.lemmas.List.{take_rest}
use Rattle.pq_flowmod.proofs.FlowLaws.{not_applied, is_applied}
use Rattle.pq_flowmod.proofs.flow_reading.applied.Goals as goal

-- there is no room for actions
pub returns-then-bytes-lt8 : goal.returns-then-bytes-lt8
returns-then-bytes-lt8 c = λ actions goto short is. not_applied actions goto c.args.bytes.now short is (inl c.if-bytes-lt8.true)

-- the first instruction is another
pub returns-then-bytes-ne-APPLY_ACTIONS : goal.returns-then-bytes-ne-APPLY_ACTIONS
returns-then-bytes-ne-APPLY_ACTIONS c = λ actions goto short is. not_applied actions goto c.args.bytes.now short is (inr c.if-bytes-ne-APPLY_ACTIONS.true)

-- its length counts its header
pub returns-then-size-lt8 : goal.returns-then-size-lt8
returns-then-size-lt8 c = λ actions goto short is.
    let parts = is_applied actions goto c.args.bytes.now short is c.if-bytes-lt8.false c.if-bytes-ne-APPLY_ACTIONS.false in
    omega (arith, parts.told, parts.long, c.from_be_bytes.ensures, c.from-size.ensures, c.if-size-lt8.true)

-- it lies within the bytes
pub returns-then-bytes-size : goal.returns-then-bytes-size
returns-then-bytes-size c = λ actions goto short is.
    let parts = is_applied actions goto c.args.bytes.now short is c.if-bytes-lt8.false c.if-bytes-ne-APPLY_ACTIONS.false in
    omega (arith, parts.told, parts.within, c.from_be_bytes.ensures, c.from-size.ensures, c.if-bytes-size.true)

-- the actions, and what is after them
pub returns : goal.returns
returns c = λ actions goto short is.
    let parts = is_applied actions goto c.args.bytes.now short is c.if-bytes-lt8.false c.if-bytes-ne-APPLY_ACTIONS.false in
    let size : c.from-size.result ≡ parts.size = omega (arith, parts.told, c.from_be_bytes.ensures, c.from-size.ensures) in (
      ap (λ k. take (k - 8) (drop 8 c.args.bytes.now)) size ∙ parts.inside,
      take_rest c.args.bytes.now c.from-size.result ∙ ap (λ k. drop k c.args.bytes.now) size ∙ parts.rest,
    )
