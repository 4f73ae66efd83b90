use Rattle.std.proofs.Common.{◌≡◌, ◌∙◌, ◌+◌, ◌*◌, true, false, refl, sym}
use Rattle.std.proofs.lemmas.List.{take_rest}
use Rattle.pq_oxm.specs.Reading.{address_field, is_field}
use Rattle.pq_oxm.proofs.next.next_ipv6.Goals as goal

-- the address with its mask
pub returns-then-is_field-2 : goal.returns-then-is_field-2
unfolding address_field
returns-then-is_field-2 c =
    let plain : is_field (c.args.field * 2) 16 c.args.bytes.now ≡ false = sym c.is_field.ensures ∙ c.if-is_field.false in
    let masked : is_field (c.args.field * 2 + 1) 32 c.args.bytes.now ≡ true = sym c.is_field-else-is_field.ensures ∙ c.if-is_field-2.true in
    rw (plain, masked, c.u128_of-address.ensures, c.u128_of-mask.ensures, take_rest c.args.bytes.now 36) refl
