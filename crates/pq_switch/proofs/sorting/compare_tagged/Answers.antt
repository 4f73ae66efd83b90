use Rattle.std.proofs.Common.{◌≡◌, ℕ, arith, nat_cmp, refl, sym, ◌∙◌}
use Rattle.std.proofs.lemmas.Bool.Decides.{nat_tests}
use Rattle.std.specs.declared.option.Option.{Option}
use Rattle.std.specs.declared.option.Option.TheVariants.{None, Some}
use Rattle.std.specs.Option.{option_cmp}
use Rattle.std.specs.Ordering.{ordering_then}
use Rattle.pq_fields.specs.Packet.{numbers}
use Rattle.pq_model.specs.Tagged.{vlan_key}
use Rattle.pq_switch.proofs.SentOrder.{last-decides}
use Rattle.pq_switch.proofs.sorting.compare_tagged.Goals as goal

by_key : (s t : Option ℕ) → option_cmp nat_cmp s t ≡ nat_cmp (vlan_key s) (vlan_key t)
by_key None None = refl
by_key None (Some t) = grind (arith, nat_tests)
by_key (Some s) None = grind (arith, nat_tests)
by_key (Some s) (Some t) = grind (arith, nat_tests)

pub returns : goal.returns
returns c =
    let x = c.x.inside in
    let y = c.y.inside in
    let packets = c.cmp.ensures ∙ c.packets_are_ordered_by_numbers.ensures.compares x.packet y.packet in
    let vlans = c.cmp-2.ensures ∙ by_key x.vlan y.vlan in
    rw (← c.x.view_is, ← c.y.view_is) (c.then.ensures ∙ (λ i. ordering_then (packets i) (vlans i))
    ∙ sym (last-decides (numbers x.packet) (numbers y.packet) (vlan_key x.vlan) (vlan_key y.vlan) refl))
