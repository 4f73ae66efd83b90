use Rattle.std.proofs.Common.{◌≡◌, ◌∙◌, Some, sym}
use Rattle.pq_fields.specs.declared.field.Field.TheVariants.{Port}
use Rattle.pq_fields.specs.Writes.{written_in}
use Rattle.pq_join.proofs.Puts.{port_and_all_set}
use Rattle.pq_join.proofs.overwriting.overwritten.Goals as goal

pub returns-in_ok-id-in-Some-clause-overwrites : goal.returns-in_ok-id-in-Some-clause-overwrites
returns-in_ok-id-in-Some-clause-overwrites g c =
    let written : written_in Port c.args.writes.now ≡ Some c.in-Some.port = sym c.get.ensures.number ∙ c.in-Some.is in
    port_and_all_set c.args.writes.now c.in-Some.port c.args.store.now c.args.store.now c.with_headers-in-Some.new.store c.args.node
    c.at_number-at_port.result c.in_ok-id-in-Some.id
    written c.at_number-at_port.ensures.restricts c.in_ok-id-in-Some.ensures.sets
