use Rattle.std.proofs.Common.{◌≡◌, drop}
use Rattle.pq_fields.specs.declared.field.Field.TheVariants.{Port}
use Rattle.pq_values.specs.Known.{with_numbers}
use Rattle.pq_values.proofs.numbers.put_ports.Given as goal

-- the ports that are left make the whole
abbrev pub invariant-loop-port : goal.invariant-loop-port
invariant-loop-port l = with_numbers Port (drop l.port-index l.ports) l.known.keys ≡ with_numbers Port l.ports l.initial.known.keys
