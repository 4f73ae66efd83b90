use Rattle.std.proofs.Common.{◌≡◌, drop, bytes_eq}
use Rattle.std.specs.List.{find}
use Rattle.pq_fields.specs.Names.{field_name}
use Rattle.pq_fields.proofs.names.first_named.Given as goal

abbrev pub invariant-loop-field : goal.invariant-loop-field
invariant-loop-field l = find (λ f. bytes_eq (field_name f) l.name) (drop l.field-index l.fields) ≡ find (λ f. bytes_eq (field_name f) l.name) l.fields
