use Rattle.std.proofs.Common.{◌≡◌, ◌++◌, drop}
use Rattle.std.specs.Prelude.{codes}
use Rattle.std.specs.List.{filter, flat_map}
use Rattle.pq_fields.specs.Packet.{has_field}
use Rattle.pq_schedule.specs.States.{field_text}
use Rattle.pq_schedule.proofs.packet_text.write_further.Given as goal

-- the fields left complete the text
abbrev pub invariant-loop-field : goal.invariant-loop-field
invariant-loop-field l =
    l.into.items ++ flat_map (λ f. codes " " ++ field_text l.x f) (filter (λ f. has_field f l.x) (drop l.field-index l.fields))
    ≡ l.initial.into.items ++ flat_map (λ f. codes " " ++ field_text l.x f) (filter (λ f. has_field f l.x) l.fields)
