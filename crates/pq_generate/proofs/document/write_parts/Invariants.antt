use Rattle.std.proofs.Common.{◌≡◌, ◌++◌}
use Rattle.std.specs.List.{flat_map}
use Rattle.std.specs.String.{string_bytes}
use Rattle.pq_generate.specs.Generated.{part_line, up_to}
use Rattle.pq_generate.proofs.document.write_parts.Given as goal

abbrev pub invariant-loop-before : goal.invariant-loop-before
invariant-loop-before l = string_bytes l.text ≡ string_bytes l.initial.text ++ flat_map (part_line l.number) (up_to l.before)
