use Rattle.std.proofs.Common.{◌≡◌, ◌++◌}
use Rattle.std.specs.Prelude.{codes}
use Rattle.std.specs.List.{flat_map, range_with_len}
use Rattle.std.specs.String.{string_bytes}
use Rattle.pq_generate.specs.Generated.{hop_text}
use Rattle.pq_generate.proofs.lines.write_hops.Given as goal

-- the first is there, and this many after it
abbrev pub invariant-loop-after : goal.invariant-loop-after
invariant-loop-after l = string_bytes l.text ≡ string_bytes l.initial.text ++ flat_map (λ j. codes " + " ++ hop_text l.i j) (range_with_len 2 l.after)
