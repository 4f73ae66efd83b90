use Rattle.std.proofs.Common.{◌≡◌, ◌++◌, length, All}
use Rattle.std.specs.List.{flat_map}
use Rattle.std.specs.Int.{w32, to_be_bytes}
use Rattle.pq_install.specs.Front.{IsU32}
use Rattle.pq_install.proofs.read.front.u32s_at.Given as goal

-- the numbers so far are at the front
abbrev pub invariant-loop : goal.invariant-loop
invariant-loop l = (l.bytes ≡ flat_map (to_be_bytes w32) l.numbers.items ++ l.rest) × (length l.numbers.items ≡ l.counter) × All IsU32 l.numbers.items
