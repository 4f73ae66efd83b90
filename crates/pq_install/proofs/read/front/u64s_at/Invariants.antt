use Rattle.std.proofs.Common.{◌≡◌, ◌++◌, length, All}
use Rattle.std.specs.List.{flat_map}
use Rattle.std.specs.Int.{w64, to_be_bytes}
use Rattle.pq_install.specs.Front.{IsU64}
use Rattle.pq_install.proofs.read.front.u64s_at.Given as goal

-- the numbers so far are at the front
abbrev pub invariant-loop : goal.invariant-loop
invariant-loop l = (l.bytes ≡ flat_map (to_be_bytes w64) l.numbers.items ++ l.rest) × (length l.numbers.items ≡ l.counter) × All IsU64 l.numbers.items
