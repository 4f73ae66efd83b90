use Rattle.std.proofs.Common.{◌≡◌, ◌++◌}
use Rattle.pq_query.proofs.values.keys_of.Given as goal

-- what is there and the keys that are left make the whole
abbrev pub invariant-loop-number : goal.invariant-loop-number
invariant-loop-number l = l.numbers.items ++ l.number-iterator ≡ l.fn.set.keys
