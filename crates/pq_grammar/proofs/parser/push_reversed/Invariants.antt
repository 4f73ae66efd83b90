use Rattle.std.proofs.Common.{◌≡◌, ◌++◌, reverse}
use Rattle.pq_grammar.proofs.parser.push_reversed.Given as goal

-- what was pushed, and what is left
abbrev pub invariant-loop-symbol : goal.invariant-loop-symbol
invariant-loop-symbol l = l.stack.items ++ reverse l.symbol-iterator.iter.rest.now ≡ l.initial.stack.items ++ reverse l.symbols
