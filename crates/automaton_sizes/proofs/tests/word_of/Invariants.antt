use Rattle.std.proofs.Common.{◌≤◌, length}
use Rattle.automaton_sizes.proofs.tests.word_of.Given as goal

-- each turn adds at most one packet
abbrev pub invariant-loop : goal.invariant-loop
invariant-loop l = length l.word.items ≤ l.counter
