use Rattle.std.proofs.Common.{◌<◌, length}
use Rattle.automaton_sizes.proofs.tests.is_accepted.Given as goal

-- the word so far leads to a class
abbrev pub invariant-loop : goal.invariant-loop
invariant-loop l = l.class < length l.classes.rows
