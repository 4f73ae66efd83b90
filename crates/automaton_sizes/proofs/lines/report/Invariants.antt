use Rattle.std.proofs.Common.{◌≤◌}
use Rattle.automaton_sizes.proofs.lines.report.Given as goal

-- there are no more rows than classes so far
abbrev pub invariant-loop-class : goal.invariant-loop-class
invariant-loop-class l = l.rows ≤ l.class
