use Rattle.std.proofs.Common.{◌≡◌, [], drop}
use Rattle.pq_rules.specs.Grouping.{resolved}
use Rattle.pq_rules.specs.Refusals.{many_copies}
use Rattle.pq_rules.proofs.tables.few_copies.Given as goal

abbrev pub invariant-loop-entry : goal.invariant-loop-entry
invariant-loop-entry l = many_copies (resolved [] l.store (drop l.entry-index l.entries)) ≡ many_copies (resolved [] l.store l.entries)
