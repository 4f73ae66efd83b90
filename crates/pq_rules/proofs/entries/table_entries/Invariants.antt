use Rattle.std.proofs.Common.{drop}
use Rattle.pq_rules.proofs.FoundLemmas.{Completes}
use Rattle.pq_rules.proofs.entries.table_entries.Given as goal

abbrev pub invariant-loop-root : goal.invariant-loop-root
invariant-loop-root g l = Completes l.store l.roots (drop l.root-index l.roots) l.found.items
