use Rattle.std.proofs.Common.{◌≡◌, [], drop}
use Rattle.pq_tree.specs.Trees.{trees}
use Rattle.pq_query.specs.Resolved.{groups_after}
use Rattle.pq_query.proofs.groups.groups_at.Given as goal

-- what is left gives all the groups
abbrev pub invariant-loop-term : goal.invariant-loop-term
invariant-loop-term l = groups_after l.topology l.bytes l.groups.items (trees (drop l.term-index l.terms)) ≡ groups_after l.topology l.bytes [] (trees l.terms)
