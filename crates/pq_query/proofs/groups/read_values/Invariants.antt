use Rattle.std.proofs.Common.{◌≡◌, [], drop}
use Rattle.pq_tree.specs.Trees.{trees}
use Rattle.pq_query.specs.Resolved.{values_after}
use Rattle.pq_query.proofs.groups.read_values.Given as goal

-- what is left gives all the values
abbrev pub invariant-loop-term : goal.invariant-loop-term
invariant-loop-term l = values_after l.topology l.bytes l.field l.values.keys (trees (drop l.term-index l.terms))
    ≡ values_after l.topology l.bytes l.field [] (trees l.terms)
