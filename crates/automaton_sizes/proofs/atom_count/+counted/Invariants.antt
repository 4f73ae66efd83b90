use Rattle.std.proofs.Common.{◌≤◌, ◌+◌, ◌^◌, drop, map}
use Rattle.pq_query.specs.Query.{queries, query_tree}
use Rattle.pq_query.specs.Atoms.{atoms}
use Rattle.automaton_sizes.proofs.atom_count.+counted.Given as goal

-- few atoms are counted, and with those of the queries that are left they are all
abbrev pub invariant-atoms_of-loop-query : goal.invariant-atoms_of-loop-query
invariant-atoms_of-loop-query l = record {
  few : l.count ≤ 2 ^ 28;
  all : atoms (queries (map query_tree l.operands)) ≤ l.count + atoms (queries (map query_tree (drop l.query-index l.operands)));
}
