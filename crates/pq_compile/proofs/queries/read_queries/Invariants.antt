use Rattle.std.proofs.Common.{◌≡◌, map, drop}
use Rattle.pq_tree.specs.Trees.{trees}
use Rattle.pq_grammar.specs.declared.class.Class.TheVariants.{QueryWord}
use Rattle.pq_query.specs.Resolved.{query_of}
use Rattle.pq_compile.specs.Names.{named_after}
use Rattle.pq_compile.specs.Documents.{named_query_tree, queries_of}
use Rattle.pq_compile.proofs.Statements.{names_of}
use Rattle.pq_compile.proofs.queries.read_queries.Given as goal

-- the names are those of the queries so far, and what is left gives all the queries
abbrev pub invariant-loop-term : goal.invariant-loop-term
invariant-loop-term l = (l.names.keys ≡ names_of (map named_query_tree l.queries.items))
    × (named_after l.bytes QueryWord 256 (query_of l.topology l.bytes) (map named_query_tree l.queries.items)
    (trees (drop l.term-index l.terms)) ≡ queries_of l.topology l.bytes (trees l.terms))
