use Rattle.std.proofs.Common.{◌≡◌, map, drop}
use Rattle.pq_tree.specs.Trees.{trees}
use Rattle.pq_grammar.specs.declared.class.Class.TheVariants.{PartWord}
use Rattle.pq_policy.specs.Resolved.{policy_of}
use Rattle.pq_compile.specs.Names.{named_after}
use Rattle.pq_compile.specs.Documents.{part_tree, parts_of}
use Rattle.pq_compile.proofs.Statements.{names_of}
use Rattle.pq_compile.proofs.parts.read_parts.Given as goal

-- the names are those of the parts so far, and what is left gives all the parts
abbrev pub invariant-loop-term : goal.invariant-loop-term
invariant-loop-term l = (l.names.keys ≡ names_of (map part_tree l.parts.items))
    × (named_after l.bytes PartWord 1024 (policy_of l.topology l.bytes) (map part_tree l.parts.items) (trees (drop l.term-index l.terms))
    ≡ parts_of l.topology l.bytes (trees l.terms))
