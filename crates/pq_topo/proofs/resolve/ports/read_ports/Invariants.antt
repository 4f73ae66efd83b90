use Rattle.std.proofs.Common.{◌≡◌, [], drop}
use Rattle.pq_tree.specs.Trees.{trees}
use Rattle.pq_topo.specs.Statements.{ports_after}
use Rattle.pq_topo.proofs.resolve.ports.read_ports.Given as goal

-- what is left gives all the ports
abbrev pub invariant-loop-term : goal.invariant-loop-term
invariant-loop-term l = ports_after l.bytes l.room l.ports.keys (trees (drop l.term-index l.terms)) ≡ ports_after l.bytes l.room [] (trees l.terms)
