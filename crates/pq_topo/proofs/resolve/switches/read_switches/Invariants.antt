use Rattle.std.proofs.Common.{◌≡◌, [], drop}
use Rattle.pq_tree.specs.Trees.{trees}
use Rattle.pq_topo.specs.Statements.{seen, switches_after}
use Rattle.pq_topo.proofs.resolve.switches.read_switches.Given as goal

-- what is left gives all the switches, and those so far are seen
abbrev pub invariant-loop-term : goal.invariant-loop-term
invariant-loop-term l = record {
  left : switches_after l.bytes l.switches.items (trees (drop l.term-index l.terms)) ≡ switches_after l.bytes [] (trees l.terms);
  known : l.before ≡ seen l.switches.items;
}
