use Rattle.std.proofs.Common.{◌≡◌, [], drop}
use Rattle.pq_tree.specs.Trees.{trees}
use Rattle.pq_model.specs.Install.{ends_of}
use Rattle.pq_topo.specs.Statements.{links_after}
use Rattle.pq_topo.proofs.resolve.links.read_links.Given as goal

-- what is left gives all the links, and the ends are theirs
abbrev pub invariant-loop-term : goal.invariant-loop-term
invariant-loop-term l = record {
  left : links_after l.bytes l.topology.switches l.links.items (trees (drop l.term-index l.terms)) ≡ links_after l.bytes l.topology.switches [] (trees l.terms);
  ends : l.ends.keys ≡ ends_of l.links.items;
}
