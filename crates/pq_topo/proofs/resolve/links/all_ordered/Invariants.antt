use Rattle.std.proofs.Common.{◌≡◌, map, take}
use Rattle.pq_topo.specs.Statements.{ordered}
use Rattle.pq_topo.proofs.resolve.links.all_ordered.Given as goal

-- the links so far are ordered
abbrev pub invariant-loop-link : goal.invariant-loop-link
invariant-loop-link l = l.all.items ≡ map ordered (take l.link-index l.links)
