use Rattle.std.proofs.Common.{◌≡◌, length}
use Rattle.std.specs.List.{flat_map}
use Rattle.pq_model.specs.Install.{link_bytes}
use Rattle.pq_install.specs.Front.{IsAtFront}
use Rattle.pq_install.specs.Links.{AreReadLinks}
use Rattle.pq_install.proofs.read.links.link_list.Given as goal

-- the links so far are at the front
abbrev pub invariant-loop : goal.invariant-loop
invariant-loop l = (length l.links.items ≡ l.counter) × IsAtFront (AreReadLinks l.topology.switches) (flat_map link_bytes) l.bytes l.links.items l.rest
