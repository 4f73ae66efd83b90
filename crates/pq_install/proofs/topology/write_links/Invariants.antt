use Rattle.std.proofs.Common.{◌≡◌, ◌++◌, take}
use Rattle.std.specs.List.{flat_map}
use Rattle.pq_model.specs.Install.{link_bytes}
use Rattle.pq_install.proofs.topology.write_links.Given as goal

-- the links so far are appended
abbrev pub invariant-loop-link : goal.invariant-loop-link
invariant-loop-link l = l.into.items ≡ l.initial.into.items ++ flat_map link_bytes (take l.link-index l.links)
