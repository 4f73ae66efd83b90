use Rattle.std.proofs.Common.{◌≡◌, length}
use Rattle.std.specs.List.{flat_map}
use Rattle.pq_model.specs.Install.{name_bytes}
use Rattle.pq_install.specs.Front.{IsAtFront}
use Rattle.pq_install.specs.Names.{AreReadNames}
use Rattle.pq_install.proofs.read.names.name_list.Given as goal

-- the names so far are at the front
abbrev pub invariant-loop : goal.invariant-loop
invariant-loop l = (length l.names.items ≡ l.counter) × IsAtFront AreReadNames (flat_map name_bytes) l.bytes l.names.items l.rest
