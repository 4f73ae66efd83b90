use Rattle.std.proofs.Common.{◌≡◌, length}
use Rattle.std.specs.List.{flat_map}
use Rattle.pq_model.specs.Install.{switch_bytes}
use Rattle.pq_install.specs.Front.{IsAtFront}
use Rattle.pq_install.specs.Switches.{AreReadSwitches}
use Rattle.pq_install.proofs.read.switches.switch_list.Given as goal

-- the switches so far are at the front
abbrev pub invariant-loop : goal.invariant-loop
invariant-loop l = (length l.switches.items ≡ l.counter) × IsAtFront AreReadSwitches (flat_map switch_bytes) l.bytes l.switches.items l.rest
