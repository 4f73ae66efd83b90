use Rattle.std.proofs.Common.{◌≡◌, ◌++◌, take}
use Rattle.std.specs.List.{flat_map}
use Rattle.pq_model.specs.Install.{switch_bytes}
use Rattle.pq_install.proofs.topology.write_switches.Given as goal

-- the switches so far are appended
abbrev pub invariant-loop-switch : goal.invariant-loop-switch
invariant-loop-switch l = l.into.items ≡ l.initial.into.items ++ flat_map switch_bytes (take l.switch-index l.switches)
