use Rattle.std.proofs.Common.{◌≡◌, take}
use Rattle.pq_model.specs.Install.{port_count}
use Rattle.pq_install.proofs.read.switches.port_count.Given as goal

-- the ports of the switches so far are counted
abbrev pub invariant-loop-switch : goal.invariant-loop-switch
invariant-loop-switch l = l.count ≡ port_count (take l.switch-index l.switches)
