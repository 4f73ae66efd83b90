use Rattle.std.proofs.Common.{◌≡◌, take}
use Rattle.pq_model.specs.Install.{port_count}
use Rattle.pq_summary.proofs.counting.ports.Given as goal

-- those of the switches so far
abbrev pub invariant-loop-switch : goal.invariant-loop-switch
invariant-loop-switch l = l.total ≡ port_count (take l.switch-index l.switches)
