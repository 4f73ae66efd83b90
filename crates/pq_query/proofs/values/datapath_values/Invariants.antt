use Rattle.std.proofs.Common.{◌≡◌, ◌++◌, drop, map}
use Rattle.pq_query.proofs.values.datapath_values.Given as goal

-- what is there and the switches that are left make the whole
abbrev pub invariant-loop-switch : goal.invariant-loop-switch
invariant-loop-switch l = l.numbers.items ++ map (λ s. s.datapath) (drop l.switch-index l.switches) ≡ map (λ s. s.datapath) l.switches
