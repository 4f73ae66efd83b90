use Rattle.std.proofs.Common.{◌≡◌, drop}
use Rattle.pq_values.specs.Known.{with_each, with_switch}
use Rattle.pq_values.proofs.numbers.put_switches.Given as goal

-- the switches that are left make the whole
abbrev pub invariant-loop-switch : goal.invariant-loop-switch
invariant-loop-switch l = with_each with_switch (drop l.switch-index l.switches) l.known.keys ≡ with_each with_switch l.switches l.initial.known.keys
