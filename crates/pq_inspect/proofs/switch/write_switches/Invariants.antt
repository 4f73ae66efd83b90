use Rattle.std.proofs.Common.{◌≡◌, drop, map, zip}
use Rattle.pq_inspect.specs.Inspection.{switch_data}
use Rattle.pq_inspect.proofs.Elements.{with_rest}
use Rattle.pq_inspect.proofs.switch.write_switches.Given as goal

-- with the switches that are left it is the whole text
abbrev pub invariant-loop-index : goal.invariant-loop-index
invariant-loop-index l =
    with_rest switch_data l.into.items l.index (drop l.index (zip l.switches (map (λ ms. ms.items) l.lists)))
    ≡ with_rest switch_data l.initial.into.items 0 (zip l.switches (map (λ ms. ms.items) l.lists))
