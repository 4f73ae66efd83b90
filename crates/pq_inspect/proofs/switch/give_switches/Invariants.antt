use Rattle.std.proofs.Common.{◌≡◌, ◌+◌, All, drop, length, map, zip}
use Rattle.std.specs.Vec.Iter.{into_iter_items}
use Rattle.pq_model.specs.Install.{IsLawfulList}
use Rattle.pq_inspect.specs.Inspection.{switch_data}
use Rattle.pq_inspect.proofs.Elements.{with_rest}
use Rattle.pq_inspect.proofs.switch.give_switches.Given as goal

-- the lists that are left are those of the switches that are left, and with these it is the whole text
abbrev pub invariant-loop-to_it : goal.invariant-loop-to_it
invariant-loop-to_it l = (l.index + length (into_iter_items l.to_it-iterator) ≡ length l.switches)
    × All IsLawfulList (map (λ ms. ms.items) (into_iter_items l.to_it-iterator))
    × (with_rest switch_data l.into.items l.index (zip (drop l.index l.switches) (map (λ ms. ms.items) (into_iter_items l.to_it-iterator)))
    ≡ with_rest switch_data l.initial.into.items 0 (zip l.switches (map (λ ms. ms.items) (into_iter_items l.initial.to_it-iterator))))
