use Rattle.std.proofs.Common.{map, take}
use Rattle.std.specs.List.{AllZip}
use Rattle.pq_local.specs.Local.{IsServedAt}
use Rattle.pq_local.proofs.switches.all_served.Given as goal

abbrev pub invariant-loop-index : goal.invariant-loop-index
invariant-loop-index l =
    AllZip (IsServedAt l.document.topology l.forward l.policy l.told.letters l.told.classes) (take l.index l.document.topology.switches)
    (map (λ ms. ms.items) l.all.items)
