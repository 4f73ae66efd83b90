use Rattle.std.proofs.Common.{◌≡◌, map, drop, take}
use Rattle.std.specs.Prelude.{All}
use Rattle.std.specs.List.{AllZip}
use Rattle.std.specs.declared.option.Option.TheVariants.{None}
use Rattle.pq_model.specs.Install.{IsLawfulList}
use Rattle.pq_emit.specs.Faults.{fault_of, met_fault}
use Rattle.pq_emit.specs.Switches.{IsFilledBy, trees_of}
use Rattle.pq_emit.proofs.MetFaults.{with_met}
use Rattle.pq_emit.proofs.messages.all_messages.Given as goal

abbrev pub invariant-loop-index : goal.invariant-loop-index
invariant-loop-index l = record {
  fault : with_met (met_fault l.full) (drop l.index l.switches) (drop l.index (trees_of l.first l.second l.trees))
      ≡ fault_of l.switches (trees_of l.first l.second l.trees);
  lawful : All IsLawfulList (map (λ ms. ms.items) l.all.items);
  filled : l.full ≡ None → AllZip IsFilledBy (take l.index (trees_of l.first l.second l.trees)) (map (λ ms. ms.items) l.all.items);
}
