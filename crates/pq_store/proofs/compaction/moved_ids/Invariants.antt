use Rattle.std.proofs.Common.{take}
use Rattle.std.specs.List.{AllZip}
use Rattle.pq_store.specs.Moves.{MovesTo}
use Rattle.pq_store.proofs.compaction.moved_ids.Given as goal

abbrev pub invariant-loop-root : goal.invariant-loop-root
invariant-loop-root l = AllZip (MovesTo l.moved) (take l.root-index l.roots) l.ids.items
