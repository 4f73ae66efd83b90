use Rattle.std.proofs.Common.{take}
use Rattle.pq_sum.specs.Sum.{AreParts}
use Rattle.pq_compile.specs.Documents.{document_tree}
use Rattle.pq_compile.specs.Prepared.{parts_in}
use Rattle.pq_engine.proofs.diagrams.part_diagrams.Given as goal

-- the first parts have diagrams
abbrev pub invariant-loop-place : goal.invariant-loop-place
invariant-loop-place g l = AreParts l.fn.document.topology l.store (take l.place (parts_in (document_tree l.fn.document))) l.ids.items
