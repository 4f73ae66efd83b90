use Rattle.std.proofs.Common.{subst, sym}
use Rattle.pq_tree.specs.Shapes.{MakesSome}
use Rattle.pq_tree.proofs.Making.{sentence_made}
use Rattle.pq_tree.proofs.reading.read_forest.Goals as goal

-- a document and an edit have marks that make trees
pub grown-requires : goal.grown-requires
grown-requires c =
    let made : MakesSome c.in-Ok-marks_of.marks.items =
    sentence_made c.args.start c.in-Ok-marks_of.marks.items c.requires.whole c.in-Ok-marks_of.ensures.ok.derived in
    record { some = subst MakesSome (sym c.deref-2.ensures.value) made }
