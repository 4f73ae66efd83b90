use Rattle.pq_sum.specs.Places.{renamed}
use Rattle.pq_sum.proofs.Differing.{renamed_more}
use Rattle.pq_sum.proofs.slots.rename.Goals as goal

pub loop-each-preserved : goal.loop-each-preserved
loop-each-preserved c =
    renamed_more (renamed c.args.last c.args.slot) c.args.slots.now c.loop-each.slots c.loop-each.each-index _ c.renamed.result
    c.loop-each-test.true c.loop-each.invariant c.renamed.ensures
