use Rattle.std.proofs.Common.{arith}
use Rattle.pq_query.proofs.Ascending.{length_distinct}
use Rattle.pq_query.proofs.counts.stated_count.Goals as goal

pub returns-then-count-gt4294967295 : goal.returns-then-count-gt4294967295
returns-then-count-gt4294967295 c = omega (arith, length_distinct c.args.values.now c.requires, c.if-count-gt4294967295.true)

pub returns : goal.returns
returns c = omega (arith, length_distinct c.args.values.now c.requires, c.if-count-gt4294967295.false)
