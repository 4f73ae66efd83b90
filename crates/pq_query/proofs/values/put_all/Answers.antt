use Rattle.std.proofs.Common.{arith}
use Rattle.pq_query.proofs.Ascending.{put_more}
use Rattle.pq_query.proofs.values.put_all.Goals as goal

pub loop-left-preserved : goal.loop-left-preserved
loop-left-preserved c = record {
  within = omega (arith, c.loop-left.invariant.within);
  keys = put_more c.args.numbers.now c.loop-left.left c.args.into.now.keys c.loop-left.into.keys c.insert.new.self.keys
      c.loop-left-test.true c.loop-left.invariant.within c.loop-left.invariant.keys c.in-Ok.ensures.keys;
}
