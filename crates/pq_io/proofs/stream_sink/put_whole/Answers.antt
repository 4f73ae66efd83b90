use Rattle.std.proofs.Common.{rules}
use Rattle.pq_io.proofs.WriteLemmas.{Appends-next}
use Rattle.pq_io.proofs.stream_sink.put_whole.Goals as goal

pub loop-done-preserved : goal.loop-done-preserved
loop-done-preserved g c = (search rules, Appends-next _ _ _ c.args.piece.now c.loop-done.done c.in-Ok.count c.loop-done.invariant.1 c.in-Ok.ensures.bytes)
