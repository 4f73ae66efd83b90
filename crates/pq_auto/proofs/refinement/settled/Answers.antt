use Rattle.std.proofs.Common.{◌<◌, ◌≤◌, ◌-◌, length, arith}
use Rattle.pq_auto.proofs.Settled.{few_classes}
use Rattle.pq_auto.proofs.refinement.settled.Goals as goal

pub loop-parts-smaller : goal.loop-parts-smaller
loop-parts-smaller c =
    let round = c.in_ok-finer.ensures.round in
    let few : length c.in_ok-finer.finer.firsts ≤ length c.in_ok-finer.finer.classes = few_classes round.key c.in_ok-finer.finer round.parted in
    let more : length c.loop-parts.parts.firsts < length c.in_ok-finer.finer.firsts =
    omega (arith, c.count.ensures, c.count-in-loop-parts.ensures, c.if-count.false) in
    let less : length c.args.table.now.rows - length c.in_ok-finer.finer.firsts < length c.args.table.now.rows - length
    c.loop-parts.parts.firsts = omega (arith, few, more, round.whole) in
    less
