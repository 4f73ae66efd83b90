use Rattle.std.proofs.Common.{◌<◌, arith, length, map}
use Rattle.std.specs.Vec.Iter.{into_iter_items}
use Rattle.pq_model.specs.Install.{IsLawfulList}
use Rattle.pq_inspect.specs.Inspection.{switch_data}
use Rattle.pq_inspect.proofs.Elements.{pair_written}
use Rattle.std.proofs.lemmas.List.Elements.{All-tail}
use Rattle.pq_inspect.proofs.switch.give_switches.Goals as goal

pub loop-to_it-preserved : goal.loop-to_it-preserved
loop-to_it-preserved c =
    let before = rw c.in-Some.ensures.steps.0 at c.loop-to_it.invariant in
    let left = map (λ ms. ms.items) (into_iter_items c.next.new.self) in
    let below : c.loop-to_it.index < length c.args.switches.now = omega (arith, before.0) in
    let shown = rw (c.deref.ensures.value, c.in_ok-separate.ensures) at c.in_ok-write_switch.ensures in (
      omega (arith, before.0),
      All-tail IsLawfulList c.in-Some.to_it.items left before.1,
      rw shown (pair_written switch_data c.args.switches.now c.loop-to_it.index c.index-switches-index.result c.in-Some.to_it.items left
          c.loop-to_it.into.items _ before.2 below c.index-switches-index.is),
    )
