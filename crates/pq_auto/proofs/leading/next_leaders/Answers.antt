use Rattle.std.proofs.Common.{ℕ, List, [], ◌∷◌, length, map, ap, arith, length-append}
use Rattle.pq_auto.specs.Leading.{IsNext}
use Rattle.pq_auto.proofs.Leaders.{none_first, each_more, led_next}
use Rattle.pq_auto.proofs.leading.next_leaders.Goals as goal

pub loop-state-init : goal.loop-state-init
loop-state-init c = record {
  long = ap length c.in_ok-next.ensures.items;
  firsts = rw (c.new-seen.ensures.empty, c.new-firsts.ensures.items) (none_first c.args.table.now c.args.leaders.now);
  each = λ s h. absurd (omega (arith, h));
}

pub loop-state-preserved : goal.loop-state-preserved
loop-state-preserved c =
    let inv = c.loop-state.invariant in
    let leader = c.in_ok-leader.leader in
    let seen : List (List ℕ) = map (λ k. k.items) c.next_leader.new.seen.keys in
    let IsIt = IsNext c.args.table.now c.args.leaders.now seen c.next_leader.new.firsts.items in
    record {
      long = omega (arith, ap length c.in_ok-push.ensures.items, length-append c.loop-state.next.items (leader ∷ []), inv.long);
      firsts = c.in_ok-leader.ensures.firsts;
      each = each_more IsIt c.loop-state.next.items c.push.new.self.items c.loop-state.state leader inv.long c.in_ok-push.ensures.items
          (λ s h. c.in_ok-leader.ensures.stays s _ (inv.each s h)) c.in_ok-leader.ensures.next;
    }

pub returns : goal.returns
returns c =
    let inv = c.loop-state.invariant in
    let seen : List (List ℕ) = map (λ k. k.items) c.loop-state.seen.keys in
    led_next c.args.table.now c.args.leaders.now c.is_lawful.ensures c.requires seen c.loop-state.firsts.items c.loop-state.next.items
    inv.firsts (omega (arith, inv.long, c.loop-state-test.false)) (λ s h. inv.each s (omega (arith, h, c.loop-state-test.false)))
