use Rattle.std.proofs.Common.{◌≡◌, ◌<◌, ℕ, get_or, length, map}
use Rattle.pq_auto.specs.Leading.{AreFirsts, IsNext}
use Rattle.pq_auto.proofs.leading.next_leaders.Given as goal

abbrev pub invariant-loop-state : goal.invariant-loop-state
invariant-loop-state l = record {
  long : length l.next.items ≡ l.state;
  firsts : AreFirsts l.table l.leaders (map (λ k. k.items) l.seen.keys) l.firsts.items;
  each : (s : ℕ) → s < l.state → IsNext l.table l.leaders (map (λ k. k.items) l.seen.keys) l.firsts.items s (get_or l.next.items s 0);
}
