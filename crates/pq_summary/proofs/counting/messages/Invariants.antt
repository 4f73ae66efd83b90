use Rattle.std.proofs.Common.{◌≡◌, length, map, take}
use Rattle.std.specs.Prelude.{sum_by}
use Rattle.pq_summary.proofs.counting.messages.Given as goal

-- those of the switches so far
abbrev pub invariant-loop-messages : goal.invariant-loop-messages
invariant-loop-messages l = l.total ≡ sum_by length (map (λ ms. ms.items) (take l.messages-index l.lists))
