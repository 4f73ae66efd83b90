use Rattle.std.proofs.Common.{◌≡◌, map, take}
use Rattle.std.specs.Prelude.{sum_by}
use Rattle.pq_inspect.specs.Inspection.{count, is_group_add}
use Rattle.pq_summary.proofs.counting.groups.Given as goal

-- those of the switches so far
abbrev pub invariant-loop-messages : goal.invariant-loop-messages
invariant-loop-messages l = l.total ≡ sum_by (count is_group_add) (map (λ ms. ms.items) (take l.messages-index l.lists))
