use Rattle.std.proofs.Common.{◌∙◌, ◌++◌, ◌∷◌, [], sym, ap, refl}
use Rattle.pq_sum.proofs.Differing.{turn_more}
use Rattle.pq_sum.proofs.slots.first_slots.Goals as goal

pub loop-slot-preserved : goal.loop-slot-preserved
loop-slot-preserved c = c.in_ok-push.ensures.items ∙ (ap (λ l. l ++ c.loop-slot.slot ∷ []) c.loop-slot.invariant ∙ sym (turn_more c.loop-slot.slot _ refl))
