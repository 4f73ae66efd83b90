use Rattle.std.proofs.Common.{subst}
use Rattle.pq_sum.specs.Places.{Sum}
use Rattle.pq_sum.specs.Calls.{IsTotal}
use Rattle.pq_sum.proofs.Summed.{is_total}
use Rattle.pq_sum.proofs.sum.Sum.total.Goals as goal

pub returns : goal.returns
returns c =
    let s : Sum = record { cells = c.self.inside.cells.items; slots = c.self.inside.slots.items } in
    subst (λ t. IsTotal t c.index.result.now) c.self.view_is (is_total s c.index.result.now c.index.ensures)
