use Rattle.std.proofs.Common.{◌∙◌}
use Rattle.pq_switch.proofs.entries.Entries.taken.Goals as goal

pub returns : goal.returns
returns c = rw (← c.self.view_is) (c.entry_in.ensures ∙ c.best_in_table.ensures)
