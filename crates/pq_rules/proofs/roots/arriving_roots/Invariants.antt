use Rattle.std.proofs.Common.{drop}
use Rattle.std.specs.Prelude.{All}
use Rattle.pq_layout.specs.Messages.{is_nothing}
use Rattle.pq_rules.specs.Found.{IsRoot}
use Rattle.pq_rules.specs.Tables.{Gathers, arriving_ids}
use Rattle.pq_rules.proofs.roots.arriving_roots.Given as goal

abbrev pub invariant-loop-id : goal.invariant-loop-id
invariant-loop-id l = All (IsRoot l.store) l.roots.items × Gathers is_nothing l.store (arriving_ids l.ids) l.roots.items (arriving_ids (drop l.id-index l.ids))
