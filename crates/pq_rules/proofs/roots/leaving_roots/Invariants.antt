use Rattle.std.proofs.Common.{drop}
use Rattle.std.specs.Prelude.{All}
use Rattle.pq_layout.specs.Messages.{is_without}
use Rattle.pq_rules.specs.Found.{IsRoot}
use Rattle.pq_rules.specs.Tables.{Gathers, leaving_ids}
use Rattle.pq_rules.proofs.roots.leaving_roots.Given as goal

abbrev pub invariant-loop-id : goal.invariant-loop-id
invariant-loop-id l = All (IsRoot l.store) l.roots.items × Gathers is_without l.store (leaving_ids l.ids) l.roots.items (leaving_ids (drop l.id-index l.ids))
