use Rattle.std.proofs.Common.{drop}
use Rattle.pq_switch.specs.Namings.{Grows}
use Rattle.pq_switch.proofs.Noted.{Completes}
use Rattle.pq_switch.proofs.naming.note.Given as goal

-- the index only grows, and what the actions left name is all that it lacks
abbrev pub invariant-loop-action : goal.invariant-loop-action
invariant-loop-action l = record {
  grows : Grows l.initial.index.keys l.index.keys;
  lacks : Completes l.index.keys l.place (drop l.action-index l.actions) l.actions;
}
