use Rattle.std.proofs.Common.{◌≡◌, ◌≤◌, length, true}
use Rattle.std.specs.Io.KnownBytes.{Consumes}
use Rattle.pq_command.specs.Reading.{install_limit, piece_size}
use Rattle.pq_command.specs.Speaks.{needs_more}
use Rattle.pq_command.proofs.speak.heading.read_opening.Given as goal

abbrev pub invariant-loop-turn : goal.invariant-loop-turn
invariant-loop-turn g l = record {
  bytes : Consumes (g.S.Source.left l.initial.source) (g.S.Source.left l.source) l.text.items;
  kept : g.S.Source.faults l.source ≡ g.S.Source.faults l.initial.source;
  turns : l.turn ≤ length l.text.items;
  room : length l.piece.items ≡ piece_size;
  short : length l.text.items ≤ install_limit;
  needed : needs_more l.text.items ≡ true;
}
