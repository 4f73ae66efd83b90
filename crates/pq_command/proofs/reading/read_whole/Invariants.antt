use Rattle.std.proofs.Common.{◌≡◌, ◌≤◌, length}
use Rattle.pq_command.specs.Reading.{piece_size}
use Rattle.std.specs.Io.KnownBytes.{Consumes}
use Rattle.pq_command.proofs.reading.read_whole.Given as goal

abbrev pub invariant-loop-turn : goal.invariant-loop-turn
invariant-loop-turn g l = record {
  bytes : Consumes (g.S.Source.left l.initial.source) (g.S.Source.left l.source) l.text.items;
  kept : g.S.Source.faults l.source ≡ g.S.Source.faults l.initial.source;
  turns : l.turn ≤ length l.text.items;
  room : length l.piece.items ≡ piece_size;
  short : length l.text.items ≤ l.limit;
}
