use Rattle.std.proofs.Common.{◌≡◌, ◌+◌, ◌≤◌, ◌<◌, length, true}
use Rattle.std.specs.Io.KnownBytes.{IsAtEnd}
use Rattle.pq_pieces.specs.Lines.{held}
use Rattle.pq_pieces.specs.Reading.{IsWithin}
use Rattle.pq_pieces.proofs.pieces.Pieces.next_piece.Given as goal

-- what was read so far; each turn but the first begins with bytes that are pending
abbrev pub invariant-loop-turn : goal.invariant-loop-turn
invariant-loop-turn g l = record {
  read : IsWithin l.fn.self.pending (g.S.Source.left l.fn.source) (g.S.Source.left l.source) l.self.pending l.line l.text.items;
  short : length l.text.items ≤ l.limit;
  turns : l.turn ≤ held l.line l.text.items + 1;
  some : 0 < l.turn → 0 < length l.self.pending;
  ended : l.self.is_ended ≡ true → IsAtEnd (g.S.Source.left l.source);
  kept : g.S.Source.faults l.source ≡ g.S.Source.faults l.fn.source;
}
