use Rattle.std.proofs.Common.{◌≤◌, length, take}
use Rattle.pq_pieces.specs.Lines.{GoesOn}
use Rattle.pq_pieces.proofs.scan.scan.Given as goal

-- what the bytes so far make of the piece
abbrev pub invariant-loop-index : goal.invariant-loop-index
invariant-loop-index l = record {
  gone : GoesOn l.fn.line l.initial.piece.items (take l.index l.bytes) l.now l.piece.items;
  short : length l.piece.items ≤ l.limit;
}
