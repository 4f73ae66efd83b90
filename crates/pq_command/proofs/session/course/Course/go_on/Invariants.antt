use Rattle.std.proofs.Common.{◌≡◌, ◌≤◌, true, List, ℕ, Option, length}
use Rattle.std.specs.Io.KnownBytes.{IsAtEnd}
use Rattle.pq_pieces.specs.Reading.{chunk_size}
use Rattle.pq_command.specs.Answers.{streams}
use Rattle.pq_command.specs.Sessions.{IsGoingOn, current_of}
use Rattle.pq_command.proofs.session.course.Course.go_on.Given as goal

-- whatever was read before this call, the session goes on, and each turn has put the frame of a piece
abbrev pub invariant-loop-turn : goal.invariant-loop-turn
invariant-loop-turn g l = record {
  going_on : (left before : Option (List ℕ))
      → IsGoingOn (streams left (g.S.Source.left l.fn.source) before (g.K.Sink.put l.fn.sink)) l.fn.self.pieces.pending l.fn.self.is_last
      (current_of l.fn.self.engine) 0
      → IsGoingOn (streams left (g.S.Source.left l.source) before (g.K.Sink.put l.sink)) l.self.pieces.pending l.self.is_last (current_of l.self.engine) l.turn;
  ended : l.self.pieces.is_ended ≡ true → IsAtEnd (g.S.Source.left l.source);
  few : length l.self.pieces.pending ≤ chunk_size;
  reads : g.S.Source.faults l.source ≡ g.S.Source.faults l.fn.source;
  writes : g.K.Sink.faults l.sink ≡ g.K.Sink.faults l.fn.sink;
}
