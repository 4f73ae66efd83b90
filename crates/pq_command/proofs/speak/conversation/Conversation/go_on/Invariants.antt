use Rattle.std.proofs.Common.{◌≡◌, ◌≤◌, ℕ, List, Option, length}
use Rattle.pq_command.specs.Answers.{streams}
use Rattle.pq_command.specs.Reading.{install_limit, piece_size}
use Rattle.pq_command.specs.Speaks.{IsUnderWay}
use Rattle.pq_command.proofs.speak.conversation.Conversation.go_on.Given as goal

-- whatever was read before this call, the session is under way, with as many bytes as were read
abbrev pub invariant-loop-turn : goal.invariant-loop-turn
invariant-loop-turn g l = record {
  under_way : (datapath : ℕ) (left before : Option (List ℕ)) (text : List ℕ)
      → IsUnderWay datapath (streams left (g.S.Source.left l.fn.source) before (g.K.Sink.put l.fn.sink)) l.fn.self.speaker text → length text ≡ l.fn.self.read
      → (now : List ℕ) × IsUnderWay datapath (streams left (g.S.Source.left l.source) before (g.K.Sink.put l.sink)) l.speaker now × (length now ≡ l.read);
  reads : g.S.Source.faults l.source ≡ g.S.Source.faults l.fn.source;
  writes : g.K.Sink.faults l.sink ≡ g.K.Sink.faults l.fn.sink;
  turns : l.turn ≤ l.read;
  room : length l.piece.items ≡ piece_size;
  short : l.read ≤ install_limit;
}
