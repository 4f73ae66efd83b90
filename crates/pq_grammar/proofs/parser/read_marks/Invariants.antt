use Rattle.std.proofs.Common.{◌≡◌, ◌-◌, length, reverse}
use Rattle.pq_grammar.specs.Reading.{IsAt}
use Rattle.pq_grammar.proofs.parser.read_marks.Given as goal

-- the stack is still to come
abbrev pub invariant-loop-parser : goal.invariant-loop-parser
invariant-loop-parser l = IsAt l.lexemes l.parser (reverse l.parser.stack.items) × (l.parser.start ≡ l.fn.start)

-- each turn reads a token
abbrev pub decreases-loop-parser : goal.decreases-loop-parser
decreases-loop-parser l = length l.lexemes - l.parser.at
