use Rattle.std.proofs.Common.{◌≡◌, reverse}
use Rattle.pq_grammar.specs.Ahead.{pending}
use Rattle.pq_grammar.specs.Reading.{IsAt}
use Rattle.pq_grammar.proofs.parser.Parser.advance.Given as goal

-- no token was read, and the stack is still to come
abbrev pub invariant-loop-symbol : goal.invariant-loop-symbol
invariant-loop-symbol l = IsAt l.lexemes l.self (reverse l.self.stack.items) × (l.self.at ≡ l.initial.self.at) × (l.self.start ≡ l.initial.self.start)

-- what is before the next token weighs less each turn
abbrev pub decreases-loop-symbol : goal.decreases-loop-symbol
decreases-loop-symbol l = pending (reverse l.self.stack.items)
