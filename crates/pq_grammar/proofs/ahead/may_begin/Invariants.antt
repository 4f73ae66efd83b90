use Rattle.std.proofs.Common.{◌≡◌, drop}
use Rattle.pq_grammar.specs.Ahead.{ahead, may_begin}
use Rattle.pq_grammar.proofs.ahead.may_begin.Given as goal

-- the rest of the symbols tells what all of them do
abbrev pub invariant-loop-symbol : goal.invariant-loop-symbol
invariant-loop-symbol l = may_begin l.otherwise (drop l.symbol-index l.symbols) (ahead l.next) ≡ may_begin l.otherwise l.symbols (ahead l.next)
