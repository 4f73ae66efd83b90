use Rattle.std.proofs.Common.{◌≡◌, take, map}
use Rattle.pq_grammar.specs.Classes.{lexeme_of}
use Rattle.pq_grammar.proofs.classes.lexemes_of.Given as goal

-- the tokens so far, with their classes
abbrev pub invariant-loop-token : goal.invariant-loop-token
invariant-loop-token l = l.lexemes.items ≡ map (lexeme_of l.bytes) (take l.token-index l.tokens)
