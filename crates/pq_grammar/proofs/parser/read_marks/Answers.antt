use Rattle.pq_grammar.proofs.Steps.{ends_sentence, ends_early}
use Rattle.pq_grammar.proofs.parser.read_marks.Goals as goal

-- tokens are left
pub returns-then-parser-lexemes-clause-err : goal.returns-then-parser-lexemes-clause-err
returns-then-parser-lexemes-clause-err c =
    ends_early _ c.args.start c.loop-parser.parser c.advance.new.self _ c.in_default.is c.loop-parser.invariant.1
    c.in_ok-expected.ensures.place c.if-parser-lexemes.true

-- all were read
pub returns-clause-ok : goal.returns-clause-ok
returns-clause-ok c =
    ends_sentence _ c.args.start c.loop-parser.parser c.advance.new.self _ c.in_default.is c.loop-parser.invariant.1
    c.in_ok-expected.ensures.place c.if-parser-lexemes.false
