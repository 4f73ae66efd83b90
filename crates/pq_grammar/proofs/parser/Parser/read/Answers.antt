use Rattle.std.proofs.Common.{◌∙◌, sym, ap, is_ok}
use Rattle.std.proofs.ResultArms.{chosen}
use Rattle.pq_grammar.proofs.Steps.{got, got_none, read_place, refuses_end, refuses_class, refuses_depth}
use Rattle.pq_grammar.proofs.parser.Parser.read.Goals as goal

-- no token comes
pub returns-in_default-clause-err : goal.returns-in_default-clause-err
returns-in_default-clause-err c = let (s, at, expects) = c.requires in refuses_end _ _ _ _ s _ _ _ at expects (got_none _ _ c.in_default.ensures.lookup)

-- a token of another class comes
pub returns-then-not-is_class-clause-err : goal.returns-then-not-is_class-clause-err
returns-then-not-is_class-clause-err c = let (s, at, expects) = c.requires in
    refuses_class _ _ _ _ s _ _ _ c.in-Some.lexeme.now at expects
    (got _ _ c.in-Some.lexeme c.in-Some.ensures.lookup).1 c.if-not-is_class.ensures.same

-- one comes that opens too deep a bracket
pub returns-then-expected-gt-MOST_OPEN-clause-err : goal.returns-then-expected-gt-MOST_OPEN-clause-err
returns-then-expected-gt-MOST_OPEN-clause-err c = let (s, at, expects) = c.requires in
    refuses_depth _ _ _ _ s _ _ _ at expects (got _ _ c.in-Some.lexeme c.in-Some.ensures.lookup).0 c.if-expected-gt-MOST_OPEN.true

-- the token that is expected was read
pub returns-clause-place : goal.returns-clause-place
returns-clause-place c =
    let (s, at, expects) = c.requires in
    let next = got _ _ c.in-Some.lexeme c.in-Some.ensures.lookup in
    let pushed = chosen _ _ _ _ c.push.ensures.items (sym c.map_err.ensures.variant ∙ ap is_ok c.in_ok-map_err.was) in
    read_place _ _ _ _ _ s _ _ _ c.in-Some.lexeme.now at expects next.0 next.1 c.if-not-is_class.ensures.same c.if-expected-gt-MOST_OPEN.false pushed
