use Rattle.std.proofs.Common.{◌∙◌, sym, ap}
use Rattle.pq_grammar.specs.Ahead.{ahead, chosen}
use Rattle.pq_grammar.proofs.Steps.{part_place, part_falls, refuses_part}
use Rattle.pq_grammar.proofs.parser.Parser.expand.Goals as goal

-- no alternative can be taken
pub returns-in_default-clause-err : goal.returns-in_default-clause-err
returns-in_default-clause-err c = refuses_part _ _ _ _ c.args.sort _ _ (ap (λ o. chosen c.args.sort (ahead o)) (sym c.next_class.ensures)
    ∙ sym c.in_default.ensures) c.requires

-- one was put on the stack
pub returns-clause-place : goal.returns-clause-place
returns-clause-place c =
    part_place _ _ _ _ c.args.sort c.in-Some.alternative.now _ _ _ (ap (λ o. chosen c.args.sort (ahead o)) (sym c.next_class.ensures)
    ∙ sym c.in-Some.ensures) c.in_ok-push_reversed.ensures.items c.requires

-- what is before the next token weighs less
pub returns-clause-falls : goal.returns-clause-falls
returns-clause-falls c = part_falls c.args.sort _ c.in-Some.alternative.now _ _ (sym c.in-Some.ensures) c.in_ok-push_reversed.ensures.items
