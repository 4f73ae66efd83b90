use Rattle.std.proofs.Common.{◌∙◌, ◌++◌, ◌∷◌, [], ap, is_ok}
use Rattle.std.proofs.ResultArms.{chosen}
use Rattle.pq_grammar.specs.declared.symbol.Symbol.TheVariants.{Part}
use Rattle.pq_grammar.proofs.Steps.{begins_place}
use Rattle.pq_grammar.proofs.parser.Parser.begin.Goals as goal

-- one symbol was pushed
pub returns-clause-place : goal.returns-clause-place
returns-clause-place c =
    λ xs. begins_place c.args.start xs _ _ c.new.ensures.items (chosen _ _ _ _ c.push.ensures.items (ap is_ok c.in_ok-push.was)
    ∙ ap (λ ss. ss ++ Part c.args.start ∷ []) c.new-stack.ensures.items)
