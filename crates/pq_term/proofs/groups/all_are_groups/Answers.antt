use Rattle.std.proofs.Common.{rules, tests, eqb}
use Rattle.std.proofs.lemmas.Iterator.Search.{all_from_yields_List}
use Rattle.std.proofs.lemmas.Iterator.Splits.{YieldsList-from_slice_split}
use Rattle.pq_term.specs.Groups.{is_group}
use Rattle.pq_term.proofs.groups.all_are_groups.Goals as goal

-- the parts are those that the split gives
pub returns : goal.returns
returns c = all_from_yields_List (is_group c.args.group) _ _ _ c.all.ensures.ran
    (YieldsList-from_slice_split _ (λ b. eqb b c.args.separator) c.args.text.now c.split.ensures.rest c.split.ensures.done
    c.split.ensures.closure (λ x r q k. search (rules, tests))) (λ x r q k. search (rules, tests))
