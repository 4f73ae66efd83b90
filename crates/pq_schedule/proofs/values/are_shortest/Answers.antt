use Rattle.std.proofs.Common.{rules, tests, eqb}
use Rattle.std.proofs.lemmas.Iterator.Search.{all_from_yields_List}
use Rattle.std.proofs.lemmas.Iterator.Splits.{YieldsList-from_slice_split}
use Rattle.pq_schedule.specs.Values.{is_shortest}
use Rattle.pq_schedule.proofs.values.are_shortest.Goals as goal

-- the groups are those that the split gives
pub returns : goal.returns
returns c = all_from_yields_List is_shortest _ _ _ c.all.ensures.ran
    (YieldsList-from_slice_split _ (λ b. eqb b 58) c.args.text.now c.split.ensures.rest c.split.ensures.done c.split.ensures.closure
    (λ x r q k. search (rules, tests))) (λ x r q k. search (rules, tests))
