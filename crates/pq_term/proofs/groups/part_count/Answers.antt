use Rattle.std.proofs.Common.{rules, tests, eqb}
use Rattle.std.proofs.lemmas.Iterator.Consumers.{count_from_yields_List}
use Rattle.std.proofs.lemmas.Iterator.Splits.{YieldsList-from_slice_split}
use Rattle.pq_term.proofs.groups.part_count.Goals as goal

-- the parts are those that the split gives
pub returns : goal.returns
returns c = count_from_yields_List _ _ c.count.ensures.ran
    (YieldsList-from_slice_split _ (λ b. eqb b c.args.separator) c.args.text.now c.split.ensures.rest c.split.ensures.done
    c.split.ensures.closure (λ x r q k. search (rules, tests)))
