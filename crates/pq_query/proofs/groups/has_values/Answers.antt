use Rattle.pq_query.proofs.Below.{some_below}
use Rattle.pq_query.proofs.groups.has_values.Goals as goal

pub returns-in-len1-up : goal.returns-in-len1-up
returns-in-len1-up c = some_below c.args.terms.now c.in-len1-up.len_at_least
