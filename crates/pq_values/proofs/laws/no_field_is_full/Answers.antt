use Rattle.pq_values.proofs.Firsts.{few_stated, none_full}
use Rattle.pq_values.proofs.laws.no_field_is_full.Goals as goal

pub returns : goal.returns
returns c = λ ss. (few_stated ss, none_full ss)
