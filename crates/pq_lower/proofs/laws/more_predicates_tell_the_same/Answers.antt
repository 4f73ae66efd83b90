use Rattle.pq_lower.proofs.Longer.{longer_tells}
use Rattle.pq_lower.proofs.laws.more_predicates_tell_the_same.Goals as goal

pub returns : goal.returns
returns c = λ e ps more w small. longer_tells e ps more w small
