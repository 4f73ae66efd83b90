use Rattle.pq_emit.proofs.OneTrees.{one_trees}
use Rattle.pq_emit.proofs.laws.one_trees.Goals as goal

pub returns : goal.returns
returns c = one_trees
