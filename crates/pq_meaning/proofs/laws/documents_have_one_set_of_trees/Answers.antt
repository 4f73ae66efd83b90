use Rattle.pq_meaning.proofs.OneInstall.{one_set_of_trees}
use Rattle.pq_meaning.proofs.laws.documents_have_one_set_of_trees.Goals as goal

pub returns : goal.returns
returns c = one_set_of_trees
