use Rattle.pq_grammar.proofs.OneTree.{one_sentence}
use Rattle.pq_grammar.proofs.laws.has_one_tree.Goals as goal

-- what is derived with the same tokens is the same
pub returns : goal.returns
returns c = one_sentence
