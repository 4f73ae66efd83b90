use Rattle.pq_grammar.proofs.OneFault.{one_fault, no_fault}
use Rattle.pq_grammar.proofs.laws.has_one_fault.Goals as goal

-- a second one would be the front of a sentence, or none is
pub returns : goal.returns
returns c = record { one = one_fault; none = no_fault }
