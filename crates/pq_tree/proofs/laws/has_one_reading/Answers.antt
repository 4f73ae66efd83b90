use Rattle.pq_tree.proofs.OneReading.{one_forest, one_text_fault, no_text_fault}
use Rattle.pq_tree.proofs.laws.has_one_reading.Goals as goal

-- the division, the marks and the first fault are each the only one
pub returns : goal.returns
returns c = record { forest = one_forest; fault = one_text_fault; none = no_text_fault }
