use Rattle.pq_turning.proofs.Lawful.{few-added}
use Rattle.pq_turning.proofs.laws.deltas_of_documents_are_lawful.Goals as goal

pub returns : goal.returns
returns c d e i j h k short = c.deltas_are_lawful.ensures i j h.lawful k.lawful (few-added d i h) (few-added e j k) short
