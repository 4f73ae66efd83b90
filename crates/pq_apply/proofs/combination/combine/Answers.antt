use Rattle.pq_apply.proofs.Combined.{combined_product}
use Rattle.pq_apply.proofs.combination.combine.Goals as goal

pub returns-clause-product : goal.returns-clause-product
returns-clause-product g c = combined_product _ c.in_ok-id.ensures.keeps c.in_ok-id.ensures.paired
