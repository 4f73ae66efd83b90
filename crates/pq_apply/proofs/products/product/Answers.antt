use Rattle.pq_apply.proofs.Pairs.{paired_product}
use Rattle.pq_apply.proofs.products.product.Goals as goal

pub returns-clause-product : goal.returns-clause-product
returns-clause-product g c = paired_product _ c.in_ok-id.ensures.paired
