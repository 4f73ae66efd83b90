use Rattle.pq_letters.proofs.Numbered.{fits_with_leaf, numbers_product}
use Rattle.pq_letters.proofs.numbering.numbered.Goals as goal

pub product-requires-clause-fit : goal.product-requires-clause-fit
product-requires-clause-fit c = fits_with_leaf c.args.signed.now c.leaf.new.self c.args.node c.in_ok-leaf.leaf c.requires.fits c.in_ok-leaf.ensures.leaf

pub returns-clause-numbers : goal.returns-clause-numbers
returns-clause-numbers c =
    numbers_product c.args.signatures.now.keys _ (λ s b n h. let key = h.2 in let answer = h.4 in
    cc) c.args.signed.now c.leaf.new.self c.args.node c.in_ok-leaf.leaf c.product.new.into c.in_ok-id.id
    c.in_ok-leaf.ensures.leaf c.in_ok-id.ensures.product
