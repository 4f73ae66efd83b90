use Rattle.pq_join.proofs.Sights.{HasParts, has_parts, parts_fit, parts_make}
use Rattle.pq_join.proofs.sight.sight.Goals as goal
use Rattle.pq_join.proofs.sight.sight.Goals.{After-at_number-letter}

-- the letters at the switch, and its ports
parts : (c : After-at_number-letter)
    → HasParts c.args.topology.now c.args.letters.now c.args.datapath c.store-trees.result.now c.at_number-letter.result c.in_ok-kinds.kinds
    c.in_ok-kinds.ports
parts c =
    has_parts c.args.topology.now c.args.letters.now c.args.datapath c.store-trees.result.now c.root.result c.at_number-letter.result
    c.in_ok-kinds.kinds c.in_ok-kinds.ports
    c.store-trees.ensures c.root.ensures.root c.root.ensures.within c.at_number-letter.ensures.restricts c.in_ok-kinds.ensures

pub product-requires-clause-fit : goal.product-requires-clause-fit
product-requires-clause-fit c =
    parts_fit c.args.topology.now c.args.letters.now c.args.datapath c.store-trees.result.now c.at_number-letter.result c.in_ok-kinds.kinds c.in_ok-kinds.ports
    (parts (goal.at.product-requires-clause-fit c).After-at_number-letter) c.requires.fits

pub returns : goal.returns
returns c =
    parts_make c.args.topology.now c.args.letters.now c.args.datapath c.store-trees.result.now c.at_number-letter.result c.in_ok-kinds.kinds c.in_ok-kinds.ports
    (parts (goal.at.returns c).After-at_number-letter) _ (λ l p s h. let first = h.2 in let second = h.3 in let answer = h.4 in
    cc) c.product.new.into c.in_ok-id.id c.in_ok-id.ensures.product
