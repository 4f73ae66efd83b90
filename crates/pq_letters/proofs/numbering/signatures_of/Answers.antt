use Rattle.pq_letters.proofs.Found.{leaf_within, more_signatures, next_signature, no_branch}
use Rattle.pq_letters.proofs.numbering.signatures_of.Goals as goal

pub view-requires : goal.view-requires
view-requires c = leaf_within c.args.signed.now c.args.found.now c.loop-each.each-index c.each-item.result c.requires.leaves
    c.loop-each-test.true c.each-item.is

pub add-requires : goal.add-requires
add-requires c =
    next_signature c.args.signed.now c.view.ensures.canonical c.args.found.now c.loop-each.signatures.keys c.loop-each.each-index
    c.each-item.result c.in-Leaf.signature.now
    c.requires.differ c.loop-each-test.true c.each-item.is c.in-Leaf.ensures.shows c.loop-each.invariant

pub unreachable-requires : goal.unreachable-requires
unreachable-requires c =
    no_branch c.args.signed.now c.args.found.now c.loop-each.each-index c.each-item.result c.requires.leaves c.loop-each-test.true
    c.each-item.is c.in-Node.ensures.shows

pub loop-each-preserved : goal.loop-each-preserved
loop-each-preserved c =
    more_signatures c.args.signed.now c.args.found.now c.loop-each.signatures.keys c.add.new.signatures.keys c.loop-each.each-index
    c.each-item.result c.in-Leaf.signature.now
    c.loop-each-test.true c.each-item.is c.in-Leaf.ensures.shows c.loop-each.invariant c.in_ok-add-in-Leaf.ensures
