use Rattle.std.proofs.Common.{◌∙◌, ap}
use Rattle.pq_apply.specs.Junction.{trees_at}
use Rattle.pq_letters.specs.Numbering.{packets}
use Rattle.pq_letters.proofs.Lettered.{found_leaves, found_lettered, found_partition, leaves_differ, signed_there}
use Rattle.pq_letters.proofs.signing.partition.Goals as goal

pub signatures_of-requires-clause-leaves : goal.signatures_of-requires-clause-leaves
signatures_of-requires-clause-leaves c =
    rw c.deref.ensures.value (found_leaves c.signed_node.new.into c.in_ok-node.node c.in_ok-found.found.items c.in_ok-found.ensures)

pub signatures_of-requires-clause-differ : goal.signatures_of-requires-clause-differ
signatures_of-requires-clause-differ c =
    rw c.deref.ensures.value (leaves_differ c.signed_node.new.into c.in_ok-node.node c.in_ok-found.found.items c.in_ok-found.ensures)

pub numbered-requires-clause-node : goal.numbered-requires-clause-node
numbered-requires-clause-node c = signed_there (trees_at c.args.store.now c.args.preds.now) c.signed_node.new.into c.in_ok-node.node c.in_ok-node.ensures.signed

pub invariant_of-result : goal.invariant_of-result
invariant_of-result c =
    found_lettered c.signed_node.new.into c.in_ok-node.node c.in_ok-found.found.items
    (trees_at c.args.store.now c.args.preds.now) c.in_ok-signatures.signatures.keys c.numbered.new.into c.in_ok-root.root
    c.in_ok-least.least.items
    c.in_ok-found.ensures c.in_ok-node.ensures.signed (rw c.deref.ensures.value at c.in_ok-signatures.ensures) c.in_ok-root.ensures.numbers
    (c.in_ok-least.ensures ∙ ap packets c.deref-2.ensures.value)

pub returns-clause-partition : goal.returns-clause-partition
returns-clause-partition c =
    found_partition c.signed_node.new.into c.in_ok-node.node c.in_ok-found.found.items
    (trees_at c.args.store.now c.args.preds.now) c.in_ok-signatures.signatures.keys c.numbered.new.into c.in_ok-root.root
    c.in_ok-least.least.items
    c.in_ok-found.ensures c.in_ok-node.ensures.signed (rw c.deref.ensures.value at c.in_ok-signatures.ensures) c.in_ok-root.ensures.numbers
    (c.in_ok-least.ensures ∙ ap packets c.deref-2.ensures.value)
