use Rattle.pq_rewrite.proofs.Examples.{leaf_after}
use Rattle.call_tests.proofs.rewriting.copies_come_after_writes.Goals as goal

pub after-requires-clause-fits : goal.after-requires-clause-fits
after-requires-clause-fits g c = leaf_after c.none-2.result c.leaf.new.self c.in_ok-leaf.leaf c.of.result c.in_ok-leaf.ensures.leaf
