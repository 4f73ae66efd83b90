use Rattle.pq_apply.proofs.Examples.{two_fit}
use Rattle.call_tests.proofs.diagrams.combined.Goals as goal

pub combine-requires-clause-fit : goal.combine-requires-clause-fit
combine-requires-clause-fit c =
    let x = c.in_ok-x.ensures.example in
    two_fit c.node_of-2.new.store c.node_of-2.new.store c.in_ok-x.x c.in_ok-y.y
    (x.0, c.in_ok-y.ensures.keeps c.in_ok-x.x x.0 x.1, x.2) c.in_ok-y.ensures.example
