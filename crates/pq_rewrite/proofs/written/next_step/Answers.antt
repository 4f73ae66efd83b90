use Rattle.pq_store.specs.Tree.Tree.{Fork}
use Rattle.pq_rewrite.proofs.written.next_step.Goals as goal

pub known-requires : goal.known-requires
known-requires g c =
    let shows = c.in-Node.ensures.shows in
    (c.in-Node.ensures.diagrams c.args.node (Fork c.in-Node.test shows.yes_tree shows.no_tree) shows.is).lawful.0
