use Rattle.pq_rewrite.proofs.Rewritings.{one_rewriting}
use Rattle.pq_rewrite.proofs.canonical.equal_rewritings_are_one.Goals as goal

pub returns : goal.returns
returns c = one_rewriting c.args.store.now c.view.ensures.canonical
