use Rattle.pq_apply.proofs.Restricted.{restricted_tree}
use Rattle.pq_apply.proofs.restriction.restrict.Goals as goal

pub returns-clause-restricts : goal.returns-clause-restricts
returns-clause-restricts g c =
    restricted_tree c.args.field c.args.value c.args.store.now c.restricted.new.store c.args.node c.in_ok-id.id c.restricted.ensures.keeps
    c.in_ok-id.ensures.restricted
