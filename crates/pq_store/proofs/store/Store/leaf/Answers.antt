use Rattle.std.proofs.Common.{refl}
use Rattle.pq_store.specs.Tree.Tree.{Tip}
use Rattle.pq_store.proofs.Joins.{leaf_diagram}
use Rattle.pq_store.proofs.store.Store.leaf.Goals as goal

pub put-requires : goal.put-requires
put-requires g c = record { tree = Tip c.args.value; is = refl; diagram = leaf_diagram c.args.value; past = tt }
