use Rattle.std.proofs.Common.{◌≡◌, List, Some, subst}
use Rattle.std.specs.Prelude.{slice_get}
use Rattle.pq_fields.specs.Packet.{Numbers}
use Rattle.pq_fields.specs.Writes.{Written}
use Rattle.pq_store.specs.Tree.{Tree, value}
use Rattle.pq_rewrite.specs.Merged.{IsMerged}
use Rattle.pq_rewrite.proofs.unions.united.Goals as goal
use Rattle.pq_rewrite.proofs.unions.united.Goals.{In_ok-id}

-- each leaf is merged of the leaves of the two
leaves_merged : (c : In_ok-id) (t u : Tree (List Written)) → slice_get c.args.store.now c.args.x ≡ Some t → slice_get c.args.store.now c.args.y ≡ Some u
    → (x : Numbers) → IsMerged (value t x) (value u x) (value c.in_ok-id.ensures.product.product x)
leaves_merged c t u t_is u_is x =
    let leaf = value c.in_ok-id.ensures.product.product x in
    let joined = c.in_ok-id.ensures.product.gives t u t_is u_is x in
    subst (λ b. IsMerged (value t x) b leaf) joined.3 (subst (λ a. IsMerged a joined.1.now leaf) joined.2 joined.4)

pub returns-clause-merges : goal.returns-clause-merges
returns-clause-merges c t u t_is u_is =
    let made = c.in_ok-id.ensures.product in
    (made.product, made.is, record { merged = leaves_merged c t u t_is u_is; tests = made.tests t u t_is u_is })
