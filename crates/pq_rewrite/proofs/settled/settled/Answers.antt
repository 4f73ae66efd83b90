use Rattle.std.proofs.Common.{subst}
use Rattle.pq_fields.specs.Writes.{AllFit}
use Rattle.pq_store.specs.Store.{HasAt}
use Rattle.pq_rewrite.specs.Settled.{IsSettledFrom}
use Rattle.pq_rewrite.proofs.SettledTrees.{settled_whole, writable_fields}
use Rattle.pq_rewrite.proofs.settled.settled.Goals as goal

pub returns-clause-settled : goal.returns-clause-settled
returns-clause-settled c =
    let fits = subst AllFit c.writes.view_is c.writes.invariant in
    let from : HasAt (IsSettledFrom writable_fields c.args.writes.now c.none.result) c.settled_from.new.store c.in_ok-id.id = c.in_ok-id.ensures.settled in (
      from.0,
      from.1,
      settled_whole c.args.writes.now from.0 fits
          (subst (λ done. IsSettledFrom writable_fields c.args.writes.now done from.0) c.none.ensures from.2),
    )
