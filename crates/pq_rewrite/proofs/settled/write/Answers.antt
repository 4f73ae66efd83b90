use Rattle.std.proofs.Common.{◌∙◌, ap, subst}
use Rattle.pq_fields.specs.Writes.{with_write}
use Rattle.pq_store.specs.Store.{HasAt}
use Rattle.pq_rewrite.specs.Settled.{IsSettled}
use Rattle.pq_rewrite.proofs.Single.{is_writing}
use Rattle.pq_rewrite.proofs.settled.write.Goals as goal

pub returns-clause-writes : goal.returns-clause-writes
returns-clause-writes c =
    let made : HasAt (IsSettled c.set-writes.result) c.settled.new.store c.in_ok-id.id = c.in_ok-id.ensures.settled in
    let writes = c.set-writes.ensures ∙ ap (with_write c.args.field c.args.value) c.none.ensures in
    (made.0, made.1, is_writing c.args.field c.args.value made.0 (subst (λ w. IsSettled w made.0) writes made.2))
