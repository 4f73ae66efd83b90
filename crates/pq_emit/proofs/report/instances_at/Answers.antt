use Rattle.std.proofs.Common.{◌≡◌, ◌++◌, ◌∷◌, [], ap, ap₂, sym, ◌∙◌}
use Rattle.pq_model.specs.Buckets.{Instance}
use Rattle.pq_emit.proofs.Reported.{one_instance}
use Rattle.pq_emit.proofs.report.instances_at.Goals as goal

-- one more instance
pub loop-number-preserved : goal.loop-number-preserved
loop-number-preserved c =
    let k = c.loop-number.number-index in
    let x = c.index-instances-number.result in
    let made : ◌≡◌ {A = Instance} (record { query = c.instance.inside.query; label = c.in_ok-copy.field-0 }) x =
    ap (λ l. record { query = c.instance.inside.query; label = l }) c.in_ok-copy.ensures ∙ c.instance.view_is in
    c.in_ok-push.ensures.items
    ∙ ap₂ (λ xs y. xs ++ y ∷ []) c.loop-number.invariant made
    ∙ sym (one_instance c.args.instances.now c.args.numbers.now k x c.loop-number-test.true
    (c.requires k 0 c.loop-number-test.true) c.index-instances-number.is)
