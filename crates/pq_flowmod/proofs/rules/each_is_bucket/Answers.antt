use Rattle.std.proofs.Common.{◌∙◌, sym, subst, refl, arith}
use Rattle.std.proofs.lemmas.Bool.{false≢true}
use Rattle.pq_lists.proofs.Holding.{all_map_read}
use Rattle.pq_model.specs.Lawful.{IsLawfulBucket}
use Rattle.pq_flowmod.proofs.RuleLaws.{all_more, all_done, all_inside}
use Rattle.pq_flowmod.proofs.rules.each_is_bucket.Goals as goal

-- a bucket that is not lawful
pub returns-then-not-is_bucket : goal.returns-then-not-is_bucket
returns-then-not-is_bucket c = (
  (λ t. absurd (false≢true t)),
  λ all. sym c.if-not-is_bucket.true
      ∙ c.is_bucket.ensures.1
      (rw c.deref.ensures.value
      (all_map_read c.args.buckets.now (λ b. b.items) IsLawfulBucket _ c.bucket-item.result all c.loop-bucket-test.true c.bucket-item.is)),
)

-- one more bucket is lawful
pub loop-bucket-preserved : goal.loop-bucket-preserved
loop-bucket-preserved c =
    let here : IsLawfulBucket c.bucket-item.result.items = rw c.deref.ensures.value at c.is_bucket.ensures.0 c.if-not-is_bucket.false in
    all_more (λ b. IsLawfulBucket b.items) c.args.buckets.now c.loop-bucket.bucket-index c.bucket-item.result c.loop-bucket-test.true
    (subst (λ b. IsLawfulBucket b.items) c.bucket-item.is here) c.loop-bucket.invariant

-- all are
pub returns : goal.returns
returns c = (
  (λ t. all_inside (λ b. b.items) IsLawfulBucket c.args.buckets.now
      (all_done (λ b. IsLawfulBucket b.items) c.args.buckets.now c.loop-bucket.bucket-index
      (omega (arith, c.loop-bucket-test.false)) c.loop-bucket.invariant)),
  λ all. refl,
)
