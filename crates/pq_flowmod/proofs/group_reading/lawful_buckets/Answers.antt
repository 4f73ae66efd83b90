use Rattle.std.proofs.Common.{◌≡◌, ◌∙◌, ap, sym, subst, map}
use Rattle.std.proofs.lemmas.Bool.{both_ways}
use Rattle.pq_model.specs.Lawful.{HasBuckets}
use Rattle.pq_flowmod.proofs.Parts.{each_readable}
use Rattle.pq_flowmod.proofs.group_reading.lawful_buckets.Goals as goal

-- these are not buckets
pub returns-in_default-clause-said : goal.returns-in_default-clause-said
returns-in_default-clause-said c = λ whole law short is. rw c.in_default.is at c.in_ok-buckets.ensures whole (each_readable whole law.1 short) is

-- lawful buckets would be these
pub returns-then-not-are_buckets-clause-said : goal.returns-then-not-are_buckets-clause-said
returns-then-not-are_buckets-clause-said c = λ whole law short is.
    let read : map (λ b. b.items) c.in-Some.buckets.items ≡ whole = rw c.in-Some.is at c.in_ok-buckets.ensures whole (each_readable whole law.1 short) is in
    let same : map (λ b. b.items) c.deref.result.now ≡ whole = ap (map (λ b. b.items)) c.deref.ensures.value ∙ read in
    both_ways c.are_buckets.result c.if-not-are_buckets.true (c.are_buckets.ensures.1 (subst HasBuckets (sym same) law))

-- these are the buckets
pub returns-clause-said : goal.returns-clause-said
returns-clause-said c = λ whole law short is. rw c.in-Some.is at c.in_ok-buckets.ensures whole (each_readable whole law.1 short) is
