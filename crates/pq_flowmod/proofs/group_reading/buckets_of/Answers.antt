use Rattle.std.proofs.Common.{◌≡◌, ◌∙◌, ◌++◌, ◌∷◌, [], map, ap}
use Rattle.std.proofs.lemmas.List.{map-append}
use Rattle.pq_model.specs.Spelling.{bucket_bytes}
use Rattle.pq_flowmod.specs.Reading.{IsReadable}
use Rattle.pq_flowmod.proofs.Parts.{bucket_next, bucket_long}
use Rattle.pq_flowmod.proofs.Leading.{one_read, none_read, all_read, some_left, none_left}
use Rattle.pq_flowmod.proofs.group_reading.buckets_of.Goals as goal

-- no length is told, so no bucket is there
pub returns-in_default : goal.returns-in_default
returns-in_default c =
    let left = some_left c.loop-rest.rest.now c.is_empty.result c.is_empty.ensures c.loop-rest-test.true in
    none_read bucket_bytes IsReadable c.args.bytes.now (map (λ b. b.items) c.loop-rest.buckets.items) c.loop-rest.rest.now left
    (λ a more law is. let told = c.in_default.ensures.told a more law.1 is in absurd cc) c.loop-rest.invariant

-- what is there has no lawful actions
pub returns-in_default-2 : goal.returns-in_default-2
returns-in_default-2 c =
    let left = some_left c.loop-rest.rest.now c.is_empty.result c.is_empty.ensures c.loop-rest-test.true in
    none_read bucket_bytes IsReadable c.args.bytes.now (map (λ b. b.items) c.loop-rest.buckets.items) c.loop-rest.rest.now left
    (λ a more law is.
    let next = bucket_next c.loop-rest.rest.now c.in-Some.size a more law is (c.in-Some.ensures.told a more law.1 is) in
    rw c.in_default-2.is at c.in_ok-actions.ensures a law.0 next.0)
    c.loop-rest.invariant

-- one more bucket
pub loop-rest-preserved : goal.loop-rest-preserved
loop-rest-preserved c =
    let left = some_left c.loop-rest.rest.now c.is_empty.result c.is_empty.ensures c.loop-rest-test.true in
    let longer : map (λ b. b.items) c.push.new.self.items ≡ map (λ b. b.items) c.loop-rest.buckets.items ++ c.in-Some-2.actions.items ∷ [] =
    ap (map (λ b. b.items)) c.in_ok-push.ensures.items ∙ map-append (λ b. b.items) c.loop-rest.buckets.items (c.in-Some-2.actions ∷ []) in
    rw longer (one_read bucket_bytes IsReadable c.args.bytes.now (map (λ b. b.items) c.loop-rest.buckets.items) c.loop-rest.rest.now
    c.in-Some-2.actions.items _ left
    (λ a more law is.
    let next = bucket_next c.loop-rest.rest.now c.in-Some.size a more law is (c.in-Some.ensures.told a more law.1 is) in
    ((rw c.in-Some-2.is at c.in_ok-actions.ensures a law.0 next.0), next.1))
    c.loop-rest.invariant)

-- nothing is left
pub returns : goal.returns
returns c = λ whole law is.
    all_read bucket_bytes IsReadable bucket_long c.args.bytes.now (map (λ b. b.items) c.loop-rest.buckets.items) c.loop-rest.rest.now
    (none_left c.loop-rest.rest.now c.is_empty.result c.is_empty.ensures c.loop-rest-test.false) c.loop-rest.invariant whole law is
