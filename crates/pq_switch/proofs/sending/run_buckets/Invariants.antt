use Rattle.std.proofs.Common.{◌≡◌, ◌++◌, drop}
use Rattle.std.specs.List.{flat_map}
use Rattle.pq_model.specs.SwitchMachine.{emits_in_bucket, runs}
use Rattle.pq_switch.proofs.sending.run_buckets.Given as goal

-- what is sent, with what the buckets left send, is what all send
abbrev pub invariant-loop-bucket : goal.invariant-loop-bucket
invariant-loop-bucket l = l.sent.items ++ flat_map (λ b. runs emits_in_bucket b l.x) (drop l.bucket-index l.buckets) ≡ l.initial.sent.items
    ++ flat_map (λ b. runs emits_in_bucket b l.x) l.buckets
