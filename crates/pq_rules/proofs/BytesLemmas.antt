-- How long the bytes of messages are at the most.
use Rattle.std.proofs.Common.{ℕ, ◌+◌, ◌*◌, ◌-◌, ◌%◌, ◌^◌, ◌<◌, ◌≤◌, List, [], ◌∷◌, ◌++◌, length}
use Rattle.std.proofs.Common.{replicate, Option, None, Some, arith}
use Rattle.std.specs.Int.{w16, to_be_bytes}
use Rattle.std.specs.List.{AllByRecursion, flat_map}
use Rattle.std.proofs.Math.Nat.{mod-lt}
use Rattle.std.proofs.lemmas.List.{length-append, length-replicate}
use Rattle.pq_fields.specs.declared.field.Field.{Field}
use Rattle.pq_fields.specs.declared.field.Field.TheVariants.{Switch, Port, EthType, IpProto, EthSrc, EthDst, Ipv4Src, Ipv4Dst, TcpSrc}
use Rattle.pq_fields.specs.declared.field.Field.TheVariants.{TcpDst, UdpSrc, UdpDst, Ipv6Src, Ipv6Dst}
use Rattle.pq_model.specs.declared.action.Action.{Action}
use Rattle.pq_model.specs.declared.action.Action.TheVariants.{Output, PushVlan, PopVlan, Group, SetVlan, SetField}
use Rattle.pq_model.specs.declared.message.Message.TheVariants.{Flow, Group as Grouping}
use Rattle.pq_model.specs.MatchFields.{MatchFields}
use Rattle.pq_model.specs.Mods.{FlowValue, GroupValue}
use Rattle.pq_model.specs.Spelling.{action_bytes, actions_bytes, apply_bytes, bucket_bytes, flow_body, goto_bytes, group_body}
use Rattle.pq_model.specs.Spelling.{match_bytes, match_oxms}
use Rattle.pq_model.specs.Spelling.{message_bytes, padding, with_header}
use Rattle.pq_model.proofs.Lengths.{oxms_short}
use Rattle.pq_layout.specs.Messages.{delete_entries, delete_groups}

-- An action takes 16 bytes at the most.

field_long : (f : Field) (n : ℕ) → length (action_bytes (SetField f n)) ≤ 16
unfolding action_bytes
field_long Switch n = omega arith
field_long Port n = omega arith
field_long EthType n = omega arith
field_long IpProto n = omega arith
field_long EthSrc n = omega arith
field_long EthDst n = omega arith
field_long Ipv4Src n = omega arith
field_long Ipv4Dst n = omega arith
field_long TcpSrc n = omega arith
field_long TcpDst n = omega arith
field_long UdpSrc n = omega arith
field_long UdpDst n = omega arith
field_long Ipv6Src n = omega arith
field_long Ipv6Dst n = omega arith

action_long : (a : Action) → length (action_bytes a) ≤ 16
unfolding action_bytes
action_long (Output p) = omega arith
action_long PushVlan = omega arith
action_long PopVlan = omega arith
action_long (Group n) = omega arith
action_long (SetVlan w) = omega arith
action_long (SetField f n) = field_long f n

actions_long : (as_ : List Action) → length (actions_bytes as_) ≤ 16 * length as_
actions_long [] = omega arith
actions_long (a ∷ as_) = omega (arith, length-append (action_bytes a) (actions_bytes as_), action_long a, actions_long as_)

-- A match takes 176 bytes at the most.

padding_short : (n : ℕ) → padding n ≤ 7
padding_short n = let some : 0 < 8 = omega arith in omega (arith, mod-lt (8 - n % 8) some)

match_short : (m : MatchFields) → length (match_bytes m) ≤ 176
unfolding match_bytes
match_short m =
    let front : List ℕ = 0 ∷ 1 ∷ (to_be_bytes w16 (4 + length (match_oxms m)) ++ match_oxms m) in
    let zeros : List ℕ = replicate (padding (length front)) 0 in
    omega (
      arith,
      oxms_short m,
      length-append front zeros,
      length-replicate {A = ℕ} (padding (length front)) 0,
      padding_short (length front),
      length-append
          (to_be_bytes w16 (4 + length (match_oxms m))) (match_oxms m),
    )

-- Messages.

apply_short : (as_ : List Action) → length (apply_bytes as_) ≤ 8 + 16 * length as_
unfolding apply_bytes
apply_short [] = omega arith
apply_short (a ∷ as_) =
    let bytes = actions_bytes (a ∷ as_) in
    omega (arith, actions_long (a ∷ as_), length-append (to_be_bytes w16 (8 + length bytes)) (replicate 4 0 ++ bytes))

goto_short : (goto : Option ℕ) → length (goto_bytes goto) ≤ 8
unfolding goto_bytes
goto_short None = omega arith
goto_short (Some n) = omega arith

-- an Add with few actions
pub flow_short : (f : FlowValue) → length f.actions ≤ 1000 → length (message_bytes (Flow f)) < 2 ^ 16
unfolding message_bytes with_header flow_body
flow_short f few =
    let matched = match_bytes f.matching in
    let applied = apply_bytes f.actions in
    let goes = goto_bytes f.goto in
    omega (arith, few, match_short f.matching, apply_short f.actions, goto_short f.goto, length-append matched applied, length-append (matched ++ applied) goes)

bucket_short : (as_ : List Action) → length as_ ≤ 10 → length (bucket_bytes as_) ≤ 176
unfolding bucket_bytes
bucket_short as_ few = omega (arith, few, actions_long as_)

buckets_short : (bs : List (List Action)) → AllByRecursion (λ b. length b ≤ 10) bs → length (flat_map bucket_bytes bs) ≤ 176 * length bs
buckets_short [] few = omega arith
buckets_short (b ∷ bs) few = omega (arith, length-append (bucket_bytes b) (flat_map bucket_bytes bs), bucket_short b few.0, buckets_short bs few.1)

-- an ADD of a group with at most 256 buckets of few actions
pub group_short : (g : GroupValue) → AllByRecursion (λ b. length b ≤ 10) g.buckets → length g.buckets ≤ 256 → length (message_bytes (Grouping g)) < 2 ^ 16
unfolding message_bytes with_header group_body
group_short g few small = omega (arith, small, buckets_short g.buckets few)

pub entries_away_short : length (message_bytes (Flow delete_entries)) < 2 ^ 16
entries_away_short = flow_short delete_entries (omega arith)

pub groups_away_short : length (message_bytes (Grouping delete_groups)) < 2 ^ 16
groups_away_short = group_short delete_groups tt (omega arith)
