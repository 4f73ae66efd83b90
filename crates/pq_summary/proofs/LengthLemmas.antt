-- The bytes of messages are as long as their parts.
use Rattle.std.proofs.Common.{◌≡◌, ℕ, ◌+◌, ◌*◌, Bool, true, false, eqb, List, [], ◌∷◌, ◌++◌, length, replicate, Option, None, Some, refl, ap, ◌∙◌, arith}
use Rattle.std.specs.Prelude.{All, cond, sum_by}
use Rattle.std.specs.Int.{w16, w32, w128, to_be_bytes}
use Rattle.std.specs.List.{flat_map}
use Rattle.std.proofs.lemmas.List.{length-append, length-replicate}
use Rattle.std.proofs.lemmas.List.Elements.{All-nil, All-head, All-tail, All-weaker}
use Rattle.std.proofs.lemmas.List.Sums.{sum_by-cons}
use Rattle.pq_fields.specs.declared.field.Field.{Field}
use Rattle.pq_fields.specs.declared.field.Field.TheVariants.{Switch, Port, EthType, IpProto, EthSrc, EthDst, Ipv4Src, Ipv4Dst, TcpSrc}
use Rattle.pq_fields.specs.declared.field.Field.TheVariants.{TcpDst, UdpSrc, UdpDst, Ipv6Src, Ipv6Dst}
use Rattle.pq_model.specs.declared.action.Action.{Action}
use Rattle.pq_model.specs.declared.action.Action.TheVariants.{Output, PushVlan, PopVlan, Group, SetVlan, SetField}
use Rattle.pq_model.specs.declared.flow_mod.FlowCommand.{FlowCommand}
use Rattle.pq_model.specs.declared.flow_mod.FlowCommand.TheVariants.{Add as AddFlow, DeleteAll, DeleteStrict}
use Rattle.pq_model.specs.declared.group_mod.GroupCommand.{GroupCommand}
use Rattle.pq_model.specs.declared.group_mod.GroupCommand.TheVariants.{Add as AddGroup, Modify, Delete}
use Rattle.pq_model.specs.declared.message.Message.{Message}
use Rattle.pq_model.specs.declared.message.Message.TheVariants.{Flow, Group as Grouping, Barrier}
use Rattle.pq_model.specs.Lawful.{IsLawfulAction, IsLawfulBucket, IsLawfulCommand, IsLawfulContent, IsLawfulFlow, IsLawfulGroup, IsLawfulGrouping, IsSettable}
use Rattle.pq_model.specs.MatchFields.{MatchFields}
use Rattle.pq_model.specs.Mods.{FlowValue, GroupValue}
use Rattle.pq_model.specs.Spelling.{action_bytes, actions_bytes, apply_bytes, bucket_bytes, byte, flow_body, goto_bytes, group_body}
use Rattle.pq_model.specs.Spelling.{mac_bytes, match_bytes, match_oxms}
use Rattle.pq_model.specs.Spelling.{message_bytes, ones32, ones128, oxm, oxm_masked, padding, stated, stated_masked, with_header}
use Rattle.pq_summary.specs.Lengths.{action_length, actions_length, apply_length, bucket_length, flow_length, goto_length, group_length}
use Rattle.pq_summary.specs.Lengths.{masked_length, match_length, message_length, oxms_length, stated_length}

-- where the bytes of each element are so long, those of all are as long together
pub all_long : {X : Type 0} (bytes : X → List ℕ) (size : X → ℕ) (xs : List X) → All (λ x. length (bytes x) ≡ size x) xs
    → length (flat_map bytes xs) ≡ sum_by size xs
all_long bytes size [] each = refl
all_long bytes size (x ∷ xs) each =
    let here = All-head (λ y. length (bytes y) ≡ size y) x xs each in
    let rest = all_long bytes size xs (All-tail (λ y. length (bytes y) ≡ size y) x xs each) in
    omega (arith, here, rest, length-append (bytes x) (flat_map bytes xs), sum_by-cons size x xs)

-- where they are all of one length
pub each_long : {X : Type 0} (bytes : X → List ℕ) (size : ℕ) → ((x : X) → length (bytes x) ≡ size) → (xs : List X)
    → length (flat_map bytes xs) ≡ size * length xs
each_long bytes size each [] = omega arith
each_long bytes size each (x ∷ xs) = omega (arith, each x, each_long bytes size each xs, length-append (bytes x) (flat_map bytes xs))

-- Matches.

stated_long : (field size : ℕ) (bytes : ℕ → List ℕ) → ((n : ℕ) → length (bytes n) ≡ size) → (x : Option ℕ)
    → length (stated field bytes x) ≡ stated_length size x
stated_long field size bytes long None = refl
stated_long field size bytes long (Some n) = omega (arith, long n)

masked_long : (field size : ℕ) (bytes : ℕ → List ℕ) → ((n : ℕ) → length (bytes n) ≡ size) → (ones : ℕ) (x : Option (ℕ × ℕ))
    → length (stated_masked field bytes ones x) ≡ masked_length size ones x
masked_long field size bytes long ones None = refl
masked_long field size bytes long ones (Some a) = by (eqb a.1 ones)
  where
    by : (b : Bool) → length (cond b (oxm field (bytes a.0)) (oxm_masked field (bytes a.0) (bytes a.1))) ≡ cond b (4 + size) (4 + size + size)
    by true = omega (arith, long a.0)
    by false = omega (arith, long a.0, long a.1, length-append (bytes a.0) (bytes a.1))

joined_long : (a b : List ℕ) (m n : ℕ) → length a ≡ m → length b ≡ n → length (a ++ b) ≡ m + n
joined_long a b m n p q = omega (arith, p, q, length-append a b)

oxms_long : (m : MatchFields) → length (match_oxms m) ≡ oxms_length m
unfolding match_oxms oxms_length
oxms_long m =
    let to_in_port = stated_long 0 4 (to_be_bytes w32) (λ n. refl) m.in_port in
    let to_vlan = joined_long _ (stated 6 (to_be_bytes w16) m.vlan) _ _ to_in_port (stated_long 6 2 (to_be_bytes w16) (λ n. refl) m.vlan) in
    let to_eth_type = joined_long _ (stated 5 (to_be_bytes w16) m.eth_type) _ _ to_vlan (stated_long 5 2 (to_be_bytes w16) (λ n. refl) m.eth_type) in
    let to_ip_proto = joined_long _ (stated 10 byte m.ip_proto) _ _ to_eth_type (stated_long 10 1 byte (λ n. refl) m.ip_proto) in
    let to_eth_src = joined_long _ (stated 4 mac_bytes m.eth_src) _ _ to_ip_proto (stated_long 4 6 mac_bytes (λ n. refl) m.eth_src) in
    let to_eth_dst = joined_long _ (stated 3 mac_bytes m.eth_dst) _ _ to_eth_src (stated_long 3 6 mac_bytes (λ n. refl) m.eth_dst) in
    let to_ipv4_src = joined_long _ (stated_masked 11 (to_be_bytes w32) ones32 m.ipv4_src) _ _ to_eth_dst
    (masked_long 11 4 (to_be_bytes w32) (λ n. refl) ones32 m.ipv4_src) in
    let to_ipv4_dst = joined_long _ (stated_masked 12 (to_be_bytes w32) ones32 m.ipv4_dst) _ _ to_ipv4_src
    (masked_long 12 4 (to_be_bytes w32) (λ n. refl) ones32 m.ipv4_dst) in
    let to_tcp_src = joined_long _ (stated 13 (to_be_bytes w16) m.tcp_src) _ _ to_ipv4_dst (stated_long 13 2 (to_be_bytes w16) (λ n. refl) m.tcp_src) in
    let to_tcp_dst = joined_long _ (stated 14 (to_be_bytes w16) m.tcp_dst) _ _ to_tcp_src (stated_long 14 2 (to_be_bytes w16) (λ n. refl) m.tcp_dst) in
    let to_udp_src = joined_long _ (stated 15 (to_be_bytes w16) m.udp_src) _ _ to_tcp_dst (stated_long 15 2 (to_be_bytes w16) (λ n. refl) m.udp_src) in
    let to_udp_dst = joined_long _ (stated 16 (to_be_bytes w16) m.udp_dst) _ _ to_udp_src (stated_long 16 2 (to_be_bytes w16) (λ n. refl) m.udp_dst) in
    let to_ipv6_src = joined_long _ (stated_masked 26 (to_be_bytes w128) ones128 m.ipv6_src) _ _ to_udp_dst
    (masked_long 26 16 (to_be_bytes w128) (λ n. refl) ones128 m.ipv6_src) in
    joined_long _ (stated_masked 27 (to_be_bytes w128) ones128 m.ipv6_dst) _ _ to_ipv6_src (masked_long 27 16 (to_be_bytes w128) (λ n. refl) ones128 m.ipv6_dst)

match_long : (m : MatchFields) → length (match_bytes m) ≡ match_length m
unfolding match_bytes
match_long m =
    let front : List ℕ = 0 ∷ 1 ∷ (to_be_bytes w16 (4 + length (match_oxms m)) ++ match_oxms m) in
    let long : length front ≡ 4 + oxms_length m = omega (arith, oxms_long m, length-append (to_be_bytes w16 (4 + length (match_oxms m))) (match_oxms m)) in
    let zeros : length (replicate (padding (length front)) 0) ≡ padding (4 + oxms_length m) =
    length-replicate {A = ℕ} (padding (length front)) 0 ∙ ap padding long in
    omega (arith, long, zeros, length-append front (replicate (padding (length front)) 0))

-- Actions.

field_long : (f : Field) (n : ℕ) → IsSettable f → length (action_bytes (SetField f n)) ≡ 16
unfolding action_bytes
field_long Switch n settable = absurd settable
field_long Port n settable = absurd settable
field_long EthType n settable = absurd settable
field_long IpProto n settable = absurd settable
field_long EthSrc n settable = refl
field_long EthDst n settable = refl
field_long Ipv4Src n settable = refl
field_long Ipv4Dst n settable = refl
field_long TcpSrc n settable = refl
field_long TcpDst n settable = refl
field_long UdpSrc n settable = refl
field_long UdpDst n settable = refl
field_long Ipv6Src n settable = absurd settable
field_long Ipv6Dst n settable = absurd settable

action_long : (a : Action) → IsLawfulAction a → length (action_bytes a) ≡ action_length a
unfolding action_bytes
action_long (Output p) lawful = refl
action_long PushVlan lawful = refl
action_long PopVlan lawful = refl
action_long (Group n) lawful = refl
action_long (SetVlan w) lawful = refl
action_long (SetField f n) lawful = field_long f n lawful.0

actions_long : (as_ : List Action) → All IsLawfulAction as_ → length (actions_bytes as_) ≡ actions_length as_
actions_long as_ lawful =
    all_long action_bytes action_length as_
    (All-weaker IsLawfulAction (λ a. length (action_bytes a) ≡ action_length a) action_long as_ lawful)

-- Messages.

apply_long : (as_ : List Action) → All IsLawfulAction as_ → length (apply_bytes as_) ≡ apply_length as_
unfolding apply_bytes
apply_long [] lawful = refl
apply_long (a ∷ as_) lawful =
    let bytes = actions_bytes (a ∷ as_) in
    omega (arith, actions_long (a ∷ as_) lawful, length-append (to_be_bytes w16 (8 + length bytes)) (replicate 4 0 ++ bytes))

goto_long : (goto : Option ℕ) → length (goto_bytes goto) ≡ goto_length goto
unfolding goto_bytes
goto_long None = refl
goto_long (Some n) = refl

actions_lawful : (command : FlowCommand) (f : FlowValue) → IsLawfulCommand command f → All IsLawfulAction f.actions
actions_lawful AddFlow f lawful = lawful.1
actions_lawful DeleteAll f lawful = rw lawful.4.0 (All-nil IsLawfulAction)
actions_lawful DeleteStrict f lawful = rw lawful.2.0 (All-nil IsLawfulAction)

flow_long : (f : FlowValue) → IsLawfulFlow f → length (message_bytes (Flow f)) ≡ flow_length f
unfolding message_bytes with_header flow_body
flow_long f lawful =
    let matched = match_bytes f.matching in
    let applied = apply_bytes f.actions in
    let goes = goto_bytes f.goto in
    omega (
      arith,
      match_long f.matching,
      apply_long f.actions (actions_lawful f.command f lawful.command),
      goto_long f.goto,
      length-append matched applied,
      length-append (matched ++ applied) goes,
    )

bucket_long : (as_ : List Action) → IsLawfulBucket as_ → length (bucket_bytes as_) ≡ bucket_length as_
unfolding bucket_bytes
bucket_long as_ lawful = omega (arith, actions_long as_ lawful.each)

buckets_lawful : (command : GroupCommand) (g : GroupValue) → IsLawfulGrouping command g → All IsLawfulBucket g.buckets
buckets_lawful AddGroup g lawful = lawful.1.1
buckets_lawful Modify g lawful = lawful.1.1
buckets_lawful Delete g lawful = rw lawful.1 (All-nil IsLawfulBucket)

group_long : (g : GroupValue) → IsLawfulGroup g → length (message_bytes (Grouping g)) ≡ group_length g
unfolding message_bytes with_header group_body
group_long g lawful =
    let each = All-weaker IsLawfulBucket (λ b. length (bucket_bytes b) ≡ bucket_length b) bucket_long g.buckets (buckets_lawful g.command g lawful.command) in
    omega (arith, all_long bucket_bytes bucket_length g.buckets each)

barrier_long : (xid : ℕ) → length (message_bytes (Barrier xid)) ≡ 8
unfolding message_bytes with_header
barrier_long xid = refl

pub message_long : (m : Message) → IsLawfulContent m → length (message_bytes m) ≡ message_length m
message_long (Flow f) lawful = flow_long f lawful
message_long (Grouping g) lawful = group_long g lawful
message_long (Barrier xid) lawful = barrier_long xid
