-- The actions of arrivals and of copies are lawful, and are in the order of a bucket.
use Rattle.std.proofs.Common.{◌≡◌, ◌⊎◌, inl, inr, ℕ, ◌+◌, ◌<◌, ◌≤◌, Bool, true, false, List, [], ◌∷◌, ◌++◌, Some, None, length, map, refl, arith}
use Rattle.std.specs.Prelude.{IfSome}
use Rattle.std.specs.Option.{unwrap_or}
use Rattle.std.specs.List.{AllByRecursion}
use Rattle.std.specs.declared.option.Option.{Option}
use Rattle.std.proofs.lemmas.List.{length-append}
use Rattle.std.proofs.lemmas.List.Elements.{All-from_recursion}
use Rattle.pq_lists.proofs.Holding.{all_append, all_weaker}
use Rattle.pq_fields.specs.declared.field.Field.{Field}
use Rattle.pq_fields.specs.declared.field.Field.TheVariants.{EthSrc, EthDst, Ipv4Src, Ipv4Dst, TcpSrc, TcpDst, UdpSrc, UdpDst}
use Rattle.pq_fields.specs.Packet.{rank, width_of}
use Rattle.pq_fields.specs.Writes.{AllFit, FitsWidth, Written}
use Rattle.pq_model.specs.declared.action.Action.{Action}
use Rattle.pq_model.specs.declared.action.Action.TheVariants.{Output}
use Rattle.pq_model.specs.Lawful.{Ascends, IsLawfulAction, IsLawfulBucket, IsSettable, bucket_place}
use Rattle.pq_model.specs.MatchFields.{IsPortNumber, IsTagWord}
use Rattle.pq_model.specs.declared.reserved.TheConstants.{CONTROLLER, IN_PORT}
use Rattle.pq_rewrite.specs.declared.outgoing.OutKind.{OutKind}
use Rattle.pq_rewrite.specs.declared.outgoing.OutKind.TheVariants.{Send, CaptureOut}
use Rattle.pq_rewrite.specs.declared.outgoing.Outgoing.{Outgoing}
use Rattle.pq_rewrite.specs.declared.trees.Arrive.{Arrive}
use Rattle.pq_layout.specs.Actions.{arrival_actions, buckets_of, copy_actions, header_actions, output_port, set_field, tag_actions, tag_word}
use Rattle.pq_layout.specs.Sound.{IsSoundCopy, IsTagNumber}

-- lawful actions in ascending places from one on and below another, at most this many
pub record AreOrdered (low high most : ℕ) (as_ : List Action) : Type 0 where
  pub lawful : AllByRecursion IsLawfulAction as_
  pub ascends : Ascends (map bucket_place as_)
  pub above : AllByRecursion (λ a. low ≤ bucket_place a) as_
  pub below : AllByRecursion (λ a. bucket_place a < high) as_
  pub few : length as_ ≤ most

ascends_both : (k : ℕ) (as_ bs : List Action) → Ascends (map bucket_place as_) → Ascends (map bucket_place bs)
    → AllByRecursion (λ a. bucket_place a < k) as_ → AllByRecursion
    (λ a. k ≤ bucket_place a) bs
    → Ascends (map bucket_place (as_ ++ bs))
ascends_both k [] bs first second below above = second
ascends_both k (a ∷ []) [] first second below above = tt
ascends_both k (a ∷ []) (b ∷ bs) first second below above = (omega (arith, below.0, above.0), second)
ascends_both k (a ∷ b ∷ as_) bs first second below above = (first.0, ascends_both k (b ∷ as_) bs first.1 second below.1 above)

-- one list after another
both_ordered : (low middle high m n : ℕ) (as_ bs : List Action) → low ≤ middle → middle ≤ high → AreOrdered low middle m as_
    → AreOrdered middle high n bs → AreOrdered low high (m + n) (as_ ++ bs)
both_ordered low middle high m n as_ bs l h first second = record {
  lawful = all_append IsLawfulAction as_ bs first.lawful second.lawful;
  ascends = ascends_both middle as_ bs first.ascends second.ascends first.below second.above;
  above = all_append (λ a. low ≤ bucket_place a) as_ bs first.above
      (all_weaker (λ a. middle ≤ bucket_place a) (λ a. low ≤ bucket_place a) (λ a p. omega (arith, p, l)) bs second.above);
  below = all_append (λ a. bucket_place a < high) as_ bs
      (all_weaker (λ a. bucket_place a < middle) (λ a. bucket_place a < high) (λ a p. omega (arith, p, h)) as_ first.below) second.below;
  few = omega (arith, length-append as_ bs, first.few, second.few);
}

tag_lawful : (t : ℕ) → IsTagNumber t → IsTagWord (tag_word t)
tag_lawful t h = (omega (arith, h), omega (arith, h))

tag_ordered : (o : Option ℕ) → IfSome o IsTagNumber → AreOrdered 0 7 1 (tag_actions true o)
tag_ordered None h = record { lawful = (tt, tt); ascends = tt; above = (omega arith, tt); below = (omega arith, tt); few = omega arith }
tag_ordered (Some t) h = record { lawful = (tag_lawful t h, tt); ascends = tt; above = (omega arith, tt); below = (omega arith, tt); few = omega arith }

field_ordered : (f : Field) (k : ℕ) (o : Option ℕ) → IsSettable f → k ≡ 3 + rank f → FitsWidth (width_of f) o → AreOrdered k (k + 1) 1 (set_field f o)
field_ordered f k None settable is fits = record { lawful = tt; ascends = tt; above = tt; below = tt; few = omega arith }
field_ordered f k (Some n) settable is fits = record {
  lawful = ((settable, fits), tt);
  ascends = tt;
  above = (omega (arith, is), tt);
  below = (omega (arith, is), tt);
  few = omega arith;
}

headers_ordered : (w : Written) → AllFit w → AreOrdered 7 15 8 (header_actions w)
headers_ordered w fit =
    let f1 = field_ordered EthSrc 7 w.eth_src tt refl fit.eth_src in
    let a2 = set_field EthSrc w.eth_src in
    let f2 = both_ordered 7 8 9 1 1 a2 (set_field EthDst w.eth_dst) (omega arith) (omega arith) f1 (field_ordered EthDst 8 w.eth_dst tt refl fit.eth_dst) in
    let a3 = a2 ++ set_field EthDst w.eth_dst in
    let f3 = both_ordered 7 9 10 2 1 a3 (set_field Ipv4Src w.ipv4_src) (omega arith) (omega arith) f2
    (field_ordered Ipv4Src 9 w.ipv4_src tt refl fit.ipv4_src) in
    let a4 = a3 ++ set_field Ipv4Src w.ipv4_src in
    let f4 = both_ordered 7 10 11 3 1 a4 (set_field Ipv4Dst w.ipv4_dst) (omega arith) (omega arith) f3
    (field_ordered Ipv4Dst 10 w.ipv4_dst tt refl fit.ipv4_dst) in
    let a5 = a4 ++ set_field Ipv4Dst w.ipv4_dst in
    let f5 = both_ordered 7 11 12 4 1 a5 (set_field TcpSrc w.tcp_src) (omega arith) (omega arith) f4 (field_ordered TcpSrc 11 w.tcp_src tt refl fit.tcp_src) in
    let a6 = a5 ++ set_field TcpSrc w.tcp_src in
    let f6 = both_ordered 7 12 13 5 1 a6 (set_field TcpDst w.tcp_dst) (omega arith) (omega arith) f5 (field_ordered TcpDst 12 w.tcp_dst tt refl fit.tcp_dst) in
    let a7 = a6 ++ set_field TcpDst w.tcp_dst in
    let f7 = both_ordered 7 13 14 6 1 a7 (set_field UdpSrc w.udp_src) (omega arith) (omega arith) f6 (field_ordered UdpSrc 13 w.udp_src tt refl fit.udp_src) in
    both_ordered 7 14 15 7 1 (a7 ++ set_field UdpSrc w.udp_src) (set_field UdpDst w.udp_dst) (omega arith) (omega arith) f7
    (field_ordered UdpDst 14 w.udp_dst tt refl fit.udp_dst)

output_lawful : (k : OutKind) (w : Written) → IfSome w.port IsPortNumber → IsLawfulAction (Output (output_port k w))
output_lawful CaptureOut w port = inr (inr refl)
output_lawful Send w port = by w.port port
  where
    by : (o : Option ℕ) → IfSome o IsPortNumber
        → IsPortNumber (unwrap_or o IN_PORT) ⊎ (unwrap_or o IN_PORT ≡ IN_PORT) ⊎
        (unwrap_or o IN_PORT ≡ CONTROLLER)
    by None port = inr (inl refl)
    by (Some p) port = inl port

output_ordered : (k : OutKind) (w : Written) → IfSome w.port IsPortNumber → AreOrdered 15 18 1 (Output (output_port k w) ∷ [])
output_ordered k w port = record {
  lawful = (output_lawful k w port, tt);
  ascends = tt;
  above = (omega arith, tt);
  below = (omega arith, tt);
  few = omega arith;
}

pub copy_ordered : (c : Outgoing) → IsSoundCopy c → AreOrdered 0 18 10 (copy_actions true c)
copy_ordered c sound =
    both_ordered 0 15 18 9 1 (tag_actions true c.tag ++ header_actions c.writes) (Output (output_port c.kind c.writes) ∷ []) (omega arith) (omega arith)
    (both_ordered 0 7 15 1 8 (tag_actions true c.tag) (header_actions c.writes) (omega arith) (omega arith) (tag_ordered c.tag sound.tag)
    (headers_ordered c.writes sound.fit))
    (output_ordered c.kind c.writes sound.port)

-- the actions of a copy are a bucket
pub copy_bucket : (c : Outgoing) → IsSoundCopy c → IsLawfulBucket (copy_actions true c)
copy_bucket c sound = record {
  each = All-from_recursion IsLawfulAction (copy_actions true c) (copy_ordered c sound).lawful;
  placed = (copy_ordered c sound).ascends;
  sent = (tag_actions true c.tag ++ header_actions c.writes, output_port c.kind c.writes, refl);
}

-- those of copies are buckets of few actions
pub buckets_lawful : (cs : List Outgoing) → AllByRecursion IsSoundCopy cs → AllByRecursion IsLawfulBucket (buckets_of cs)
buckets_lawful [] sound = tt
buckets_lawful (c ∷ cs) sound = (copy_bucket c sound.0, buckets_lawful cs sound.1)

pub buckets_few : (cs : List Outgoing) → AllByRecursion IsSoundCopy cs → AllByRecursion (λ b. length b ≤ 10) (buckets_of cs)
buckets_few [] sound = tt
buckets_few (c ∷ cs) sound = ((copy_ordered c sound.0).few, buckets_few cs sound.1)

-- the actions of an arrival
arrival_cases : (tagged capture : Bool) (t : ℕ) → IsTagNumber t
    → AllByRecursion IsLawfulAction (arrival_actions tagged (record { tag = t; capture = capture })) ×
    (length (arrival_actions tagged (record { tag = t; capture = capture })) ≤ 10)
arrival_cases true true t h = ((tag_lawful t h, (inr (inr refl), tt)), omega arith)
arrival_cases true false t h = ((tag_lawful t h, tt), omega arith)
arrival_cases false true t h = ((tt, (tag_lawful t h, (inr (inr refl), tt))), omega arith)
arrival_cases false false t h = ((tt, (tag_lawful t h, tt)), omega arith)

pub arrival_lawful : (tagged : Bool) (a : Arrive) → IsTagNumber a.tag
    → AllByRecursion IsLawfulAction (arrival_actions tagged a) × (length (arrival_actions tagged a) ≤ 10)
arrival_lawful tagged a h = arrival_cases tagged a.capture a.tag h
