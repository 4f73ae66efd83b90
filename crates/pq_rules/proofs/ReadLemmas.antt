-- The actions of a copy show the copy.
use Rattle.std.proofs.Common.{◌≡◌, ℕ, ◌-◌, true, false, if◌then◌else◌, List, [], ◌∷◌, ◌++◌, Some, None, map, refl, sym, ap, ◌∙◌, arith}
use Rattle.std.specs.Prelude.{◌==◌, IfSome}
use Rattle.std.specs.List.{AllByRecursion}
use Rattle.std.specs.declared.option.Option.{Option}
use Rattle.std.proofs.lemmas.Bool.{ne_eqb}
use Rattle.pq_fields.specs.declared.field.Field.{Field}
use Rattle.pq_fields.specs.declared.field.Field.TheVariants.{Port, EthSrc, EthDst, Ipv4Src, Ipv4Dst, TcpSrc, TcpDst, UdpSrc, UdpDst}
use Rattle.pq_fields.specs.Writes.{Written, with_write}
use Rattle.pq_model.specs.declared.action.Action.{Action}
use Rattle.pq_model.specs.declared.action.Action.TheVariants.{Output, PushVlan, PopVlan, Group, SetVlan, SetField}
use Rattle.pq_model.specs.MatchFields.{IsPortNumber}
use Rattle.pq_model.specs.declared.reserved.TheConstants.{CONTROLLER, IN_PORT}
use Rattle.pq_rewrite.specs.declared.outgoing.OutKind.{OutKind}
use Rattle.pq_rewrite.specs.declared.outgoing.OutKind.TheVariants.{Send, CaptureOut}
use Rattle.pq_rewrite.specs.declared.outgoing.Outgoing.{Outgoing}
use Rattle.pq_layout.specs.Actions.{buckets_of, copy_actions, header_actions, output_port, set_field, tag_actions}
use Rattle.pq_layout.specs.Sound.{IsSoundCopy}
use Rattle.pq_rules.specs.Grouping.{in_bucket, shown_writes}

-- what is read of an action
step : Action → Outgoing → Outgoing
step (SetVlan w) o = record o { tag = Some (w - 0x1000) }
step PopVlan o = o
step PushVlan o = o
step (Group n) o = o
step (SetField f n) o = record o { writes = with_write f n o.writes }
step (Output p) o = if p == CONTROLLER then record o { kind = CaptureOut } else if p == IN_PORT then o else record o
    { writes = with_write Port p o.writes }

read : Outgoing → List Action → Outgoing
read o [] = o
read o (a ∷ as_) = read (step a o) as_

read_more : (as_ bs : List Action) (o : Outgoing) → read o (as_ ++ bs) ≡ read (read o as_) bs
unfolding read
read_more [] bs o = refl
read_more (a ∷ as_) bs o = read_more as_ bs (step a o)

-- a copy with these writes
abbrev made : Option ℕ → (a b c d e f g h : Option ℕ) → Outgoing
made t a b c d e f g h =
    record {
      writes = record {
        port = None;
        eth_src = a;
        eth_dst = b;
        ipv4_src = c;
        ipv4_dst = d;
        tcp_src = e;
        tcp_dst = f;
        udp_src =
            g;
        udp_dst = h;
      };
      tag = t;
      kind = Send;
    }

start : Outgoing
start = made None None None None None None None None None

tag_read : (t : Option ℕ) → read start (tag_actions true t) ≡ made t None None None None None None None None
unfolding read step start
tag_read None = refl
tag_read (Some t) = ap (λ n. made (Some n) None None None None None None None None) (omega arith)

module _ (t : Option ℕ) where
  eth_src_read : (a : Option ℕ) → read (made t None None None None None None None None) (set_field EthSrc a) ≡ made t a None None None None None None None
  unfolding read step
  eth_src_read None = refl
  eth_src_read (Some n) = refl

  eth_dst_read : (a b : Option ℕ) → read (made t a None None None None None None None) (set_field EthDst b) ≡ made t a b None None None None None None
  unfolding read step
  eth_dst_read a None = refl
  eth_dst_read a (Some n) = refl

  ipv4_src_read : (a b c : Option ℕ) → read (made t a b None None None None None None) (set_field Ipv4Src c) ≡ made t a b c None None None None None
  unfolding read step
  ipv4_src_read a b None = refl
  ipv4_src_read a b (Some n) = refl

  ipv4_dst_read : (a b c d : Option ℕ) → read (made t a b c None None None None None) (set_field Ipv4Dst d) ≡ made t a b c d None None None None
  unfolding read step
  ipv4_dst_read a b c None = refl
  ipv4_dst_read a b c (Some n) = refl

  tcp_src_read : (a b c d e : Option ℕ) → read (made t a b c d None None None None) (set_field TcpSrc e) ≡ made t a b c d e None None None
  unfolding read step
  tcp_src_read a b c d None = refl
  tcp_src_read a b c d (Some n) = refl

  tcp_dst_read : (a b c d e f : Option ℕ) → read (made t a b c d e None None None) (set_field TcpDst f) ≡ made t a b c d e f None None
  unfolding read step
  tcp_dst_read a b c d e None = refl
  tcp_dst_read a b c d e (Some n) = refl

  udp_src_read : (a b c d e f g : Option ℕ) → read (made t a b c d e f None None) (set_field UdpSrc g) ≡ made t a b c d e f g None
  unfolding read step
  udp_src_read a b c d e f None = refl
  udp_src_read a b c d e f (Some n) = refl

  udp_dst_read : (a b c d e f g h : Option ℕ) → read (made t a b c d e f g None) (set_field UdpDst h) ≡ made t a b c d e f g h
  unfolding read step
  udp_dst_read a b c d e f g None = refl
  udp_dst_read a b c d e f g (Some n) = refl

  -- one field after another
  field_read : (front : List Action) (f : Field) (v : Option ℕ) (o p q : Outgoing) → read o front ≡ p → read p (set_field f v) ≡ q
      → read o (front ++ set_field f v) ≡ q
  field_read front f v o p q first last = read_more front (set_field f v) o ∙ ap (λ r. read r (set_field f v)) first ∙ last

  headers_read : (w : Written) → read (made t None None None None None None None None) (header_actions w)
      ≡ made t w.eth_src w.eth_dst w.ipv4_src w.ipv4_dst w.tcp_src w.tcp_dst w.udp_src w.udp_dst
  headers_read w =
      let o = made t None None None None None None None None in
      let a = w.eth_src in
      let b = w.eth_dst in
      let c = w.ipv4_src in
      let d = w.ipv4_dst in
      let e = w.tcp_src in
      let f = w.tcp_dst in
      let g = w.udp_src in
      let h = w.udp_dst in
      let f1 = set_field EthSrc a in
      let f2 = f1 ++ set_field EthDst b in
      let f3 = f2 ++ set_field Ipv4Src c in
      let f4 = f3 ++ set_field Ipv4Dst d in
      let f5 = f4 ++ set_field TcpSrc e in
      let f6 = f5 ++ set_field TcpDst f in
      let f7 = f6 ++ set_field UdpSrc g in
      let r2 = field_read f1 EthDst b o _ _ (eth_src_read a) (eth_dst_read a b) in
      let r3 = field_read f2 Ipv4Src c o _ _ r2 (ipv4_src_read a b c) in
      let r4 = field_read f3 Ipv4Dst d o _ _ r3 (ipv4_dst_read a b c d) in
      let r5 = field_read f4 TcpSrc e o _ _ r4 (tcp_src_read a b c d e) in
      let r6 = field_read f5 TcpDst f o _ _ r5 (tcp_dst_read a b c d e f) in
      let r7 = field_read f6 UdpSrc g o _ _ r6 (udp_src_read a b c d e f g) in
      field_read f7 UdpDst h o _ _ r7 (udp_dst_read a b c d e f g h)

-- and last where it goes
output_read : (k : OutKind) (w : Written) (t : Option ℕ) → IfSome w.port IsPortNumber
    → read (made t w.eth_src w.eth_dst w.ipv4_src w.ipv4_dst w.tcp_src w.tcp_dst w.udp_src w.udp_dst) (Output (output_port k w) ∷ [])
    ≡ in_bucket (record { writes = w; tag = t; kind = k })
unfolding read step
output_read CaptureOut w t port = refl
output_read Send w t port = by w.port refl port
  where
    by : (p : Option ℕ) → w.port ≡ p → IfSome p IsPortNumber
        → read (made t w.eth_src w.eth_dst w.ipv4_src w.ipv4_dst w.tcp_src w.tcp_dst w.udp_src w.udp_dst) (Output (output_port Send w) ∷ [])
        ≡ record { writes = w; tag = t; kind = Send }
    by None is port =
        let out : output_port Send w ≡ IN_PORT = ap (λ o. output_port Send (record w { port = o })) is in
        ap (λ p. read (made t w.eth_src w.eth_dst w.ipv4_src w.ipv4_dst w.tcp_src w.tcp_dst w.udp_src w.udp_dst) (Output p ∷ [])) out
        ∙ ap (λ o. record { writes = record w { port = o }; tag = t; kind = Send }) (sym is)
    by (Some p) is port =
        let out : output_port Send w ≡ p = ap (λ o. output_port Send (record w { port = o })) is in
        let first : p == CONTROLLER ≡ false = ne_eqb p CONTROLLER (λ e. absurd (omega (arith, e, port))) in
        let second : p == IN_PORT ≡ false = ne_eqb p IN_PORT (λ e. absurd (omega (arith, e, port))) in
        let o = made t w.eth_src w.eth_dst w.ipv4_src w.ipv4_dst w.tcp_src w.tcp_dst w.udp_src w.udp_dst in
        ap (λ p. read o (Output p ∷ [])) out
        ∙ (λ i. if first i then record o { kind = CaptureOut } else if second i then o else record o { writes = with_write Port p o.writes })
        ∙ ap (λ o. record { writes = record w { port = o }; tag = t; kind = Send }) (sym is)

-- the whole copy, as its bucket shows it
copy_read : (c : Outgoing) → IsSoundCopy c → read start (copy_actions true c) ≡ in_bucket c
copy_read c sound =
    read_more (tag_actions true c.tag ++ header_actions c.writes) (Output (output_port c.kind c.writes) ∷ []) start
    ∙ ap (λ r. read r (Output (output_port c.kind c.writes) ∷ []))
    (read_more (tag_actions true c.tag) (header_actions c.writes) start ∙ ap (λ r. read r (header_actions c.writes)) (tag_read c.tag)
    ∙ headers_read c.tag c.writes)
    ∙ output_read c.kind c.writes c.tag sound.port

buckets_read : (cs : List Outgoing) → AllByRecursion IsSoundCopy cs → map (read start) (buckets_of cs) ≡ map in_bucket cs
buckets_read [] sound = refl
buckets_read (c ∷ cs) sound = (λ i. copy_read c sound.0 i ∷ buckets_read cs sound.1 i)

-- so copies with the same buckets are shown alike
pub same_shown : (cs ds : List Outgoing) → AllByRecursion IsSoundCopy cs → AllByRecursion IsSoundCopy ds → buckets_of cs ≡ buckets_of ds
    → map in_bucket cs ≡ map in_bucket ds
same_shown cs ds first second same = sym (buckets_read cs first) ∙ ap (map (read start)) same ∙ buckets_read ds second

-- a copy as its bucket shows it has the same actions
shown_headers : (k : OutKind) (w : Written) → header_actions (shown_writes k w) ≡ header_actions w
shown_headers Send w = refl
shown_headers CaptureOut w = refl

shown_output : (k : OutKind) (w : Written) → output_port k (shown_writes k w) ≡ output_port k w
shown_output Send w = refl
shown_output CaptureOut w = refl

shown_actions : (c : Outgoing) → copy_actions true (in_bucket c) ≡ copy_actions true c
shown_actions c = (λ i. tag_actions true c.tag ++ shown_headers c.kind c.writes i ++ Output (shown_output c.kind c.writes i) ∷ [])

pub shown_buckets : (cs : List Outgoing) → buckets_of (map in_bucket cs) ≡ buckets_of cs
shown_buckets [] = refl
shown_buckets (c ∷ cs) = (λ i. shown_actions c i ∷ shown_buckets cs i)

-- it is sound, and shown as it is
pub shown_port : (k : OutKind) (w : Written) → IfSome w.port IsPortNumber → IfSome (shown_writes k w).port IsPortNumber
shown_port Send w port = port
shown_port CaptureOut w port = tt

shown_twice : (k : OutKind) (w : Written) → shown_writes k (shown_writes k w) ≡ shown_writes k w
shown_twice Send w = refl
shown_twice CaptureOut w = refl

pub shown_again : (cs : List Outgoing) → map in_bucket (map in_bucket cs) ≡ map in_bucket cs
shown_again [] = refl
shown_again (c ∷ cs) = (λ i. record c { writes = shown_twice c.kind c.writes i } ∷ shown_again cs i)
