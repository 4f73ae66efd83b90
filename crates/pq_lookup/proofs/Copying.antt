-- What the actions of arrivals and copies send.
use Rattle.std.proofs.Common.{◌≡◌, ◌≢◌, ℕ, ◌+◌, ◌-◌, Bool, true, false, if◌then◌else◌, List, [], ◌∷◌, ◌++◌, map, Some, None, IfSome, refl}
use Rattle.std.proofs.Common.{sym, ap, ◌∙◌, arith, append-nil, append_assoc}
use Rattle.std.specs.List.{AllByRecursion, flat_map}
use Rattle.std.specs.Option.{unwrap_or}
use Rattle.std.specs.declared.option.Option.{Option}
use Rattle.std.proofs.lemmas.Bool.{ne_eqb}
use Rattle.pq_fields.specs.declared.field.Field.{Field}
use Rattle.pq_fields.specs.declared.field.Field.TheVariants.{EthSrc, EthDst, Ipv4Src, Ipv4Dst, TcpSrc, TcpDst, UdpSrc, UdpDst}
use Rattle.pq_fields.specs.Packet.{Numbers, has_field, number_in, with_number}
use Rattle.pq_fields.specs.Writes.{Written, number_after}
use Rattle.pq_model.specs.declared.action.Action.{Action}
use Rattle.pq_model.specs.declared.action.Action.TheVariants.{Output, PushVlan, PopVlan, SetVlan, SetField}
use Rattle.pq_model.specs.declared.tagged.Sent.{Sent}
use Rattle.pq_model.specs.declared.tagged.Sent.TheVariants.{Port}
use Rattle.pq_model.specs.MatchFields.{IsPortNumber}
use Rattle.pq_model.specs.SwitchMachine.{Groups, changed, changed_by, emits, emits_in_bucket, outputs, runs}
use Rattle.pq_model.specs.declared.reserved.TheConstants.{CONTROLLER, IN_PORT}
use Rattle.pq_model.specs.Tagged.{TaggedPacket}
use Rattle.pq_rewrite.specs.declared.outgoing.OutKind.{OutKind}
use Rattle.pq_rewrite.specs.declared.outgoing.OutKind.TheVariants.{Send, CaptureOut}
use Rattle.pq_rewrite.specs.declared.outgoing.Outgoing.{Outgoing}
use Rattle.pq_store.proofs.PrefixNumbers.{with_own}
use Rattle.pq_layout.specs.Actions.{buckets_of, copy_actions, header_actions, output_port, set_field, tag_actions, tag_word}
use Rattle.pq_layout.specs.Sending.{copy_sent, sent_as}

-- a number that is written where the packet has the field
abbrev once : Field → Option ℕ → Numbers → ℕ
once f o x = if has_field f x then unwrap_or o (number_in f x) else number_in f x

abbrev step : Field → Option ℕ → TaggedPacket → TaggedPacket
step f o y = record y { packet = with_number f (once f o y.packet) y.packet }

-- an action that writes a number
set-changes : (f : Field) (o : Option ℕ) (y : TaggedPacket) → changed_by (set_field f o) y ≡ step f o y
set-changes f None y = by (has_field f y.packet)
  where
    by : (b : Bool) → y ≡ record y { packet = with_number f (if b then number_in f y.packet else number_in f y.packet) y.packet }
    by true = λ i. record y { packet = sym (with_own f y.packet) i }
    by false = λ i. record y { packet = sym (with_own f y.packet) i }
set-changes f (Some n) y = by (has_field f y.packet)
  where
    by : (b : Bool) → (if b then record y { packet = with_number f n y.packet } else y)
        ≡ record y { packet = with_number f (if b then n else number_in f y.packet) y.packet }
    by true = refl
    by false = λ i. record y { packet = sym (with_own f y.packet) i }

changed_by-append : (as_ bs : List Action) (y : TaggedPacket) → changed_by (as_ ++ bs) y ≡ changed_by bs (changed_by as_ y)
changed_by-append [] bs y = refl
changed_by-append (a ∷ as_) bs y = changed_by-append as_ bs (changed a y)

then-set : (as_ : List Action) (f : Field) (o : Option ℕ) (y z : TaggedPacket) → changed_by as_ y ≡ z → changed_by (as_ ++ set_field f o) y ≡ step f o z
then-set as_ f o y z h = changed_by-append as_ (set_field f o) y ∙ ap (changed_by (set_field f o)) h ∙ set-changes f o z

-- the packet with the header fields written
abbrev headers_on : Written → Numbers → Numbers
headers_on w x = record x {
  eth_src = number_after EthSrc w x;
  eth_dst = number_after EthDst w x;
  ipv4_src = number_after Ipv4Src w x;
  ipv4_dst = number_after Ipv4Dst w x;
  tcp_src = number_after TcpSrc w x;
  tcp_dst = number_after TcpDst w x;
  udp_src = number_after UdpSrc w x;
  udp_dst = number_after UdpDst w x;
}

module _ (w : Written) where
  -- the actions of the fields up to one
  abbrev pub to_eth_src : List Action
  to_eth_src = set_field EthSrc w.eth_src

  abbrev pub to_eth_dst : List Action
  to_eth_dst = to_eth_src ++ set_field EthDst w.eth_dst

  abbrev pub to_ipv4_src : List Action
  to_ipv4_src = to_eth_dst ++ set_field Ipv4Src w.ipv4_src

  abbrev pub to_ipv4_dst : List Action
  to_ipv4_dst = to_ipv4_src ++ set_field Ipv4Dst w.ipv4_dst

  abbrev pub to_tcp_src : List Action
  to_tcp_src = to_ipv4_dst ++ set_field TcpSrc w.tcp_src

  abbrev pub to_tcp_dst : List Action
  to_tcp_dst = to_tcp_src ++ set_field TcpDst w.tcp_dst

  abbrev pub to_udp_src : List Action
  to_udp_src = to_tcp_dst ++ set_field UdpSrc w.udp_src

  headers-change : (y : TaggedPacket) → changed_by (header_actions w) y ≡ record y { packet = headers_on w y.packet }
  headers-change y =
      then-set to_udp_src UdpDst w.udp_dst y _ (then-set to_tcp_dst UdpSrc w.udp_src y _
      (then-set to_tcp_src TcpDst w.tcp_dst y _
      (then-set to_ipv4_dst TcpSrc w.tcp_src y _
      (then-set to_ipv4_src Ipv4Dst w.ipv4_dst y _ (then-set to_eth_dst Ipv4Src w.ipv4_src y _
      (then-set to_eth_src EthDst w.eth_dst y _ (set-changes EthSrc w.eth_src y)))))))

-- the header takes the copy's tag
tag-changes : (o : Option ℕ) (x : Numbers) (t : ℕ) → changed_by (tag_actions true o) (record { packet = x; vlan = Some t }) ≡ record { packet = x; vlan = o }
tag-changes None x t = refl
tag-changes (Some u) x t = λ i. record { packet = x; vlan = Some (back i) }
  where
    back : 0x1000 + u - 0x1000 ≡ u
    back = omega arith

-- an Output to the written port, or back
port-sends : (o : Option ℕ) (y : TaggedPacket) → IfSome o IsPortNumber → ((p : ℕ) → o ≡ Some p → y.packet.port ≢ p) →
    outputs (unwrap_or o IN_PORT) y ≡ Port (record y { packet = record y.packet { port = unwrap_or o y.packet.port } }) ∷ []
port-sends None y port other = refl
port-sends (Some p) y port other =
    rw (ne_eqb p IN_PORT (λ e. omega arith), ne_eqb p CONTROLLER (λ e. omega arith), ne_eqb p y.packet.port (λ e. other p refl (sym e))) refl

-- what is asked of a copy: it is written to a port of a switch, and not to the arriving one
pub record IsSendable (x : Numbers) (c : Outgoing) : Type 0 where
  pub port : IfSome c.writes.port IsPortNumber
  pub other : (p : ℕ) → c.writes.port ≡ Some p → x.port ≢ p

kind-sends : (kind : OutKind) (x : Numbers) (w : Written) (v : Option ℕ) → IfSome w.port IsPortNumber → ((p : ℕ) → w.port ≡ Some p → x.port ≢ p) →
    outputs (output_port kind w) (record { packet = headers_on w x; vlan = v }) ≡ sent_as kind x (record { writes = w; tag = v; kind = kind }) ∷ []
kind-sends Send x w v port other = port-sends w.port (record { packet = headers_on w x; vlan = v }) port other
kind-sends CaptureOut x w v port other = refl

-- what Outputs send, and other actions of copies don't
pub record IsEmitting (e : Action → TaggedPacket → List Sent) : Type 0 where
  pub output : (p : ℕ) (y : TaggedPacket) → e (Output p) y ≡ outputs p y
  pub push : (y : TaggedPacket) → e PushVlan y ≡ []
  pub pop : (y : TaggedPacket) → e PopVlan y ≡ []
  pub tag : (word : ℕ) (y : TaggedPacket) → e (SetVlan word) y ≡ []
  pub field : (f : Field) (n : ℕ) (y : TaggedPacket) → e (SetField f n) y ≡ []

pub entry-emits : (groups : Groups) → IsEmitting (emits groups)
entry-emits groups = record { output = λ p y. refl; push = λ y. refl; pop = λ y. refl; tag = λ word y. refl; field = λ f n y. refl }

pub bucket-emits : IsEmitting emits_in_bucket
bucket-emits = record { output = λ p y. refl; push = λ y. refl; pop = λ y. refl; tag = λ word y. refl; field = λ f n y. refl }

module _ (e : Action → TaggedPacket → List Sent) (emitting : IsEmitting e) where
  abbrev AreQuiet : List Action → Type 0
  AreQuiet as_ = (bs : List Action) (y : TaggedPacket) → runs e (as_ ++ bs) y ≡ runs e bs (changed_by as_ y)

  quiet-append : (as_ bs : List Action) → AreQuiet as_ → AreQuiet bs → AreQuiet (as_ ++ bs)
  quiet-append as_ bs h k cs y = ap (λ l. runs e l y) (append_assoc as_ bs cs) ∙ h (bs ++ cs) y ∙ k cs (changed_by as_ y)
      ∙ ap (runs e cs) (sym (changed_by-append as_ bs y))

  set-quiet : (f : Field) (o : Option ℕ) → AreQuiet (set_field f o)
  set-quiet f None bs y = refl
  set-quiet f (Some n) bs y = ap (λ l. l ++ runs e bs (changed (SetField f n) y)) (emitting.field f n y)

  headers-quiet : (w : Written) → AreQuiet (header_actions w)
  headers-quiet w =
      quiet-append (to_udp_src w) (set_field UdpDst w.udp_dst)
      (quiet-append (to_tcp_dst w) (set_field UdpSrc w.udp_src)
      (quiet-append (to_tcp_src w) (set_field TcpDst w.tcp_dst)
      (quiet-append (to_ipv4_dst w) (set_field TcpSrc w.tcp_src)
      (quiet-append (to_ipv4_src w) (set_field Ipv4Dst w.ipv4_dst)
      (quiet-append (to_eth_dst w) (set_field Ipv4Src w.ipv4_src)
      (quiet-append (to_eth_src w) (set_field EthDst w.eth_dst) (set-quiet EthSrc w.eth_src) (set-quiet EthDst w.eth_dst))
      (set-quiet Ipv4Src w.ipv4_src))
      (set-quiet Ipv4Dst w.ipv4_dst))
      (set-quiet TcpSrc w.tcp_src))
      (set-quiet TcpDst w.tcp_dst))
      (set-quiet UdpSrc w.udp_src))
      (set-quiet UdpDst w.udp_dst)

  tag-quiet : (o : Option ℕ) → AreQuiet (tag_actions true o)
  tag-quiet None bs y = ap (λ l. l ++ runs e bs (changed PopVlan y)) (emitting.pop y)
  tag-quiet (Some t) bs y = ap (λ l. l ++ runs e bs (changed (SetVlan (tag_word t)) y)) (emitting.tag (tag_word t) y)

  -- the actions of a copy send it and nothing else
  pub copy-runs : (x : Numbers) (t : ℕ) (c : Outgoing) → IsSendable x c
      → runs e (copy_actions true c) (record { packet = x; vlan = Some t }) ≡ copy_sent x c ∷ []
  copy-runs x t c h =
      let last = Output (output_port c.kind c.writes) ∷ [] in
      quiet-append (tag_actions true c.tag) (header_actions c.writes) (tag-quiet c.tag) (headers-quiet c.writes) last (record { packet = x; vlan = Some t })
      ∙ ap (runs e last)
      (changed_by-append (tag_actions true c.tag) (header_actions c.writes) (record { packet = x; vlan = Some t })
      ∙ ap (changed_by (header_actions c.writes)) (tag-changes c.tag x t)
      ∙ headers-change c.writes (record { packet = x; vlan = c.tag }))
      ∙ append-nil (e (Output (output_port c.kind c.writes)) (record { packet = headers_on c.writes x; vlan = c.tag }))
      ∙ emitting.output (output_port c.kind c.writes) (record { packet = headers_on c.writes x; vlan = c.tag })
      ∙ kind-sends c.kind x c.writes c.tag h.port h.other

-- the buckets of copies send the copies
pub buckets-run : (x : Numbers) (t : ℕ) (cs : List Outgoing) → AllByRecursion (IsSendable x) cs →
    flat_map (λ b. runs emits_in_bucket b (record { packet = x; vlan = Some t })) (buckets_of cs) ≡ map (copy_sent x) cs
buckets-run x t [] all = refl
buckets-run x t (c ∷ cs) (here, all) =
    ap (λ l. l ++ flat_map (λ b. runs emits_in_bucket b (record { packet = x; vlan = Some t })) (buckets_of cs))
    (copy-runs emits_in_bucket bucket-emits x t c here)
    ∙ ap (λ l. copy_sent x c ∷ l) (buckets-run x t cs all)
