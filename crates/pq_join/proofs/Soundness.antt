-- The trees of a switch are such that entries can stand for them.
use Rattle.std.proofs.Common.{ℕ, ◌<◌, ◌^◌, ◌-◌, ◌≡◌, ◌∙◌, Bool, true, false, cond, List, ◌∷◌, [], length, Option, None, Some, get_or, ◌==◌}
use Rattle.std.proofs.Common.{if◌then◌else◌, inl, inr, refl, sym, subst, arith, eqb-true}
use Rattle.std.specs.Prelude.{IfSome}
use Rattle.std.specs.List.{All, filter, flat_map}
use Rattle.std.specs.Option.{unwrap_or}
use Rattle.std.proofs.lemmas.List.Elements.{All-append, All-cons, All-get_or, All-head, All-nil, All-tail}
use Rattle.std.proofs.lemmas.List.Folds.{Any-from_list_any}
use Rattle.pq_fields.specs.declared.field.Field.TheVariants.{Switch, Port, EthType, IpProto, EthSrc, EthDst, Ipv4Src, Ipv4Dst, TcpSrc}
use Rattle.pq_fields.specs.declared.field.Field.TheVariants.{TcpDst, UdpSrc, UdpDst, Ipv6Src, Ipv6Dst}
use Rattle.pq_fields.specs.Packet.{Fit, Numbers}
use Rattle.pq_fields.specs.Writes.{AllFit, Written, no_writes, on}
use Rattle.pq_model.specs.Install.{IsLawfulSwitch, IsLawfulTopology}
use Rattle.pq_model.specs.MatchFields.{IsPortNumber}
use Rattle.pq_model.specs.Topology.{Switch as SwitchValue, Topology, is_edge, is_linked, is_port, ports_in, ports_of}
use Rattle.pq_auto.specs.Machine.{Machine}
use Rattle.pq_auto.proofs.Below.{one_below}
use Rattle.pq_letters.specs.Letters.{LettersValue}
use Rattle.pq_letters.specs.Words.{letter_number}
use Rattle.pq_layout.specs.Leaves.{arrival, arrive, at_switch, capture_of, copies_by, copies_of, departing, departs_by}
use Rattle.pq_layout.specs.Sound.{AllLeaves, IsSoundArrival, IsSoundCopy, IsTagNumber}
use Rattle.pq_layout.specs.Tagging.{captures}
use Rattle.pq_layout.specs.Trees.{IsLeaving, IsTreeOf}
use Rattle.pq_rewrite.specs.declared.outgoing.OutKind.TheVariants.{CaptureOut}
use Rattle.pq_rewrite.specs.declared.outgoing.Outgoing.{Outgoing}
use Rattle.pq_rewrite.specs.declared.trees.Key.{Key}
use Rattle.pq_rewrite.specs.declared.trees.Key.TheVariants.{Plain, Tag}
use Rattle.pq_rewrite.specs.Rewriting.{ChangesAll, IsIdleFree}
use Rattle.pq_rewrite.proofs.InSequence.{on_fits}
use Rattle.pq_rewrite.proofs.Reached.{leaf_reached}
use Rattle.pq_store.specs.Diagram.{IsDiagram}
use Rattle.pq_store.specs.Laws.{IsUntested}
use Rattle.pq_store.specs.Tree.{Tree, IsPartOf, value}
use Rattle.pq_store.specs.Tree.Tree.{Tip, Fork}
use Rattle.pq_store.proofs.Ignored.{untested}
use Rattle.pq_join.specs.Sound.{ArrivingAreSound, HasTags, IsKeyOf, IsTagOf, LeavingAreSound}
use Rattle.pq_join.specs.Tags.{tagging_of}
use Rattle.pq_join.proofs.Arrivals.{at_switch_fits, letter_below}

-- Trees of functions of the packet at a switch.

module _ {L : Type 0} where
  -- what holds of each leaf of a tree
  leaves_hold : (P : L → Type 0) (t : Tree L) → ((l : L) → IsPartOf (Tip l) t → P l) → AllLeaves P t
  leaves_hold P (Tip l) holds = holds l refl
  leaves_hold P (Fork s y n) holds = (leaves_hold P y (λ l part. holds l (inr (inl part))), leaves_hold P n (λ l part. holds l (inr (inr part))))

  -- each leaf is reached by a packet, so it has what holds of the value on each packet
  values_hold : (P : L → Type 0) (t : Tree L) → IsDiagram t → ((x : Numbers) → Fit x → P (value t x)) → AllLeaves P t
  values_hold P t diagram holds = leaves_hold P t (λ l part. let (x, fit, is) = leaf_reached t diagram l part in subst P is (holds x fit))

  -- the switch is not tested
  pub no_switch : (F : Numbers → L) (d : ℕ) (t : Tree L) → IsTreeOf (λ x. F (at_switch d x)) t → IsUntested Switch t
  no_switch F d t tree = untested Switch t tree.diagram (λ x n fit below here. tree.gives (at_switch n x) (at_switch_fits n x below fit)
      ∙ sym (tree.gives x fit))

-- Tags.

module _ (T : Topology) (a : LettersValue) (m : Machine) (tags : HasTags T a m) where
  -- the tag after a letter is a tag
  tag_after : (t : ℕ) (y : Numbers) → IsTagOf m t → Fit y → IsTagNumber ((tagging_of a m).after t y)
  tag_after t y tag fit =
      let machine = tags.machine in
      let inside : t - 1 < length m.rows = omega (arith, tag.0, tag.1) in
      let long = machine.long (t - 1) inside in
      let letter = letter_below a m y tags.lettered tags.letters fit in
      let below = one_below (length m.rows) (get_or m.rows (t - 1) []) (letter_number a y) 0 (machine.within (t - 1) inside) (omega (arith, letter, long)) in
      (omega arith, omega (arith, below, tags.few))

  -- tag 1 is that of the empty word
  first_tag : IsTagOf m 1
  first_tag = let machine = tags.machine in (omega arith, omega (arith, machine.some))

  -- what is made of an arrival is sound
  arrival_sound : (k : Key) (y : Numbers) → IsKeyOf m k → Fit y → IsSoundArrival (arrival T (tagging_of a m) k y)
  arrival_sound Plain y key fit = by (is_edge T y.switch y.port)
    where
      by : (b : Bool) → IsSoundArrival (if b then Some (arrive (tagging_of a m) ((tagging_of a m).after 1 y)) else None)
      by true = tag_after 1 y first_tag fit
      by false = tt
  arrival_sound (Tag t) y key fit = by (is_linked T y.switch y.port)
    where
      by : (b : Bool) → IsSoundArrival (if b then Some (arrive (tagging_of a m) ((tagging_of a m).after t y)) else None)
      by true = tag_after t y key fit
      by false = tt

-- the trees of the first table are sound
pub arriving_are_sound : ArrivingAreSound
arriving_are_sound T a m d tags fits k t key tree = record {
  switch = no_switch (arrival T (tagging_of a m) k) d t tree;
  leaves = values_hold IsSoundArrival t tree.diagram
      (λ x fit. subst IsSoundArrival (sym (tree.gives x fit)) (arrival_sound T a m tags k (at_switch d x) key (at_switch_fits d x fits fit)));
}

-- Copies.

-- what holds of the items made of each holds of all
all_flat : {X A : Type 0} (P : A → Type 0) (f : X → List A) (xs : List X) → All (λ x. All P (f x)) xs → All P (flat_map f xs)
all_flat P f [] all = All-nil P
all_flat P f (x ∷ xs) all = All-append P (f x) (flat_map f xs) (All-head (λ z. All P (f z)) x xs all) (all_flat P f xs (All-tail (λ z. All P (f z)) x xs all))

-- what is kept by a filter passes it
pub all_kept : {X : Type 0} (P : X → Type 0) (p : X → Bool) (xs : List X) → All P xs → All (λ x. P x × (p x ≡ true)) (filter p xs)
all_kept P p [] all = All-nil (λ x. P x × (p x ≡ true))
all_kept P p (x ∷ xs) all = by (all_kept P p xs (All-tail P x xs all)) (p x) refl
  where
    by : All (λ z. P z × (p z ≡ true)) (filter p xs) → (b : Bool) → p x ≡ b → All (λ z. P z × (p z ≡ true)) (cond b (x ∷ filter p xs) (filter p xs))
    by later true passes = All-cons (λ z. P z × (p z ≡ true)) x (filter p xs) (All-head P x xs all, passes) later
    by later false fails = later

-- the ports of a lawful topology have numbers of ports
pub numbers_in : (ss : List SwitchValue) (d : ℕ) → All IsLawfulSwitch ss → All IsPortNumber (ports_in ss d)
numbers_in [] d lawful = All-nil IsPortNumber
numbers_in (s ∷ ss) d lawful = by (s.datapath == d) (numbers_in ss d (All-tail IsLawfulSwitch s ss lawful)) (All-head IsLawfulSwitch s ss lawful)
  where
    by : (b : Bool) → All IsPortNumber (ports_in ss d) → IsLawfulSwitch s → All IsPortNumber (if b then s.ports else ports_in ss d)
    by true later own = own.3
    by false later own = later

port_number : (T : Topology) (d q : ℕ) → IsLawfulTopology T → is_port T d q ≡ true → IsPortNumber q
port_number T d q lawful port =
    let (k, p, within, at, same) = Any-from_list_any (λ n. n == q) (ports_of T d) port in
    let number : IsPortNumber p = subst IsPortNumber at (All-get_or IsPortNumber (ports_of T d) k p within (numbers_in T.switches d lawful.switches)) in
    subst IsPortNumber (eqb-true p q same) number

-- writes of an idle-free policy: they fit, and change the packet
abbrev IsGood : Numbers → Written → Type 0
IsGood y w = AllFit w × ChangesAll y w

-- no writes are such
none_good : (y : Numbers) → IsGood y no_writes
none_good y = (record { port = tt; eth_src = tt; eth_dst = tt; ipv4_src = tt; ipv4_dst = tt; tcp_src = tt; tcp_dst = tt; udp_src = tt; udp_dst = tt }, changes)
  where
    changes : ChangesAll y no_writes
    changes Switch n is = absurd cc
    changes Port n is = absurd cc
    changes EthType n is = absurd cc
    changes IpProto n is = absurd cc
    changes EthSrc n is = absurd cc
    changes EthDst n is = absurd cc
    changes Ipv4Src n is = absurd cc
    changes Ipv4Dst n is = absurd cc
    changes TcpSrc n is = absurd cc
    changes TcpDst n is = absurd cc
    changes UdpSrc n is = absurd cc
    changes UdpDst n is = absurd cc
    changes Ipv6Src n is = absurd cc
    changes Ipv6Dst n is = absurd cc

-- what changes the packet at a switch changes the packet
changes_anywhere : (d : ℕ) (x : Numbers) (w : Written) → ChangesAll (at_switch d x) w → ChangesAll x w
changes_anywhere d x w changes Switch n is = absurd cc
changes_anywhere d x w changes Port n is = changes Port n is
changes_anywhere d x w changes EthType n is = absurd cc
changes_anywhere d x w changes IpProto n is = absurd cc
changes_anywhere d x w changes EthSrc n is = changes EthSrc n is
changes_anywhere d x w changes EthDst n is = changes EthDst n is
changes_anywhere d x w changes Ipv4Src n is = changes Ipv4Src n is
changes_anywhere d x w changes Ipv4Dst n is = changes Ipv4Dst n is
changes_anywhere d x w changes TcpSrc n is = changes TcpSrc n is
changes_anywhere d x w changes TcpDst n is = changes TcpDst n is
changes_anywhere d x w changes UdpSrc n is = changes UdpSrc n is
changes_anywhere d x w changes UdpDst n is = changes UdpDst n is
changes_anywhere d x w changes Ipv6Src n is = absurd cc
changes_anywhere d x w changes Ipv6Dst n is = absurd cc

module _ (T : Topology) (a : LettersValue) (m : Machine) (tags : HasTags T a m) (d : ℕ) (fits : d < 2 ^ 64) (x : Numbers) (fit : Fit x)
    (b : ℕ) (tag : IsTagOf m b) where
  -- a sound copy that changes the packet
  abbrev IsRight : Outgoing → Type 0
  IsRight c = IsSoundCopy c × ChangesAll x c.writes

  -- the copy to the collector
  capture_right : (w : Written) (y : Numbers) → IsGood (at_switch d x) w → IfSome w.port IsPortNumber → Fit y
      → All IsRight (capture_of (tagging_of a m) w ((tagging_of a m).after b y))
  capture_right w y good port y_fit = by (captures (tagging_of a m) ((tagging_of a m).after b y))
    where
      by : (c : Bool) → All IsRight (if c then record { writes = w; tag = Some ((tagging_of a m).after b y); kind = CaptureOut } ∷ [] else [])
      by true = All-cons IsRight _ [] (
        record { tag = tag_after T a m tags b y tag y_fit; fit = good.0; port = port },
        changes_anywhere d x w good.1,
      ) (All-nil IsRight)
      by false = All-nil IsRight

  -- the copies of a departure
  copies_right : (w : Written) → IsGood (at_switch d x) w × (departs_by T (at_switch d x) w ≡ true)
      → All IsRight (copies_by T (tagging_of a m) b (at_switch d x) w)
  copies_right w good =
      All-cons IsRight _ _ (
        record {
          tag = sent_tag (is_linked T d (on w (at_switch d x)).port);
          fit = good.0.0;
          port = written_port w.port refl;
        },
        changes_anywhere d x w good.0.1,
      )
      (capture_right w (on w (at_switch d x)) good.0 (written_port w.port refl) (y_fit))
    where
      y_fit : Fit (on w (at_switch d x))
      y_fit = on_fits w (at_switch d x) good.0.0 (at_switch_fits d x fits fit)

      sent_tag : (c : Bool) → IfSome (if c then Some ((tagging_of a m).after b (on w (at_switch d x))) else None) IsTagNumber
      sent_tag true = tag_after T a m tags b (on w (at_switch d x)) tag (y_fit)
      sent_tag false = tt

      written_port : (o : Option ℕ) → w.port ≡ o → IfSome o IsPortNumber
      written_port None none = tt
      written_port (Some q) some = port_number T d q tags.lawful (subst (λ o. is_port T d (unwrap_or o x.port) ≡ true) some good.1)

  -- the copies of all
  all_right : (ws : List Written) → All (λ w. IsGood (at_switch d x) w × (departs_by T (at_switch d x) w ≡ true)) ws
      → All IsRight (copies_of T (tagging_of a m) b (at_switch d x) ws)
  all_right [] good = capture_right no_writes (record (at_switch d x) { port = 0 }) (none_good (at_switch d x)) tt (at_zero (at_switch_fits d x fits fit))
    where
      at_zero : Fit (at_switch d x) → Fit (record (at_switch d x) { port = 0 })
      at_zero f = record {
        switch = f.switch;
        port = omega arith;
        eth_type = f.eth_type;
        ip_proto = f.ip_proto;
        eth_src = f.eth_src;
        eth_dst = f.eth_dst;
        ipv4_src = f.ipv4_src;
        ipv4_dst = f.ipv4_dst;
        tcp_src = f.tcp_src;
        tcp_dst = f.tcp_dst;
        udp_src = f.udp_src;
        udp_dst = f.udp_dst;
        ipv6_src = f.ipv6_src;
        ipv6_dst = f.ipv6_dst;
      }
  all_right (w ∷ ws) good =
      all_flat IsRight (copies_by T (tagging_of a m) b (at_switch d x)) (w ∷ ws) (λ k e within. copies_right (get_or (w ∷ ws) k e) (good k e within))

-- what a tree of the second table says of a packet
value_right : (T : Topology) (a : LettersValue) (m : Machine) (d : ℕ) → HasTags T a m → d < 2 ^ 64 → (p : Tree (List Written))
    → IsIdleFree p → (b : ℕ) (t : Tree (List Outgoing)) → IsTagOf m b
    → IsLeaving T (tagging_of a m) (departing T (value p)) d b t → (x : Numbers) → Fit x → All (λ c. IsSoundCopy c × ChangesAll x c.writes) (value t x)
value_right T a m d tags fits p idle_free b t tag tree x fit =
    let given = idle_free (at_switch d x) (at_switch_fits d x fits fit) in
    let ws = value p (at_switch d x) in
    subst (All (λ c. IsSoundCopy c × ChangesAll x c.writes)) (sym (tree.gives x fit))
    (all_right T a m tags d fits x fit b tag (filter (departs_by T (at_switch d x)) ws)
    (all_kept (IsGood (at_switch d x)) (departs_by T (at_switch d x)) ws (λ k e within. (given.fit k e within, given.idle_free k e within))))

-- the trees of the second table are sound
pub leaving_are_sound : LeavingAreSound
leaving_are_sound T a m d tags fits p idle_free b t tag tree = record {
  switch = no_switch (λ y. copies_of T (tagging_of a m) b y (departing T (value p) y)) d t tree;
  leaves = values_hold (All IsSoundCopy) t tree.diagram (λ x fit k e within. (value_right T a m d tags fits p idle_free b t tag tree x fit k e within).0);
  idle_free = λ x fit k e within. (value_right T a m d tags fits p idle_free b t tag tree x fit k e within).1;
}
