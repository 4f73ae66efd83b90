-- What the trees of the second table say.
use Rattle.std.proofs.Common.{ℕ, suc, ◌<◌, ◌^◌, ◌-◌, ◌≡◌, ◌∙◌, Bool, true, false, cond, List, ◌∷◌, [], ◌++◌, length, map, None, Some}
use Rattle.std.proofs.Common.{if◌then◌else◌, refl, ap, arith, append-nil}
use Rattle.std.specs.Prelude.{slice_get}
use Rattle.std.specs.List.{All, filter, flat_map}
use Rattle.std.proofs.lemmas.List.Elements.{All-head, All-tail}
use Rattle.pq_lists.proofs.Paired.{zip_weaker}
use Rattle.pq_fields.specs.declared.field.Field.TheVariants.{Switch}
use Rattle.pq_fields.specs.Packet.{Fit, Numbers}
use Rattle.pq_fields.specs.Writes.{AllFit, Written, no_writes, on}
use Rattle.pq_model.specs.Topology.{Topology, is_linked, is_port}
use Rattle.pq_auto.specs.Machine.{Machine}
use Rattle.pq_letters.specs.Letters.{IsLettered, LettersValue}
use Rattle.pq_letters.specs.Words.{letter_number}
use Rattle.pq_layout.specs.Leaves.{at_switch, capture_of, copies_by as copies_told, copies_of, departing, departs_by, sent_of}
use Rattle.pq_layout.specs.Tagging.{Tagging, odd_tags}
use Rattle.pq_layout.specs.Trees.{AreLeaving, IsLeaving}
use Rattle.pq_rewrite.specs.declared.outgoing.OutKind.TheVariants.{Send, CaptureOut}
use Rattle.pq_rewrite.specs.declared.outgoing.Outgoing.{Outgoing}
use Rattle.pq_rewrite.specs.Rewriting.{ChangesAll, IsIdleFree}
use Rattle.pq_rewrite.proofs.InSequence.{on_fits}
use Rattle.pq_store.specs.Tree.{Tree, value}
use Rattle.pq_store.specs.Store.{HasAt}
use Rattle.pq_apply.specs.Restriction.{RestrictsAt}
use Rattle.pq_join.specs.declared.departure.Departure.{Departure}
use Rattle.pq_join.specs.declared.ports.PortKind.TheVariants.{Missing, Edge, Linked}
use Rattle.pq_join.specs.declared.sight.Seen.{Seen}
use Rattle.pq_join.specs.Arriving.{MakesAt}
use Rattle.pq_join.specs.Departing.{departs_at, departures_by, departures_of}
use Rattle.pq_join.specs.Drops.{DepartsOrDropsAt, departures_or_drop, or_drop}
use Rattle.pq_join.specs.Leaving.{LeavesAt, captured_by, copies_at, copies_by, sent_at}
use Rattle.pq_join.specs.Overwriting.{put}
use Rattle.pq_join.specs.Ports.{own_kind, port_kind}
use Rattle.pq_join.specs.Sight.{IsSight, seen_of}
use Rattle.pq_join.specs.Tags.{next_class, tagging_of}
use Rattle.pq_join.proofs.Arrivals.{at_switch_fits, captures_told, letter_below, next_told}
use Rattle.pq_join.proofs.Puts.{put_is_on}

-- Departures by writes.

-- the departure by writes, and what is seen of it
abbrev pub departure : Topology → LettersValue → ℕ → Numbers → Written → Departure
departure T a d x w = record { writes = w; seen = seen_of T a d (put w x) }

module _ (T : Topology) (a : LettersValue) (d : ℕ) (t : Tree Seen) (sight : IsSight T a d t) (x : Numbers) where
  -- the departure by writes
  abbrev departing_by : Written → Departure
  departing_by w = departure T a d x w

  -- the packet at the switch departs by these writes
  abbrev pub departs : Written → Bool
  departs w = departs_by T (at_switch d x) w

  -- of one writes
  one_departs : (w : Written) → departures_by w (value t (put w x)) ≡ cond (departs w) (departing_by w ∷ []) []
  one_departs w = ap (departures_by w) (sight.gives (put w x)) ∙ by (departs w) (is_linked T d (put w x).port)
    where
      by : (b c : Bool) → departs_at (if b then (if c then Linked else Edge) else Missing) (departing_by w) ≡ cond b (departing_by w ∷ []) []
      by true true = refl
      by true false = refl
      by false c = refl

  -- of all
  pub all_depart : (ws : List Written) → departures_of t x ws ≡ map (departing_by) (filter (departs) ws)
  all_depart [] = refl
  all_depart (w ∷ ws) = (λ i. one_departs w i ++ all_depart ws i) ∙ by (departs w)
    where
      by : (b : Bool) → cond b (departing_by w ∷ []) [] ++ map (departing_by) (filter (departs) ws)
          ≡ map (departing_by) (cond b (w ∷ filter (departs) ws) (filter (departs) ws))
      by true = refl
      by false = refl

-- Copies.

-- the copy to the collector is told by the tag
captured_told : (a : LettersValue) (m : Machine) (dep : Departure) (c : ℕ) → captured_by m dep c ≡ capture_of (tagging_of a m) dep.writes (suc c)
captured_told a m dep c = ap (λ b. if b then record { writes = dep.writes; tag = Some (suc c); kind = CaptureOut } ∷ [] else []) (captures_told m c)

module _ (T : Topology) (a : LettersValue) (m : Machine) (d : ℕ) (lettered : IsLettered a) (same : m.letters ≡ length a.least)
    (fits : d < 2 ^ 64) (x : Numbers) (fit : Fit x) (t : ℕ) where
  -- the packet at the switch
  abbrev here : Numbers
  here = at_switch d x

  abbrev tags : Tagging
  tags = tagging_of a m

  -- writes that change the packet, to numbers that fit
  abbrev pub IsGood : Written → Type 0
  IsGood w = AllFit w × ChangesAll (here) w

  -- the class after the packet written
  next_here : (y : Numbers) → Fit y → suc (next_class m (t - 1) (letter_number a y)) ≡ (tags).after t y
  next_here y y_fit = ap suc (next_told m (t - 1) (letter_number a y) (letter_below a m y lettered same y_fit))

  -- the copies of a departure
  pub one_copied : (w : Written) → IsGood w → departs_by T (here) w ≡ true → copies_by m (t - 1) (departure T a d x w) ≡ copies_told T (tags) t (here) w
  one_copied w good leaves =
      let written = put_is_on w (here) good.1 in
      let y_fit : Fit (on w (here)) = on_fits w (here) good.0 (at_switch_fits d x fits fit) in
      let next = next_here (on w (here)) y_fit in
      let letter : letter_number a (at_switch d (put w x)) ≡ letter_number a (on w (here)) = ap (letter_number a) written in
      ap (λ l. sent_at (port_kind T d (put w x).port) w (suc (next_class m (t - 1) l)) ++ captured_by m (departure T a d x w) (next_class m (t - 1) l)) letter
      ∙ (λ i. sent_at (port_kind T d (put w x).port) w (next i) ++ captured_told a m (departure T a d x w)
      (next_class m (t - 1) (letter_number a (on w (here)))) i)
      ∙ (λ i. sent (next_tag) i ++ capture_of (tags) w (next i))
    where
      next_tag : ℕ
      next_tag = (tags).after t (on w (here))

      sent : (b : ℕ) → sent_at (port_kind T d (put w x).port) w b ≡ sent_of T (on w (here)) w b ∷ []
      sent b = ap (λ p. sent_at (if p then own_kind T d (put w x).port else Missing) w b) leaves ∙ by (is_linked T d (put w x).port)
        where
          by : (c : Bool) → sent_at (if c then Linked else Edge) w b ≡ record { writes = w; tag = if c then Some b else None; kind = Send } ∷ []
          by true = refl
          by false = refl

  -- the copies of all
  pub all_copied : (ws : List Written) → All IsGood ws
      → flat_map (copies_by m (t - 1)) (map (departure T a d x) (filter (departs_by T (here)) ws))
      ≡ flat_map (copies_told T (tags) t (here)) (filter (departs_by T (here)) ws)
  all_copied [] good = refl
  all_copied (w ∷ ws) good = by (all_copied ws (All-tail IsGood w ws good)) (departs_by T (here) w) refl
    where
      by : flat_map (copies_by m (t - 1)) (map (departure T a d x) (filter (departs_by T (here)) ws))
          ≡ flat_map (copies_told T (tags) t (here)) (filter (departs_by T (here)) ws)
          → (b : Bool) → departs_by T (here) w ≡ b
          → flat_map (copies_by m (t - 1))
          (map (departure T a d x)
          (cond (departs_by T (here) w) (w ∷ filter (departs_by T (here)) ws) (filter (departs_by T (here)) ws)))
          ≡ flat_map (copies_told T (tags) t (here)) (cond (departs_by T (here) w) (w ∷ filter (departs_by T (here)) ws) (filter (departs_by T (here)) ws))
      by later true leaves = rw leaves (λ i. one_copied w (All-head IsGood w ws good) leaves i ++ later i)
      by later false stays = rw stays later

  -- the copies of a drop
  pub drop_copied : is_port T d 0 ≡ false → (w : Written) → w ≡ no_writes
      → copies_by m (t - 1) (record { writes = w; seen = seen_of T a d (record x { port = 0 }) })
      ≡ capture_of (tags) w ((tags).after t (record here { port = 0 }))
  drop_copied none w is =
      let y : Numbers = record here { port = 0 } in
      let next = next_here y (at_zero (at_switch_fits d x fits fit)) in
      ap (λ p. sent_at (if p then own_kind T d 0 else Missing) w (suc (next_class m (t - 1) (letter_number a y)))
      ++ captured_by m (dropped) (next_class m (t - 1) (letter_number a y))) none
      ∙ (captured_told a m (dropped) (next_class m (t - 1) (letter_number a y)) ∙ ap (capture_of (tags) w) next)
    where
      dropped : Departure
      dropped = record { writes = w; seen = seen_of T a d (record x { port = 0 }) }

      at_zero : Fit (here) → Fit (record here { port = 0 })
      at_zero f = record {
        switch = f.switch;
        port = omega arith;
        eth_type = f.eth_type;
        ip_proto = f.ip_proto;
        eth_src = f.eth_src;
        eth_dst = f.eth_dst;
        ipv4_src = f.ipv4_src;
        ipv4_dst = f.ipv4_dst;
        tcp_src = f.tcp_src;
        tcp_dst = f.tcp_dst;
        udp_src = f.udp_src;
        udp_dst = f.udp_dst;
        ipv6_src = f.ipv6_src;
        ipv6_dst = f.ipv6_dst;
      }

  -- the copies of departures, or of a drop where there are none
  copies_or_drop : is_port T d 0 ≡ false → (vs : List Written)
      → flat_map (copies_by m (t - 1)) (map (departure T a d x) vs) ≡ flat_map (copies_told T (tags) t (here)) vs
      → copies_at m (t - 1) (or_drop (map (departure T a d x) vs) (seen_of T a d (record x { port = 0 }))) ≡ copies_of T (tags) t (here) vs
  copies_or_drop none [] equal = append-nil _ ∙ drop_copied none no_writes refl
  copies_or_drop none (v ∷ vs) equal = equal

  -- so the copies of what is told by the sight are those that leave
  pub leaving_told : (s : Tree Seen) → IsSight T a d s → is_port T d 0 ≡ false → (ws : List Written) → All IsGood ws
      → copies_at m (t - 1) (departures_or_drop s x ws) ≡ copies_of T (tags) t (here) (filter (departs_by T (here)) ws)
  leaving_told s sight none ws good =
      ap (copies_at m (t - 1)) (λ i. or_drop (all_depart T a d s sight x ws i) (sight.gives (record x { port = 0 }) i))
      ∙ copies_or_drop none (filter (departs_by T (here)) ws) (all_copied ws good)

-- The trees of a switch, from those of its parts.

-- what both lists hold of each
all_good : (T : Topology) (P Q : Written → Type 0) (ws : List Written) → All P ws → All Q ws → All (λ w. P w × Q w) ws
all_good T P Q ws p q = λ k e within. (p k e within, q k e within)

module _ (T : Topology) (a : LettersValue) (m : Machine) (d : ℕ) (lettered : IsLettered a) (same : m.letters ≡ length a.least)
    (fits : d < 2 ^ 64) (none : is_port T d 0 ≡ false)
    (seen : List (Tree Seen)) (root : ℕ) (sight : HasAt (IsSight T a d) seen root) (us : List (Tree (List Written))) (policy here : ℕ)
    (restricts : RestrictsAt Switch d us policy us here)
    (whole : List (Tree (List Departure))) (node : ℕ) (departs : DepartsOrDropsAt seen root us here whole node) (p : Tree (List Written))
    (p_is : slice_get us policy ≡ Some p)
    (idle_free : IsIdleFree p) where
  -- what the tree of a tag says
  copied : (t : ℕ) (second : List (Tree (List Outgoing))) (id : ℕ) → MakesAt (copies_at m (t - 1)) whole node second id
      → HasAt (IsLeaving T (tagging_of a m) (departing T (value p)) d t) second id
  copied t second id makes =
      let restricted = restricts p p_is in
      let made = departs sight.0 restricted.0 sight.1 restricted.1 in
      let copies = makes made.0 made.1 in (
        copies.0,
        copies.1,
        record {
          gives = λ x fit.
              let given = idle_free (at_switch d x) (at_switch_fits d x fits fit) in
              copies.2.gives x
              ∙ (ap (copies_at m (t - 1)) (made.2.gives x ∙ ap (departures_or_drop sight.0 x) (restricted.2.gives x))
              ∙ leaving_told T a m d lettered same fits x fit t sight.0 sight.2 none (value p (at_switch d x))
              (all_good T AllFit (ChangesAll (at_switch d x)) (value p (at_switch d x)) given.fit given.idle_free));
          diagram = copies.2.diagram;
        },
      )

  -- so the trees made of departures are those of the second table
  pub leaving_whole : (second : List (Tree (List Outgoing))) (trees : List (ℕ × ℕ)) → LeavesAt m whole node second trees
      → AreLeaving T (tagging_of a m) (departing T (value p)) d second trees
  leaving_whole second trees leaves =
      zip_weaker (λ t q. (q.0 ≡ t) × MakesAt (copies_at m (t - 1)) whole node second q.1)
      (λ t q. (q.0 ≡ t) × HasAt (IsLeaving T (tagging_of a m) (departing T (value p)) d t) second q.1)
      (λ t q both. (both.0, copied t second q.1 both.1)) (odd_tags (tagging_of a m)) trees leaves
