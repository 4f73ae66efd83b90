-- The install of a meaning's departures and tags implements the meaning.
use Rattle.std.proofs.Common.{◌≡◌, ◌≢◌, ◌∙◌, ◌-◌, ◌≤◌, ℕ, Bool, true, false, ◌&&◌, ◌==◌, if◌then◌else◌, List, [], ◌∷◌, ◌++◌, map, refl, sym}
use Rattle.std.proofs.Common.{ap, subst, inl, inr, arith}
use Rattle.std.specs.Prelude.{◌⊎◌, is_none}
use Rattle.std.specs.List.{AllZip, list_any}
use Rattle.std.specs.declared.option.Option.{Option}
use Rattle.std.specs.declared.option.Option.TheVariants.{None, Some}
use Rattle.std.proofs.lemmas.Bool.{true≢false, false_from_ne_true}
use Rattle.std.proofs.lemmas.Bool.Decides.{nat_tests}
use Rattle.std.proofs.lemmas.List.Elements.{recursion_from_All}
use Rattle.pq_fields.specs.Packet.{Numbers, Fit}
use Rattle.pq_model.specs.declared.message.Message.{Message}
use Rattle.pq_model.specs.Classes.{Languages}
use Rattle.pq_model.specs.Events.{IsTagged}
use Rattle.pq_model.specs.Headline.{Agree, Implements, installed}
use Rattle.pq_model.specs.Install.{Install, IsLawfulLink, IsLawfulTopology, messages_in}
use Rattle.pq_model.specs.MatchFields.{vlan_word}
use Rattle.pq_model.specs.Meaning.{Meaning, at_rest, run}
use Rattle.pq_model.specs.Orders.{IsLawfulOrder}
use Rattle.pq_model.specs.SwitchMachine.{Tables, in_order}
use Rattle.pq_model.specs.TablesMachine.{nothing_sent, run_sending, sends_by}
use Rattle.pq_model.specs.Tagged.{TaggedPacket}
use Rattle.pq_model.specs.Topology.{Switch, Topology, is_edge, is_linked, is_port, peer, ports_in}
use Rattle.pq_model.proofs.Schedules.{agreement}
use Rattle.pq_rewrite.specs.declared.outgoing.Outgoing.{Outgoing}
use Rattle.pq_rewrite.specs.declared.trees.Arrive.{Arrive}
use Rattle.pq_rewrite.specs.declared.trees.Key.TheVariants.{Plain, Tag}
use Rattle.pq_layout.specs.Actions.{tag_word}
use Rattle.pq_layout.specs.Emission.{AreTrees, IsEmission, report_of}
use Rattle.pq_layout.specs.Leaves.{Departures, arrival, arrive, leaving}
use Rattle.pq_layout.specs.Messages.{ArrivingTrees, LeavingTrees}
use Rattle.pq_layout.specs.Sending.{SendsAs, arrival_sent, copy_sent, said_by, sent_after, sent_by}
use Rattle.pq_layout.specs.Tagging.{Tagging}
use Rattle.pq_headline.specs.LaidOut.{IsLaidOut, Matches}
use Rattle.pq_headline.specs.Sent.{AllSend, AreSending, SendAsTrees}
use Rattle.pq_headline.proofs.Ends.{linked_port}
use Rattle.pq_headline.proofs.Said.{leaving_says, plain_says, strange_says, tag_says}
use Rattle.pq_headline.proofs.Simulated.{simulated}

-- the trees of a switch
pub record BothTrees : Type 0 where
  pub first : ArrivingTrees
  pub second : LeavingTrees

module _ (T : Topology) (g : Tagging) (writes : Departures) where
  abbrev Sending : List Switch → List (List Message) → Type 0
  Sending ss lists = AllZip (λ s ms. AreSending T g writes s.datapath ms) ss lists

  -- the trees of the switch with this datapath number, where there is such a switch
  abbrev trees_in : (ss : List Switch) (lists : List (List Message)) → Sending ss lists → ℕ → Option BothTrees
  trees_in [] lists all d = None
  trees_in (s ∷ ss) [] all d = None
  trees_in (s ∷ ss) (ms ∷ lists) all d =
      if s.datapath == d then Some (record { first = all.0.messages.first; second = all.0.messages.second }) else trees_in ss lists all.1 d

  -- the switch is there, and it sends as its trees say
  pub record Known (ms : List Message) (trees : Option BothTrees) (d : ℕ) : Type 0 where
    pub both : BothTrees
    pub is : trees ≡ Some both
    pub are : AreTrees T g writes d both.first both.second
    pub send : SendAsTrees ms both.first both.second

  -- or it isn't, and has no port
  pub record Unknown (ports : List ℕ) (trees : Option BothTrees) : Type 0 where
    pub none : trees ≡ None
    pub without : ports ≡ []

  known_or_not : (ss : List Switch) (lists : List (List Message)) (all : Sending ss lists) (d : ℕ)
      → Known (messages_in ss lists d) (trees_in ss lists all d) d ⊎ Unknown (ports_in ss d) (trees_in ss lists all d)
  known_or_not [] lists all d = inr (record { none = refl; without = refl })
  known_or_not (s ∷ ss) [] all d = absurd all
  known_or_not (s ∷ ss) (ms ∷ lists) all d = by (s.datapath == d) refl (known_or_not ss lists all.1 d)
    where
      own : BothTrees
      own = record { first = all.0.messages.first; second = all.0.messages.second }

      by : (b : Bool) → (s.datapath == d) ≡ b
          → Known (messages_in ss lists d) (trees_in ss lists all.1 d) d ⊎ Unknown (ports_in ss d) (trees_in ss lists all.1 d)
          → Known (if b then ms else messages_in ss lists d) (if b then Some own else trees_in ss lists all.1 d) d
          ⊎ Unknown (if b then s.ports else ports_in ss d) (if b then Some own else trees_in ss lists all.1 d)
      by true same more =
          let is : s.datapath ≡ d = grind (arith, nat_tests) in
          inl (record { both = own; is = refl; are = subst (λ n. AreTrees T g writes n own.first own.second) is all.0.messages.trees; send = all.0.send })
      by false same more = more

  -- what the trees of a switch say, and the layout where there is no switch
  abbrev first_said : Option BothTrees → ℕ → Numbers → Option Arrive
  first_said None word x = None
  first_said (Some both) word x = said_by both.first None word x

  abbrev second_said : Option BothTrees → ℕ → Numbers → List Outgoing
  second_said None word x = leaving T g writes (word - 0x1000) x
  second_said (Some both) word x = said_by both.second [] word x

  module _ (lawful : IsLawfulTopology T) (lists : List (List Message)) (all : AllSend T g writes lists) (before : ℕ → Tables) (order : ℕ → List Message)
      (orders : (d : ℕ) → IsLawfulOrder (messages_in T.switches lists d) (order d)) where
    abbrev trees_at : ℕ → Option BothTrees
    trees_at d = trees_in T.switches lists all d

    abbrev first_all : ℕ → Numbers → Option Arrive
    first_all word x = first_said (trees_at x.switch) word x

    abbrev second_all : ℕ → Numbers → List Outgoing
    second_all word x = second_said (trees_at x.switch) word x

    no_port : (d p : ℕ) → Unknown (ports_in T.switches d) (trees_at d) → is_port T d p ≡ false
    no_port d p unknown = ap (λ ps. list_any (λ q. q == p) ps) unknown.without

    no_edge : (d p : ℕ) → Unknown (ports_in T.switches d) (trees_at d) → is_edge T d p ≡ false
    no_edge d p unknown = ap (λ b. b && is_none (peer T d p)) (no_port d p unknown)

    no_link : (d p : ℕ) → Unknown (ports_in T.switches d) (trees_at d) → is_linked T d p ≡ false
    no_link d p unknown = false_from_ne_true (is_linked T d p)
        (λ linked. true≢false (sym (linked_port T T.links d p (recursion_from_All (IsLawfulLink T) T.links lawful.links) linked) ∙ no_port d p unknown))

    -- what is sent after table 0 is the same where table 1 says the same
    sent_same : (f h : ℕ → Numbers → List Outgoing) (x : Numbers) → ((word : ℕ) → f word x ≡ h word x) → (a : Option Arrive)
        → sent_after f x a ≡ sent_after h x a
    sent_same f h x same None = refl
    sent_same f h x same (Some a) = ap (λ cs. arrival_sent x a ++ map (copy_sent x) cs) (same (tag_word a.tag))

    all_send : (x : TaggedPacket) → IsTagged x → is_port T x.packet.switch x.packet.port ≡ true
        → sends_by (installed before order) x ≡ in_order (sent_by first_all second_all x)
    all_send x tagged port = elim (known_or_not T.switches lists all x.packet.switch) [
      | inl known ↦
          let d = x.packet.switch in
          let second_same : (word : ℕ) → said_by known.both.second [] word x.packet ≡ second_all word x.packet =
          λ word. ap (λ o. second_said o word x.packet) (sym known.is) in
          known.send (before d) (order d) (orders d) x tagged
          ∙ ap (λ a. in_order (sent_after (said_by known.both.second []) x.packet a)) (ap (λ o. first_said o (vlan_word x.vlan) x.packet) (sym known.is))
          ∙ ap in_order (sent_same (said_by known.both.second []) second_all x.packet second_same (first_all (vlan_word x.vlan) x.packet))
      | inr unknown ↦ absurd (true≢false (sym port ∙ no_port x.packet.switch x.packet.port unknown))
    ]

    all_plain : (x : Numbers) → Fit x → first_all 0 x ≡ arrival T g Plain x
    all_plain x fit = elim (known_or_not T.switches lists all x.switch) [
      | inl known ↦ ap (λ o. first_said o 0 x) known.is ∙ plain_says T g writes known.both.first known.both.second x fit known.are
      | inr unknown ↦ ap (λ o. first_said o 0 x) unknown.none
          ∙ ap (λ b. if b then Some (arrive g (g.after 1 x)) else None) (sym (no_edge x.switch x.port unknown))
    ]

    all_tagged : (x : Numbers) → Fit x → (t : ℕ) → 1 ≤ t → t ≤ g.count → g.is_even t ≡ true → first_all (tag_word t) x ≡ arrival T g (Tag t) x
    all_tagged x fit t low high even = elim (known_or_not T.switches lists all x.switch) [
      | inl known ↦ ap (λ o. first_said o (tag_word t) x) known.is ∙ tag_says T g writes known.both.first known.both.second x fit known.are t low high even
      | inr unknown ↦ ap (λ o. first_said o (tag_word t) x) unknown.none
          ∙ ap (λ b. if b then Some (arrive g (g.after t x)) else None) (sym (no_link x.switch x.port unknown))
    ]

    all_strange : (x : Numbers) → Fit x → is_edge T x.switch x.port ≡ true → (word : ℕ) → word ≢ 0 → first_all word x ≡ None
    all_strange x fit edge word other = elim (known_or_not T.switches lists all x.switch) [
      | inl known ↦ ap (λ o. first_said o word x) known.is ∙ strange_says T g writes known.both.first known.both.second x fit known.are edge word other
      | inr unknown ↦ ap (λ o. first_said o word x) unknown.none
    ]

    all_leaving : (x : Numbers) → Fit x → (a : ℕ) → 1 ≤ a → a ≤ g.count → g.is_even a ≡ false → second_all (tag_word a) x ≡ leaving T g writes a x
    all_leaving x fit a low high odd = elim (known_or_not T.switches lists all x.switch) [
      | inl known ↦ ap (λ o. second_said o (tag_word a) x) known.is ∙ leaving_says T g writes known.both.first known.both.second x fit known.are a low high odd
      | inr unknown ↦ let same : tag_word a - 0x1000 ≡ a = omega arith in ap (λ o. second_said o (tag_word a) x) unknown.none
          ∙ ap (λ n. leaving T g writes n x) same
    ]

    -- the switches send as the layout says
    sends_as : SendsAs T g writes (sends_by (installed before order))
    sends_as = record {
      first = first_all;
      second = second_all;
      sends = all_send;
      plain = all_plain;
      tagged = all_tagged;
      strange = all_strange;
      leaves = all_leaving;
    }

-- whatever the tables held, in whatever lawful order the messages come, every schedule leaves what the meaning leaves
pub implemented : (T : Topology) (m : Meaning) (Ls : Languages) (g : Tagging) (writes : Departures) (names : List (List ℕ)) (i : Install)
    → IsLaidOut T m Ls g writes → IsEmission T names writes g m.instances i → AllSend T g writes i.messages → Implements i m
implemented T m Ls g writes names i laid emission all before order orders events fits =
    let send = sends_by (installed before order) in
    let orders_here : (d : ℕ) → IsLawfulOrder (messages_in T.switches i.messages d) (order d) = λ d.
    subst (λ U. IsLawfulOrder (messages_in U.switches i.messages d) (order d)) emission.topology (orders d) in
    let as_laid : SendsAs T g writes send = sends_as T g writes laid.lawful i.messages all before order orders_here in
    let agrees = agreement m (report_of g m.instances) send (Matches T g) (simulated T m Ls g writes send laid as_laid) events fits in
    let network : m.topology ≡ i.topology = laid.topology ∙ sym emission.topology in
    let same : run_sending m.topology (report_of g m.instances) send nothing_sent events ≡ run_sending i.topology i.report send nothing_sent events =
    λ k. run_sending (network k) (sym emission.report k) send nothing_sent events in
    subst (Agree (run m at_rest events)) same agrees
