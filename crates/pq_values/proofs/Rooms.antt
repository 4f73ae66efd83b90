-- Where no field is above its limit, there is room for all numbers of a document.
use Rattle.std.proofs.Common.{◌≡◌, ◌≤◌, ℕ, zero, suc, ◌==◌, true, ◌||◌, List, [], ◌∷◌, ◌++◌, map, length, All, Option, Some, None, refl}
use Rattle.std.proofs.Common.{sym, ap, subst, ◌∙◌, arith}
use Rattle.std.specs.List.{AllByRecursion, Any, flat_map, list_any}
use Rattle.std.proofs.lemmas.Bool.{true≢false}
use Rattle.std.proofs.lemmas.List.{length-map}
use Rattle.std.proofs.lemmas.List.Concat.{flat_map-cons}
use Rattle.std.proofs.lemmas.List.Elements.{All-nil, All-cons, All-head, All-tail, All-append, All-weaker, recursion_from_All}
use Rattle.std.proofs.Math.Bool.{or-true}
use Rattle.pq_lists.proofs.Holding.{all_back, all_front}
use Rattle.pq_fields.specs.declared.field.Field.{Field}
use Rattle.pq_fields.specs.declared.field.Field.TheVariants.{Switch, Port, EthType, IpProto, EthSrc, EthDst, Ipv4Src, Ipv4Dst, TcpSrc}
use Rattle.pq_fields.specs.declared.field.Field.TheVariants.{TcpDst, UdpSrc, UdpDst, Ipv6Src, Ipv6Dst}
use Rattle.pq_fields.specs.Packet.{rank}
use Rattle.pq_fields.specs.Pred.{PredTop, Preds, PredTree, preds, ArePredsOver, IsPredOver, IsTopOver as IsPredTopOver}
use Rattle.pq_fields.specs.Pred.PredTop.{Always, Never, Equals, Leads, LeadsWide, Every, Some as AnyOf, Negated}
use Rattle.pq_fields.specs.Pred.Preds.{none as no_preds, put as add_pred}
use Rattle.pq_model.specs.Install.{IsLawfulSwitch}
use Rattle.pq_model.specs.MatchFields.{IsPortNumber}
use Rattle.pq_model.specs.Topology.{Switch as SwitchValue, Topology}
use Rattle.pq_model.proofs.CommutingFlows.{equal-comm}
use Rattle.pq_topo.specs.Named.{IsNamedTopology}
use Rattle.pq_pred.specs.Named.{MayStand}
use Rattle.pq_policy.specs.Policy.{PolicyTop, Pass, Discard, Spread, Only, Write, Forward, Choose, Either}
use Rattle.pq_policy.specs.Policy.{InTurn, Policies, none as no_policies, put as add_policy, PolicyTree, policies, ArePoliciesOver}
use Rattle.pq_policy.specs.Policy.{IsPolicyOver, IsTopOver as IsPolicyTopOver}
use Rattle.pq_query.specs.Groups.{Group}
use Rattle.pq_query.specs.Labels.{ascending, datapath_numbers, port_numbers, group_values, groups_of, listed_values, top_groups}
use Rattle.pq_query.specs.Lawful.{AreQueriesOver, IsGroupOver, IsQueryOver, IsTopOver as IsQueryTopOver, MayTake}
use Rattle.pq_query.specs.Query.{QueryTop, Enters, Leaves, Passes, Ends, InTurn as Joined, Either as AnyQuery, Both, Other, Repeated}
use Rattle.pq_query.specs.Query.{Queries, none as no_queries, put as add_query, QueryTree, queries}
use Rattle.pq_query.specs.Resolved.{is_field, is_listed}
use Rattle.pq_query.proofs.Ascending.{has, has_ascending}
use Rattle.pq_query.proofs.Ports.{either_has}
use Rattle.pq_store.specs.Room.{AreFew, IsAmong, IsCounted}
use Rattle.pq_apply.specs.Predicates.{ArePredsWithin, IsPredWithin, IsTopWithin, NeedsAmong}
use Rattle.pq_apply.proofs.Examples.{found_among}
use Rattle.pq_apply.proofs.Required.{needs_among}
use Rattle.pq_lower.specs.Built.{own_preds, top_own}
use Rattle.pq_forward.specs.Forward.{ArePoliciesWithin, IsPolicyTopWithin, IsPolicyWithin, IsTopologyWithin}
use Rattle.pq_classes.specs.Room.{IsGroupWithin, IsQueryWithin}
use Rattle.pq_values.specs.Limits.{Limit, count_for, limits, numbers_for}
use Rattle.pq_values.specs.Room.{AreFewStated, AreOver, AreWithin, HaveRoom}
use Rattle.pq_values.specs.Stated.{Stated, in_group, in_groups, in_policies, in_policy, in_policy_top, in_pred, in_pred_top, in_preds}
use Rattle.pq_values.specs.Stated.{in_queries, in_query, in_query_top, stated, stated_for}
use Rattle.pq_values.proofs.Counted.{itself, numbers_append}

-- Lists of numbers.

found_turned : (ks : List ℕ) (n : ℕ) → list_any (λ k. n == k) ks ≡ has ks n
found_turned [] n = refl
found_turned (k ∷ ks) n = rw (equal-comm n k, found_turned ks n) refl

-- a number that the list has is among its numbers
pub among : (ks : List ℕ) (n : ℕ) → has ks n ≡ true → IsAmong n ks
among ks n found = found_among n ks (found_turned ks n ∙ found)

-- what the list has it still has after one more
pub behind : (k : ℕ) (ks : List ℕ) (n : ℕ) → has ks n ≡ true → has (k ∷ ks) n ≡ true
behind k ks n found = ap (λ b. (k == n) || b) found ∙ or-true (k == n)

pub first : (k : ℕ) (ks : List ℕ) → has (k ∷ ks) k ≡ true
first k ks = ap (λ b. b || has ks k) (itself k)

-- a list has all of its numbers
all_had : (ks : List ℕ) → All (λ n. has ks n ≡ true) ks
all_had [] = All-nil (λ n. has [] n ≡ true)
all_had (k ∷ ks) =
    All-cons (λ n. has (k ∷ ks) n ≡ true) k ks (first k ks)
    (All-weaker (λ n. has ks n ≡ true) (λ n. has (k ∷ ks) n ≡ true) (λ n found. behind k ks n found) ks (all_had ks))

-- Stated numbers.

-- the number is stated for the field
abbrev States : List Stated → Field → ℕ → Type 0
States ss f n = has (numbers_for f ss) n ≡ true

states_left : (ss ts : List Stated) (f : Field) (n : ℕ) → States ss f n → States (ss ++ ts) f n
states_left ss ts f n found = ap (λ ks. has ks n) (numbers_append f ss ts)
    ∙ (either_has (numbers_for f ss) (numbers_for f ts) n ∙ ap (λ b. b || has (numbers_for f ts) n) found)

states_right : (ss ts : List Stated) (f : Field) (n : ℕ) → States ts f n → States (ss ++ ts) f n
states_right ss ts f n found =
    ap (λ ks. has ks n) (numbers_append f ss ts)
    ∙ (either_has (numbers_for f ss) (numbers_for f ts) n ∙ (ap (λ b. has (numbers_for f ss) n || b) found ∙ or-true (has (numbers_for f ss) n)))

numbers_one : (f : Field) (n : ℕ) (ss : List Stated) → numbers_for f ((f, n) ∷ ss) ≡ n ∷ numbers_for f ss
numbers_one f n ss = let own : is_field f f ≡ true = itself (rank f) in rw own refl

states_first : (f : Field) (n : ℕ) (ss : List Stated) → States ((f, n) ∷ ss) f n
states_first f n ss = ap (λ ks. has ks n) (numbers_one f n ss) ∙ first n (numbers_for f ss)

numbers_all : (f : Field) (ns : List ℕ) → numbers_for f (stated_for f ns) ≡ ns
numbers_all f [] = refl
numbers_all f (n ∷ ns) = numbers_one f n (stated_for f ns) ∙ ap (λ ms. n ∷ ms) (numbers_all f ns)

-- What is stated is among some numbers, so the parts of a document are.
module _ (T : Topology) (ns : Field → List ℕ) where
  -- numbers that may stand for their fields are among these, where they are stated
  abbrev pub Covers : List Stated → Type 0
  Covers ss = (f : Field) (n : ℕ) → States ss f n → MayStand T f n → IsCounted ns f n

  left : (ss ts : List Stated) → Covers (ss ++ ts) → Covers ss
  left ss ts covers f n found may = covers f n (states_left ss ts f n found) may

  right : (ss ts : List Stated) → Covers (ss ++ ts) → Covers ts
  right ss ts covers f n found may = covers f n (states_right ss ts f n found) may

  here : (f : Field) (n : ℕ) → Covers ((f, n) ∷ []) → MayStand T f n → IsCounted ns f n
  here f n covers may = covers f n (states_first f n []) may

  -- all numbers of a list
  counted_each : (f : Field) (ms ks : List ℕ) → ((n : ℕ) → has ms n ≡ true → has ks n ≡ true)
      → ((n : ℕ) → has ks n ≡ true → MayStand T f n → IsCounted ns f n) → All (MayStand T f) ms → All (IsCounted ns f) ms
  counted_each f [] ks into covers may = All-nil (IsCounted ns f)
  counted_each f (m ∷ ms) ks into covers may =
      All-cons (IsCounted ns f) m ms (covers m (into m (first m ms)) (All-head (MayStand T f) m ms may))
      (counted_each f ms ks (λ n found. into n (behind m ms n found)) covers (All-tail (MayStand T f) m ms may))

  counted_all : (f : Field) (ms : List ℕ) → Covers (stated_for f ms) → All (MayStand T f) ms → All (IsCounted ns f) ms
  counted_all f ms covers may = counted_each f ms ms (λ n found. found) (λ n found. covers f n (ap (λ ks. has ks n) (numbers_all f ms) ∙ found)) may

  module _ (needs : (f : Field) → NeedsAmong ns f) where
    -- Predicates.

    pred_top_within : (top : PredTop) (below : Preds) → IsPredTopOver (MayStand T) top below → Covers (in_pred_top top) → IsTopWithin ns top
    pred_top_within Always below over covers = tt
    pred_top_within Never below over covers = tt
    pred_top_within (Equals f n) below over covers = (here f n covers over, needs f)
    pred_top_within (Leads f n len) below over covers = needs f
    pred_top_within (LeadsWide f n len) below over covers = needs f
    pred_top_within Every below over covers = tt
    pred_top_within AnyOf below over covers = tt
    pred_top_within Negated below over covers = tt

    preds_within : (ps : Preds) → ArePredsOver (MayStand T) ps → Covers (in_preds ps) → ArePredsWithin ns ps
    preds_within no_preds over covers = tt
    preds_within (add_pred top below rest) over covers =
        let later = right (in_pred_top top) (in_preds below ++ in_preds rest) covers in (
          pred_top_within top below over.0 (left (in_pred_top top) (in_preds below ++ in_preds rest) covers),
          preds_within below over.1 (left (in_preds below) (in_preds rest) later),
          preds_within rest over.2 (right (in_preds below) (in_preds rest) later),
        )

    pred_within : (p : PredTree) → IsPredOver (MayStand T) p → Covers (in_pred p) → IsPredWithin ns p
    pred_within p over covers = preds_within (preds (p ∷ [])) over covers

    -- Policies.

    policy_top_within : (top : PolicyTop) (below : Policies) → IsPolicyTopOver (MayStand T) top below → Covers (in_policy_top top) → IsPolicyTopWithin ns top
    policy_top_within Pass below over covers = tt
    policy_top_within Discard below over covers = tt
    policy_top_within Spread below over covers = tt
    policy_top_within (Only p) below over covers = pred_within p over covers
    policy_top_within (Write f n) below over covers = (here f n covers over.1, needs f)
    policy_top_within (Forward n) below over covers = here Port n covers over refl
    policy_top_within (Choose p) below over covers = pred_within p over covers
    policy_top_within Either below over covers = tt
    policy_top_within InTurn below over covers = tt

    policies_within : (ps : Policies) → ArePoliciesOver (MayStand T) ps → Covers (in_policies ps) → ArePoliciesWithin ns ps
    policies_within no_policies over covers = tt
    policies_within (add_policy top below rest) over covers =
        let later = right (in_policy_top top) (in_policies below ++ in_policies rest) covers in (
          policy_top_within top below over.0 (left (in_policy_top top) (in_policies below ++ in_policies rest) covers),
          policies_within below over.1 (left (in_policies below) (in_policies rest) later),
          policies_within rest over.2 (right (in_policies below) (in_policies rest) later),
        )

    -- those of parts
    parts_within : (ps : List PolicyTree) → All (IsPolicyOver (MayStand T)) ps → Covers (flat_map in_policy ps) → All (IsPolicyWithin ns) ps
    parts_within [] over covers = All-nil (IsPolicyWithin ns)
    parts_within (p ∷ ps) over covers =
        let whole : Covers (in_policy p ++ flat_map in_policy ps) = subst Covers (flat_map-cons in_policy p ps) covers in
        All-cons (IsPolicyWithin ns) p ps
        (policies_within (policies (p ∷ [])) (All-head (IsPolicyOver (MayStand T)) p ps over) (left (in_policy p) (flat_map in_policy ps) whole))
        (parts_within ps (All-tail (IsPolicyOver (MayStand T)) p ps over) (right (in_policy p) (flat_map in_policy ps) whole))

    -- Queries, over a network whose numbers are among these.
    module _ (datapaths : All (λ d. IsAmong d (ns Switch)) (datapath_numbers T)) (ports : All (λ p. IsAmong p (ns Port)) (port_numbers T)) where
      listed_within : (f : Field) → is_listed f ≡ true → All (IsCounted ns f) (listed_values T f)
      listed_within Switch listed = All-weaker (λ d. IsAmong d (ns Switch)) (IsCounted ns Switch) (λ d is whole. is) (datapath_numbers T) datapaths
      listed_within Port listed = All-weaker (λ p. IsAmong p (ns Port)) (IsCounted ns Port) (λ p is whole. is) (port_numbers T) ports
      listed_within EthType listed = absurd (true≢false (sym listed))
      listed_within IpProto listed = absurd (true≢false (sym listed))
      listed_within EthSrc listed = absurd (true≢false (sym listed))
      listed_within EthDst listed = absurd (true≢false (sym listed))
      listed_within Ipv4Src listed = absurd (true≢false (sym listed))
      listed_within Ipv4Dst listed = absurd (true≢false (sym listed))
      listed_within TcpSrc listed = absurd (true≢false (sym listed))
      listed_within TcpDst listed = absurd (true≢false (sym listed))
      listed_within UdpSrc listed = absurd (true≢false (sym listed))
      listed_within UdpDst listed = absurd (true≢false (sym listed))
      listed_within Ipv6Src listed = absurd (true≢false (sym listed))
      listed_within Ipv6Dst listed = absurd (true≢false (sym listed))

      group_within : (g : Group) → IsGroupOver (MayStand T) g → Covers (in_group g) → IsGroupWithin ns T g
      group_within g over covers = (needs g.field, by g.values over.1 covers)
        where
          by : (vs : Option (List ℕ)) → MayTake (MayStand T) g.field vs → Covers (in_group (record { field = g.field; values = vs }))
              → All (IsCounted ns g.field) (group_values T (record { field = g.field; values = vs }))
          by (Some ms) take cover = counted_all g.field ms cover take.fit
          by None listed cover = listed_within g.field listed

      groups_each : (gs : List Group) → All (IsGroupOver (MayStand T)) gs → Covers (in_groups gs) → All (IsGroupWithin ns T) gs
      groups_each [] over covers = All-nil (IsGroupWithin ns T)
      groups_each (g ∷ gs) over covers =
          let whole : Covers (in_group g ++ in_groups gs) = subst Covers (flat_map-cons in_group g gs) covers in
          All-cons (IsGroupWithin ns T) g gs
          (group_within g (All-head (IsGroupOver (MayStand T)) g gs over) (left (in_group g) (in_groups gs) whole))
          (groups_each gs (All-tail (IsGroupOver (MayStand T)) g gs over) (right (in_group g) (in_groups gs) whole))

      -- one predicate
      one_pred : (p : PredTree) → IsPredWithin ns p → All (IsPredWithin ns) (p ∷ [])
      one_pred p within = All-cons (IsPredWithin ns) p [] within (All-nil (IsPredWithin ns))

      top_own_within : (top : QueryTop) (below : Queries) → IsQueryTopOver (MayStand T) top below → Covers (in_query_top top)
          → All (IsPredWithin ns) (top_own top)
      top_own_within (Enters p gs) below over covers = one_pred p (pred_within p over.0 (left (in_pred p) (in_groups gs) covers))
      top_own_within (Leaves p gs) below over covers = one_pred p (pred_within p over.0 (left (in_pred p) (in_groups gs) covers))
      top_own_within (Passes p gs q hs) below over covers =
          let later = right (in_groups gs) (in_pred q ++ in_groups hs) (right (in_pred p) (in_groups gs ++ (in_pred q ++ in_groups hs)) covers) in
          All-cons (IsPredWithin ns) p (q ∷ [])
          (pred_within p over.0 (left (in_pred p) (in_groups gs ++ (in_pred q ++ in_groups hs)) covers))
          (one_pred q (pred_within q over.2 (left (in_pred q) (in_groups hs) later)))
      top_own_within (Ends p) below over covers = one_pred p (pred_within p over covers)
      top_own_within Joined below over covers = All-nil (IsPredWithin ns)
      top_own_within AnyQuery below over covers = All-nil (IsPredWithin ns)
      top_own_within Both below over covers = All-nil (IsPredWithin ns)
      top_own_within Other below over covers = All-nil (IsPredWithin ns)
      top_own_within Repeated below over covers = All-nil (IsPredWithin ns)

      top_groups_within : (top : QueryTop) (below : Queries) → IsQueryTopOver (MayStand T) top below → Covers (in_query_top top)
          → All (IsGroupWithin ns T) (top_groups top)
      top_groups_within (Enters p gs) below over covers = groups_each gs over.1.each (right (in_pred p) (in_groups gs) covers)
      top_groups_within (Leaves p gs) below over covers = groups_each gs over.1.each (right (in_pred p) (in_groups gs) covers)
      top_groups_within (Passes p gs q hs) below over covers =
          let rest = right (in_pred p) (in_groups gs ++ (in_pred q ++ in_groups hs)) covers in
          let later = right (in_groups gs) (in_pred q ++ in_groups hs) rest in
          All-append (IsGroupWithin ns T) gs hs
          (groups_each gs over.1.each (left (in_groups gs) (in_pred q ++ in_groups hs) rest))
          (groups_each hs over.3.each (right (in_pred q) (in_groups hs) later))
      top_groups_within (Ends p) below over covers = All-nil (IsGroupWithin ns T)
      top_groups_within Joined below over covers = All-nil (IsGroupWithin ns T)
      top_groups_within AnyQuery below over covers = All-nil (IsGroupWithin ns T)
      top_groups_within Both below over covers = All-nil (IsGroupWithin ns T)
      top_groups_within Other below over covers = All-nil (IsGroupWithin ns T)
      top_groups_within Repeated below over covers = All-nil (IsGroupWithin ns T)

      own_within : (qs : Queries) → AreQueriesOver (MayStand T) qs → Covers (in_queries qs) → All (IsPredWithin ns) (own_preds qs)
      own_within no_queries over covers = All-nil (IsPredWithin ns)
      own_within (add_query top below rest) over covers =
          let later = right (in_query_top top) (in_queries below ++ in_queries rest) covers in
          All-append (IsPredWithin ns) (top_own top) (own_preds below ++ own_preds rest)
          (top_own_within top below over.0 (left (in_query_top top) (in_queries below ++ in_queries rest) covers))
          (All-append (IsPredWithin ns) (own_preds below) (own_preds rest)
          (own_within below over.1 (left (in_queries below) (in_queries rest) later))
          (own_within rest over.2 (right (in_queries below) (in_queries rest) later)))

      groups_within : (qs : Queries) → AreQueriesOver (MayStand T) qs → Covers (in_queries qs) → All (IsGroupWithin ns T) (groups_of qs)
      groups_within no_queries over covers = All-nil (IsGroupWithin ns T)
      groups_within (add_query top below rest) over covers =
          let later = right (in_query_top top) (in_queries below ++ in_queries rest) covers in
          All-append (IsGroupWithin ns T) (top_groups top) (groups_of below ++ groups_of rest)
          (top_groups_within top below over.0 (left (in_query_top top) (in_queries below ++ in_queries rest) covers))
          (All-append (IsGroupWithin ns T) (groups_of below) (groups_of rest)
          (groups_within below over.1 (left (in_queries below) (in_queries rest) later))
          (groups_within rest over.2 (right (in_queries below) (in_queries rest) later)))

      query_within : (q : QueryTree) → IsQueryOver (MayStand T) q → Covers (in_query q) → IsQueryWithin ns T q
      query_within q over covers = record { preds = own_within (queries (q ∷ [])) over covers; groups = groups_within (queries (q ∷ [])) over covers }

      queries_within : (qs : List QueryTree) → All (IsQueryOver (MayStand T)) qs → Covers (flat_map in_query qs) → All (IsQueryWithin ns T) qs
      queries_within [] over covers = All-nil (IsQueryWithin ns T)
      queries_within (q ∷ qs) over covers =
          let whole : Covers (in_query q ++ flat_map in_query qs) = subst Covers (flat_map-cons in_query q qs) covers in
          All-cons (IsQueryWithin ns T) q qs
          (query_within q (All-head (IsQueryOver (MayStand T)) q qs over) (left (in_query q) (flat_map in_query qs) whole))
          (queries_within qs (All-tail (IsQueryOver (MayStand T)) q qs over) (right (in_query q) (flat_map in_query qs) whole))

  -- The network.

  -- the ports of lawful switches are numbers of ports
  port_numbers_each : (ss : List SwitchValue) → All IsLawfulSwitch ss → All IsPortNumber (flat_map (λ s. s.ports) ss)
  port_numbers_each [] lawful = All-nil IsPortNumber
  port_numbers_each (s ∷ ss) lawful =
      let own : IsLawfulSwitch s = All-head IsLawfulSwitch s ss lawful in
      subst (All IsPortNumber) (sym (flat_map-cons (λ t. t.ports) s ss))
      (All-append IsPortNumber s.ports (flat_map (λ t. t.ports) ss) own.3 (port_numbers_each ss (All-tail IsLawfulSwitch s ss lawful)))

  ports_counted : IsNamedTopology T → Covers (stated_for Port (port_numbers T)) → All (λ p. IsAmong p (ns Port)) (port_numbers T)
  ports_counted named covers =
      All-weaker (IsCounted ns Port) (λ p. IsAmong p (ns Port)) (λ p is. is refl) (port_numbers T)
      (counted_all Port (port_numbers T) covers (port_numbers_each T.switches named.lawful.switches))

  abbrev IsSwitchWithin : SwitchValue → Type 0
  IsSwitchWithin s = IsAmong s.datapath (ns Switch) × All (λ p. IsAmong p (ns Port)) s.ports

  switches_within : (ss : List SwitchValue) → All (λ d. IsAmong d (ns Switch)) (map (λ s. s.datapath) ss)
      → All (λ p. IsAmong p (ns Port)) (flat_map (λ s. s.ports) ss) → All IsSwitchWithin ss
  switches_within [] datapaths ports = All-nil IsSwitchWithin
  switches_within (s ∷ ss) datapaths ports =
      let AtSwitch : ℕ → Type 0 = λ d. IsAmong d (ns Switch) in
      let AtPort : ℕ → Type 0 = λ p. IsAmong p (ns Port) in
      let whole : All AtPort (s.ports ++ flat_map (λ t. t.ports) ss) = subst (All AtPort) (flat_map-cons (λ t. t.ports) s ss) ports in
      All-cons IsSwitchWithin s ss
      (All-head AtSwitch s.datapath (map (λ t. t.datapath) ss) datapaths, all_front AtPort s.ports (flat_map (λ t. t.ports) ss) whole)
      (switches_within ss (All-tail AtSwitch s.datapath (map (λ t. t.datapath) ss) datapaths) (all_back AtPort s.ports (flat_map (λ t. t.ports) ss) whole))

-- The numbers of a document, few enough.

-- those that are stated for a field, each once, and what is added to them
abbrev pub numbers_in : Topology → List Stated → Field → List ℕ
numbers_in T ss Switch = datapath_numbers T
numbers_in T ss Port = 0 ∷ ascending (numbers_for Port ss)
numbers_in T ss EthType = 0x0800 ∷ 0x86dd ∷ ascending (numbers_for EthType ss)
numbers_in T ss IpProto = 6 ∷ 17 ∷ ascending (numbers_for IpProto ss)
numbers_in T ss EthSrc = ascending (numbers_for EthSrc ss)
numbers_in T ss EthDst = ascending (numbers_for EthDst ss)
numbers_in T ss Ipv4Src = []
numbers_in T ss Ipv4Dst = []
numbers_in T ss TcpSrc = ascending (numbers_for TcpSrc ss)
numbers_in T ss TcpDst = ascending (numbers_for TcpDst ss)
numbers_in T ss UdpSrc = ascending (numbers_for UdpSrc ss)
numbers_in T ss UdpDst = ascending (numbers_for UdpDst ss)
numbers_in T ss Ipv6Src = []
numbers_in T ss Ipv6Dst = []

numbers_few : (T : Topology) (ss : List Stated) → IsNamedTopology T → AreFewStated ss → AreFew (numbers_in T ss)
numbers_few T ss named few = by
  where
    all : AllByRecursion (λ (l : Limit). count_for l.0 ss ≤ l.1) limits
    all = recursion_from_All (λ (l : Limit). count_for l.0 ss ≤ l.1) limits few

    switches : length (datapath_numbers T) ≡ length T.switches
    switches = length-map T.switches (λ s. s.datapath)

    by : AreFew (numbers_in T ss)
    by Switch whole = omega (arith, switches, named.lawful.few_switches)
    by Port whole = omega (arith, all.0)
    by EthType whole = omega (arith, all.1.0)
    by IpProto whole = omega (arith, all.1.1.0)
    by EthSrc whole = omega (arith, all.1.1.1.0)
    by EthDst whole = omega (arith, all.1.1.1.1.0)
    by Ipv4Src whole = omega arith
    by Ipv4Dst whole = omega arith
    by TcpSrc whole = omega (arith, all.1.1.1.1.1.0)
    by TcpDst whole = omega (arith, all.1.1.1.1.1.1.0)
    by UdpSrc whole = omega (arith, all.1.1.1.1.1.1.1.0)
    by UdpDst whole = omega (arith, all.1.1.1.1.1.1.1.1.0)
    by Ipv6Src whole = omega arith
    by Ipv6Dst whole = omega arith

-- a stated number is among them
known_among : (ss : List Stated) (f : Field) (n : ℕ) → States ss f n → has (ascending (numbers_for f ss)) n ≡ true
known_among ss f n found = has_ascending (numbers_for f ss) n ∙ found

-- the datapath number of a switch is among those of the network
switch_among : (ss : List SwitchValue) (n : ℕ) → Any (λ s. s.datapath ≡ n) ss → IsAmong n (map (λ s. s.datapath) ss)
switch_among ss n any = among (map (λ s. s.datapath) ss) n (by ss any)
  where
    by : (xs : List SwitchValue) → Any (λ s. s.datapath ≡ n) xs → has (map (λ s. s.datapath) xs) n ≡ true
    by [] (k, s, within, at, is) = absurd (omega arith)
    by (x ∷ xs) (zero, s, within, at, is) = subst (λ d. has (d ∷ map (λ t. t.datapath) xs) n ≡ true) (sym (ap (λ t. t.datapath) at ∙ is))
        (first n (map (λ t. t.datapath) xs))
    by (x ∷ xs) (suc k, s, within, at, is) = behind x.datapath (map (λ t. t.datapath) xs) n (by xs (k, s, omega arith, at, is))

pub numbers_cover : (T : Topology) (ss : List Stated) → Covers T (numbers_in T ss) ss
numbers_cover T ss Switch n found may whole = switch_among T.switches n may
numbers_cover T ss Port n found may whole =
    among (0 ∷ ascending (numbers_for Port ss)) n (behind 0 (ascending (numbers_for Port ss)) n (known_among ss Port n found))
numbers_cover T ss EthType n found may whole =
    among (0x0800 ∷ 0x86dd ∷ ascending (numbers_for EthType ss)) n
    (behind 0x0800 (0x86dd ∷ ascending (numbers_for EthType ss)) n (behind 0x86dd (ascending (numbers_for EthType ss)) n (known_among ss EthType n found)))
numbers_cover T ss IpProto n found may whole =
    among (6 ∷ 17 ∷ ascending (numbers_for IpProto ss)) n
    (behind 6 (17 ∷ ascending (numbers_for IpProto ss)) n (behind 17 (ascending (numbers_for IpProto ss)) n (known_among ss IpProto n found)))
numbers_cover T ss EthSrc n found may whole = among (ascending (numbers_for EthSrc ss)) n (known_among ss EthSrc n found)
numbers_cover T ss EthDst n found may whole = among (ascending (numbers_for EthDst ss)) n (known_among ss EthDst n found)
numbers_cover T ss Ipv4Src n found may whole = absurd (true≢false whole)
numbers_cover T ss Ipv4Dst n found may whole = absurd (true≢false whole)
numbers_cover T ss TcpSrc n found may whole = among (ascending (numbers_for TcpSrc ss)) n (known_among ss TcpSrc n found)
numbers_cover T ss TcpDst n found may whole = among (ascending (numbers_for TcpDst ss)) n (known_among ss TcpDst n found)
numbers_cover T ss UdpSrc n found may whole = among (ascending (numbers_for UdpSrc ss)) n (known_among ss UdpSrc n found)
numbers_cover T ss UdpDst n found may whole = among (ascending (numbers_for UdpDst ss)) n (known_among ss UdpDst n found)
numbers_cover T ss Ipv6Src n found may whole = absurd (true≢false whole)
numbers_cover T ss Ipv6Dst n found may whole = absurd (true≢false whole)

-- the prerequisites' numbers are among them
module _ (T : Topology) (ss : List Stated) where
  pub ipv4_in : IsAmong 0x0800 (numbers_in T ss EthType)
  ipv4_in = among (numbers_in T ss EthType) 0x0800 (first 0x0800 (0x86dd ∷ ascending (numbers_for EthType ss)))

  pub ipv6_in : IsAmong 0x86dd (numbers_in T ss EthType)
  ipv6_in = among (numbers_in T ss EthType) 0x86dd
      (behind 0x0800 (0x86dd ∷ ascending (numbers_for EthType ss)) 0x86dd (first 0x86dd (ascending (numbers_for EthType ss))))

  pub tcp_in : IsAmong 6 (numbers_in T ss IpProto)
  tcp_in = among (numbers_in T ss IpProto) 6 (first 6 (17 ∷ ascending (numbers_for IpProto ss)))

  pub udp_in : IsAmong 17 (numbers_in T ss IpProto)
  udp_in = among (numbers_in T ss IpProto) 17 (behind 6 (17 ∷ ascending (numbers_for IpProto ss)) 17 (first 17 (ascending (numbers_for IpProto ss))))

  pub dropped_in : IsAmong 0 (numbers_in T ss Port)
  dropped_in = among (numbers_in T ss Port) 0 (first 0 (ascending (numbers_for Port ss)))

  pub datapaths_in : All (λ d. IsAmong d (numbers_in T ss Switch)) (datapath_numbers T)
  datapaths_in =
      All-weaker (λ n. has (datapath_numbers T) n ≡ true) (λ d. IsAmong d (numbers_in T ss Switch))
      (λ d found. among (datapath_numbers T) d found) (datapath_numbers T) (all_had (datapath_numbers T))

-- what is stated is among some numbers, so all parts of a document are
module _ (T : Topology) (ps : List PolicyTree) (qs : List QueryTree) (over : AreOver T ps qs) (ns : Field → List ℕ) (needs : (f : Field) → NeedsAmong ns f)
    (datapaths : All (λ d. IsAmong d (ns Switch)) (datapath_numbers T)) (covers : Covers T ns (stated T ps qs)) where
  abbrev later : List Stated
  later = flat_map in_policy ps ++ flat_map in_query qs

  after : Covers T ns later
  after = right T ns (stated_for Port (port_numbers T)) later covers

  ports : All (λ p. IsAmong p (ns Port)) (port_numbers T)
  ports = ports_counted T ns over.topology (left T ns (stated_for Port (port_numbers T)) later covers)

  pub topology_in : IsTopologyWithin ns T
  topology_in = switches_within T ns T.switches datapaths ports

  pub policies_in : All (IsPolicyWithin ns) ps
  policies_in = parts_within T ns needs ps over.policies (left T ns (flat_map in_policy ps) (flat_map in_query qs) after)

  pub queries_in : All (IsQueryWithin ns T) qs
  queries_in = queries_within T ns needs datapaths ports qs over.queries (right T ns (flat_map in_policy ps) (flat_map in_query qs) after)

-- so there is room for all of them
pub have_room : (T : Topology) (ps : List PolicyTree) (qs : List QueryTree) → AreOver T ps qs → AreFewStated (stated T ps qs) → HaveRoom T ps qs
have_room T ps qs over few = record { numbers = ns; few = numbers_few T ss over.topology few; within = whole }
  where
    ss : List Stated
    ss = stated T ps qs

    ns : Field → List ℕ
    ns = numbers_in T ss

    needs : (f : Field) → NeedsAmong ns f
    needs = needs_among ns (ipv4_in T ss) (ipv6_in T ss) (tcp_in T ss) (udp_in T ss)

    whole : AreWithin T ps qs ns
    whole = record {
      topology = topology_in T ps qs over ns needs (datapaths_in T ss) (numbers_cover T ss);
      policies = policies_in T ps qs over ns needs (datapaths_in T ss) (numbers_cover T ss);
      queries = queries_in T ps qs over ns needs (datapaths_in T ss) (numbers_cover T ss);
      dropped = dropped_in T ss;
      ipv4 = ipv4_in T ss;
      ipv6 = ipv6_in T ss;
      tcp = tcp_in T ss;
      udp = udp_in T ss;
    }
