-- The values of labels.
use Rattle.std.proofs.Common.{◌≡◌, ◌<◌, ◌≤◌, ◌+◌, ◌^◌, ℕ, suc, zero, true, List, [], ◌∷◌, ◌++◌, map, subst, arith}
use Rattle.std.specs.Prelude.{All, Option, Some, None, slice_get}
use Rattle.std.specs.List.{AllByRecursion, flat_map}
use Rattle.std.specs.Option.{unwrap_or}
use Rattle.std.specs.Ordering.{nat_cmp}
use Rattle.std.proofs.lemmas.List.Elements.{All-nil, All-cons, All-head, All-tail, All-append, All-map, All-weaker, recursion_from_All}
use Rattle.std.proofs.lemmas.Map.Views.{All-insert_key}
use Rattle.pq_fields.specs.declared.field.Field.{Field}
use Rattle.pq_fields.specs.declared.field.Field.TheVariants.{Switch, Port, EthType, IpProto, EthSrc, EthDst, Ipv4Src, Ipv4Dst, TcpSrc}
use Rattle.pq_fields.specs.declared.field.Field.TheVariants.{TcpDst, UdpSrc, UdpDst, Ipv6Src, Ipv6Dst}
use Rattle.pq_fields.specs.Pred.{FitsField}
use Rattle.pq_model.specs.Buckets.{Instance}
use Rattle.pq_model.specs.Install.{IsLawfulSwitch}
use Rattle.pq_model.specs.MatchFields.{IsPortNumber}
use Rattle.pq_model.specs.Topology.{Switch as SwitchValue, Topology}
use Rattle.pq_topo.specs.Named.{IsNamedTopology}
use Rattle.pq_query.specs.Groups.{Group}
use Rattle.pq_query.specs.Instances.{instances_from, instances_of, under_labels}
use Rattle.pq_query.specs.Labels.{ascending, group_values, groups_of, labels, listed_values, one_from_each, top_groups}
use Rattle.pq_query.specs.Lawful.{AreGroupsOver, AreLawfulQueries, IsGroupOver, MayTake, IsLawfulQuery, IsLawfulTop}
use Rattle.pq_query.specs.Query.{QueryTop, Enters, Leaves, Passes, Ends, InTurn, Either, Both, Other, Repeated, Queries, none, put, QueryTree, queries}
use Rattle.pq_query.specs.Resolved.{is_listed}

-- each value of the label may stand for its grouped field, as W says
abbrev pub Along : (Field → ℕ → Type 0) → List Group → List ℕ → Type 0
Along W [] label = Unit {0}
Along W (g ∷ gs) [] = Unit {0}
Along W (g ∷ gs) (n ∷ label) = W g.field n × Along W gs label

-- what holds of all values of the groups holds of the values of labels
ascending_all : (P : ℕ → Type 0) (ns : List ℕ) → All P ns → All P (ascending ns)
ascending_all P [] all = all
ascending_all P (n ∷ ns) all = All-insert_key nat_cmp n P (ascending ns) (ascending_all P ns (All-tail P n ns all)) (All-head P n ns all)

led_along : (W : Field → ℕ → Type 0) (g : Group) (gs : List Group) (R : List (List ℕ)) → All (Along W gs) R → (ns : List ℕ)
    → All (W g.field) ns → All (Along W (g ∷ gs)) (flat_map (λ n. map (λ label. n ∷ label) R) ns)
led_along W g gs R rest [] all = All-nil (Along W (g ∷ gs))
led_along W g gs R rest (n ∷ ns) all =
    All-append (Along W (g ∷ gs)) (map (λ label. n ∷ label) R) (flat_map (λ n. map (λ label. n ∷ label) R) ns)
    (All-map (Along W (g ∷ gs)) (λ label. n ∷ label) R
    (All-weaker (Along W gs) (λ label. Along W (g ∷ gs) (n ∷ label)) (λ label along. (All-head (W g.field) n ns all, along)) R rest))
    (led_along W g gs R rest ns (All-tail (W g.field) n ns all))

labels_along : (W : Field → ℕ → Type 0) (T : Topology) (gs : List Group) → AllByRecursion (λ g. All (W g.field) (group_values T g)) gs
    → All (Along W gs) (one_from_each (map (λ g. ascending (group_values T g)) gs))
labels_along W T [] all = All-cons (Along W []) [] [] tt (All-nil (Along W []))
labels_along W T (g ∷ gs) all =
    led_along W g gs (one_from_each (map (λ g. ascending (group_values T g)) gs)) (labels_along W T gs all.1) (ascending (group_values T g))
    (ascending_all (W g.field) (group_values T g) all.0)

pub query_along : (W : Field → ℕ → Type 0) (T : Topology) (q : QueryTree)
    → All (λ g. All (W g.field) (group_values T g)) (groups_of (queries (q ∷ [])))
    → All (Along W (groups_of (queries (q ∷ [])))) (labels T q)
query_along W T q all =
    labels_along W T (groups_of (queries (q ∷ [])))
    (recursion_from_All (λ g. All (W g.field) (group_values T g)) (groups_of (queries (q ∷ []))) all)

-- what holds of a query and each of its labels holds of the instances
abbrev IsNumberedFrom : (QueryTree → List ℕ → Type 0) → ℕ → List QueryTree → Instance → Type 0
IsNumberedFrom P place qs i = (place ≤ i.query) × ((j : ℕ) (q : QueryTree) → i.query ≡ place + j → slice_get qs j ≡ Some q → P q i.label)

instances_all : (P : QueryTree → List ℕ → Type 0) (T : Topology) (place : ℕ) (qs : List QueryTree) → All (λ q. All (P q) (labels T q)) qs
    → All (IsNumberedFrom P place qs) (instances_from T place qs)
instances_all P T place [] all = All-nil (IsNumberedFrom P place [])
instances_all P T place (q ∷ qs) all =
    All-append (IsNumberedFrom P place (q ∷ qs)) (under_labels place (labels T q)) (instances_from T (place + 1) qs)
    (All-map (IsNumberedFrom P place (q ∷ qs)) (λ label. record { query = place; label = label }) (labels T q)
    (All-weaker (P q) (λ label. IsNumberedFrom P place (q ∷ qs) (record { query = place; label = label })) here (labels T q)
    (All-head (λ q. All (P q) (labels T q)) q qs all)))
    (All-weaker (IsNumberedFrom P (place + 1) qs) (IsNumberedFrom P place (q ∷ qs)) later (instances_from T (place + 1) qs)
    (instances_all P T (place + 1) qs (All-tail (λ q. All (P q) (labels T q)) q qs all)))
  where
    here : (label : List ℕ) → P q label → IsNumberedFrom P place (q ∷ qs) (record { query = place; label = label })
    here label holds = (omega arith, λ j r is at. by j r is at)
      where
        by : (j : ℕ) (r : QueryTree) → place ≡ place + j → slice_get (q ∷ qs) j ≡ Some r → P r label
        by zero r is at = subst (λ o. P (unwrap_or o q) label) at holds
        by (suc j) r is at = absurd (omega (arith, is))

    later : (i : Instance) → IsNumberedFrom P (place + 1) qs i → IsNumberedFrom P place (q ∷ qs) i
    later i (least, told) = (omega (arith, least), λ j r is at. by j r is at)
      where
        by : (j : ℕ) (r : QueryTree) → i.query ≡ place + j → slice_get (q ∷ qs) j ≡ Some r → P r i.label
        by zero r is at = absurd (omega (arith, is, least))
        by (suc j) r is at = told j r (omega (arith, is)) at

pub instances_along : (P : QueryTree → List ℕ → Type 0) (T : Topology) (qs : List QueryTree) → All (λ q. All (P q) (labels T q)) qs
    → All (λ i. (q : QueryTree) → slice_get qs i.query ≡ Some q → P q i.label) (instances_of T qs)
instances_along P T qs all =
    All-weaker (IsNumberedFrom P 0 qs) (λ i. (q : QueryTree) → slice_get qs i.query ≡ Some q
    → P q i.label) (λ i told q at. told.1 i.query q (omega arith) at) (instances_of T qs) (instances_all P T 0 qs all)

-- Values of lawful groups fit.

module _ (T : Topology) (named : IsNamedTopology T) where
  datapaths_fit : (ss : List SwitchValue) → AllByRecursion IsLawfulSwitch ss → All (λ n. n < 2 ^ 64) (map (λ s. s.datapath) ss)
  datapaths_fit [] all = All-nil (λ n. n < 2 ^ 64)
  datapaths_fit (s ∷ ss) all = All-cons (λ n. n < 2 ^ 64) s.datapath (map (λ s. s.datapath) ss) all.0.0 (datapaths_fit ss all.1)

  ports_fit : (ss : List SwitchValue) → AllByRecursion IsLawfulSwitch ss → All (λ n. n < 2 ^ 32) (flat_map (λ s. s.ports) ss)
  ports_fit [] all = All-nil (λ n. n < 2 ^ 32)
  ports_fit (s ∷ ss) all = All-append (λ n. n < 2 ^ 32) s.ports (flat_map (λ s. s.ports) ss)
      (All-weaker IsPortNumber (λ n. n < 2 ^ 32) (λ n is. omega (arith, is.1)) s.ports all.0.3) (ports_fit ss all.1)

  lawful_switches : AllByRecursion IsLawfulSwitch T.switches
  lawful_switches = recursion_from_All IsLawfulSwitch T.switches named.lawful.switches

  listed_fit : (f : Field) → is_listed f ≡ true → All (FitsField f) (listed_values T f)
  listed_fit Switch is = datapaths_fit T.switches lawful_switches
  listed_fit Port is = ports_fit T.switches lawful_switches
  listed_fit EthType is = absurd cc
  listed_fit IpProto is = absurd cc
  listed_fit EthSrc is = absurd cc
  listed_fit EthDst is = absurd cc
  listed_fit Ipv4Src is = absurd cc
  listed_fit Ipv4Dst is = absurd cc
  listed_fit TcpSrc is = absurd cc
  listed_fit TcpDst is = absurd cc
  listed_fit UdpSrc is = absurd cc
  listed_fit UdpDst is = absurd cc
  listed_fit Ipv6Src is = absurd cc
  listed_fit Ipv6Dst is = absurd cc

  abbrev DoesFit : Group → Type 0
  DoesFit g = All (FitsField g.field) (group_values T g)

  values_fit : (f : Field) (values : Option (List ℕ)) → MayTake FitsField f values → All (FitsField f) (group_values T (record { field = f; values = values }))
  values_fit f (Some ns) lawful = lawful.fit
  values_fit f None lawful = listed_fit f lawful

  group_fits : (g : Group) → IsGroupOver FitsField g → DoesFit g
  group_fits g lawful = values_fit g.field g.values lawful.1

  groups_fit : (gs : List Group) → AreGroupsOver FitsField gs → All DoesFit gs
  groups_fit gs lawful = All-weaker (IsGroupOver FitsField) DoesFit group_fits gs lawful.each

  top_fits : (top : QueryTop) (below : Queries) → IsLawfulTop top below → All DoesFit (top_groups top)
  top_fits (Enters p gs) below lawful = groups_fit gs lawful.1
  top_fits (Leaves p gs) below lawful = groups_fit gs lawful.1
  top_fits (Passes p gs q hs) below lawful = All-append DoesFit gs hs (groups_fit gs lawful.1) (groups_fit hs lawful.3)
  top_fits (Ends p) below lawful = All-nil DoesFit
  top_fits InTurn below lawful = All-nil DoesFit
  top_fits Either below lawful = All-nil DoesFit
  top_fits Both below lawful = All-nil DoesFit
  top_fits Other below lawful = All-nil DoesFit
  top_fits Repeated below lawful = All-nil DoesFit

  all_fit : (qs : Queries) → AreLawfulQueries qs → All DoesFit (groups_of qs)
  all_fit none lawful = All-nil DoesFit
  all_fit (put top below rest) lawful =
      All-append DoesFit (top_groups top) (groups_of below ++ groups_of rest) (top_fits top below lawful.0)
      (All-append DoesFit (groups_of below) (groups_of rest) (all_fit below lawful.1) (all_fit rest lawful.2))

  -- the values of each label of a lawful query fit
  pub labels_fit : (q : QueryTree) → IsLawfulQuery q → All (Along FitsField (groups_of (queries (q ∷ [])))) (labels T q)
  labels_fit q lawful = query_along FitsField T q (all_fit (queries (q ∷ [])) lawful)
