-- Labels of lawful queries are lawful: they are short, and their values have 64 bits.
use Rattle.std.proofs.Common.{◌≡◌, ◌<◌, ◌≤◌, ◌+◌, ◌*◌, ◌^◌, ℕ, suc, Bool, true, false, List, [], ◌∷◌, ◌++◌, length, length-append, map}
use Rattle.std.proofs.Common.{get_or, refl, ap, subst, arith, lt_of_lt_of_le, pow_mono}
use Rattle.std.specs.Prelude.{All, Some, slice_get, ◌==◌, ◌||◌}
use Rattle.std.specs.List.{AllByRecursion, IsDistinct, flat_map, list_any}
use Rattle.std.proofs.lemmas.Bool.{eqb-true}
use Rattle.std.proofs.lemmas.List.{length-map}
use Rattle.std.proofs.lemmas.List.Elements.{All-nil, All-cons, All-append, All-from_recursion, All-map, All-weaker, recursion_from_All}
use Rattle.std.proofs.lemmas.Map.Steps.{length-le_from_distinct_below}
use Rattle.std.proofs.lemmas.Option.{slice_get-get_or}
use Rattle.pq_fields.specs.declared.field.Field.{Field}
use Rattle.pq_fields.specs.Packet.{is_wide, rank, width_of}
use Rattle.pq_fields.specs.Pred.{FitsField}
use Rattle.pq_model.specs.Install.{IsLawfulPair}
use Rattle.pq_model.specs.Topology.{Topology}
use Rattle.pq_store.proofs.PrefixNumbers.{narrow_width, rank_below}
use Rattle.pq_topo.specs.Named.{IsNamedTopology}
use Rattle.pq_query.specs.Atoms.{atoms, query_atoms, top_atoms}
use Rattle.pq_query.specs.Groups.{Group}
use Rattle.pq_query.specs.Instances.{instances_of}
use Rattle.pq_query.specs.Labels.{ascending, group_values, groups_of, labels, one_from_each, top_groups}
use Rattle.pq_query.specs.Lawful.{AreLawfulGroups, AreLawfulQueries, IsGroupOver, IsLawfulQuery, IsLawfulTop}
use Rattle.pq_query.specs.Query.{QueryTop, Enters, Leaves, Passes, Ends, InTurn, Either, Both, Other, Repeated, Queries, none, put, QueryTree, leaf, queries}
use Rattle.pq_query.specs.Resolved.{is_field}
use Rattle.pq_query.proofs.Listed.{instances_below}
use Rattle.pq_classes.proofs.Values.{Along, instances_along, labels_fit}

-- Each label has a value for each list.

-- the label has this many values
abbrev IsLong : ℕ → List ℕ → Type 0
IsLong n label = length label ≡ n

led_long : (k : ℕ) (R : List (List ℕ)) → All (IsLong k) R → (ns : List ℕ) → All (IsLong (suc k)) (flat_map (λ n. map (λ label. n ∷ label) R) ns)
led_long k R rest [] = All-nil (IsLong (suc k))
led_long k R rest (n ∷ ns) =
    All-append (IsLong (suc k)) (map (λ label. n ∷ label) R) (flat_map (λ n. map (λ label. n ∷ label) R) ns)
    (All-map (IsLong (suc k)) (λ label. n ∷ label) R (All-weaker (IsLong k) (λ label. IsLong (suc k) (n ∷ label)) (λ label long. ap suc long) R rest))
    (led_long k R rest ns)

each_long : (lists : List (List ℕ)) → All (IsLong (length lists)) (one_from_each lists)
each_long [] = All-cons (IsLong 0) [] [] refl (All-nil (IsLong 0))
each_long (ns ∷ lists) = led_long (length lists) (one_from_each lists) (each_long lists) ns

-- each label of a query has a value for each of its groups
pub labels_long : (T : Topology) (q : QueryTree) → All (λ label. length label ≡ length (groups_of (queries (q ∷ [])))) (labels T q)
labels_long T q =
    let gs = groups_of (queries (q ∷ [])) in
    subst (λ n. All (IsLong n) (labels T q)) (length-map gs (λ (g : Group). ascending (group_values T g)))
    (each_long (map (λ g. ascending (group_values T g)) gs))

-- Brackets have at most fourteen groups.

-- the places of the fields of groups
abbrev places : List Group → List ℕ
places gs = map (λ g. rank g.field) gs

places_apart : (f : Field) (gs : List Group) → AllByRecursion (λ h. is_field f h ≡ false) (map (λ g. g.field) gs)
    → AllByRecursion (λ n. (rank f == n) ≡ false) (places gs)
places_apart f [] apart = tt
places_apart f (g ∷ gs) apart = (apart.0, places_apart f gs apart.1)

places_differ : (gs : List Group) → IsDistinct is_field (map (λ g. g.field) gs) → IsDistinct (λ m n. m == n) (places gs)
unfolding IsDistinct
places_differ [] differ = tt
places_differ (g ∷ gs) differ = (places_apart g.field gs differ.0, places_differ gs differ.1)

places_below : (gs : List Group) (n : ℕ) → list_any (λ m. n == m) (places gs) ≡ true → n < 14
places_below [] n has = absurd cc
places_below (g ∷ gs) n has = by (n == rank g.field) refl has (places_below gs n)
  where
    by : (b : Bool) → (n == rank g.field) ≡ b → (b || list_any (λ m. n == m) (places gs)) ≡ true → (list_any (λ m. n == m) (places gs) ≡ true → n < 14) → n < 14
    by true same has later = let here = rank_below g.field in let is : n ≡ rank g.field = eqb-true n (rank g.field) same in omega (arith, here, is)
    by false other has later = later has

few_groups : (gs : List Group) → AreLawfulGroups gs → length gs ≤ 14
few_groups gs lawful =
    let long : length (places gs) ≡ length gs = length-map gs (λ (g : Group). rank g.field) in
    let few : length (places gs) ≤ 14 = length-le_from_distinct_below (places gs) 14 (places_differ gs lawful.differ) (places_below gs) in
    omega (arith, long, few)

top_few : (top : QueryTop) (below : Queries) → IsLawfulTop top below → length (top_groups top) ≤ 28 * top_atoms top
top_few (Enters p gs) below lawful = let few = few_groups gs lawful.1 in omega (arith, few)
top_few (Leaves p gs) below lawful = let few = few_groups gs lawful.1 in omega (arith, few)
top_few (Passes p gs q hs) below lawful =
    let first = few_groups gs lawful.1 in
    let second = few_groups hs lawful.3 in
    let whole = length-append gs hs in
    omega (arith, first, second, whole)
top_few (Ends p) below lawful = omega arith
top_few InTurn below lawful = omega arith
top_few Either below lawful = omega arith
top_few Both below lawful = omega arith
top_few Other below lawful = omega arith
top_few Repeated below lawful = omega arith

-- lawful queries have at most 28 groups an atom
pub groups_few : (qs : Queries) → AreLawfulQueries qs → length (groups_of qs) ≤ 28 * atoms qs
groups_few none lawful = omega arith
groups_few (put top below rest) lawful =
    let own = top_few top below lawful.0 in
    let inner = groups_few below lawful.1 in
    let outer = groups_few rest lawful.2 in
    let whole = length-append (top_groups top) (groups_of below ++ groups_of rest) in
    let later = length-append (groups_of below) (groups_of rest) in
    omega (arith, own, inner, outer, whole, later)

-- No group is of an IPv6 address.

abbrev IsNarrow : Group → Type 0
IsNarrow g = is_wide g.field ≡ false

groups_narrow : (gs : List Group) → AreLawfulGroups gs → All IsNarrow gs
groups_narrow gs lawful = All-weaker (IsGroupOver FitsField) IsNarrow (λ g is. is.0) gs lawful.each

top_narrow : (top : QueryTop) (below : Queries) → IsLawfulTop top below → All IsNarrow (top_groups top)
top_narrow (Enters p gs) below lawful = groups_narrow gs lawful.1
top_narrow (Leaves p gs) below lawful = groups_narrow gs lawful.1
top_narrow (Passes p gs q hs) below lawful = All-append IsNarrow gs hs (groups_narrow gs lawful.1) (groups_narrow hs lawful.3)
top_narrow (Ends p) below lawful = All-nil IsNarrow
top_narrow InTurn below lawful = All-nil IsNarrow
top_narrow Either below lawful = All-nil IsNarrow
top_narrow Both below lawful = All-nil IsNarrow
top_narrow Other below lawful = All-nil IsNarrow
top_narrow Repeated below lawful = All-nil IsNarrow

all_narrow : (qs : Queries) → AreLawfulQueries qs → All IsNarrow (groups_of qs)
all_narrow none lawful = All-nil IsNarrow
all_narrow (put top below rest) lawful =
    All-append IsNarrow (top_groups top) (groups_of below ++ groups_of rest) (top_narrow top below lawful.0)
    (All-append IsNarrow (groups_of below) (groups_of rest) (all_narrow below lawful.1) (all_narrow rest lawful.2))

-- a value of a narrow field has 64 bits
value_fits : (f : Field) (n : ℕ) → is_wide f ≡ false → FitsField f n → n < 2 ^ 64
value_fits f n narrow fits = let wide : 2 ^ width_of f ≤ 2 ^ 64 = pow_mono (narrow_width f narrow) in lt_of_lt_of_le fits wide

values_fit : (gs : List Group) (label : List ℕ) → AllByRecursion IsNarrow gs → length label ≡ length gs → Along FitsField gs label
    → AllByRecursion (λ n. n < 2 ^ 64) label
values_fit gs [] narrow long along = tt
values_fit [] (n ∷ label) narrow long along = absurd (omega (arith, long))
values_fit (g ∷ gs) (n ∷ label) narrow long along = (value_fits g.field n narrow.0 along.0, values_fit gs label narrow.1 (omega (arith, long)) along.1)

-- Labels and instances.

-- the label is short, and its values have 64 bits
abbrev IsLawfulLabel : List ℕ → Type 0
IsLawfulLabel label = (length label < 2 ^ 32) × All (λ n. n < 2 ^ 64) label

-- the labels of a lawful query that has few atoms are lawful
pub lawful_labels : (T : Topology) (q : QueryTree) → IsNamedTopology T → IsLawfulQuery q → query_atoms q < 2 ^ 19
    → All (λ label. (length label < 2 ^ 32) × All (λ n. n < 2 ^ 64) label) (labels T q)
lawful_labels T q named lawful few k d within = (
  omega (arith, long, most, few),
  All-from_recursion (λ n. n < 2 ^ 64) label
      (values_fit gs label (recursion_from_All IsNarrow gs (all_narrow (queries (q ∷ [])) lawful)) long
      (labels_fit T named q lawful k d within)),
)
  where
    gs : List Group
    gs = groups_of (queries (q ∷ []))

    label : List ℕ
    label = get_or (labels T q) k d

    long : length label ≡ length gs
    long = labels_long T q k d within

    most : length gs ≤ 28 * query_atoms q
    most = let all = groups_few (queries (q ∷ [])) lawful in omega (arith, all)

-- the instances of lawful queries that have few atoms are lawful
pub lawful_instances : (T : Topology) (qs : List QueryTree) → IsNamedTopology T → All IsLawfulQuery qs
    → All (λ q. query_atoms q < 2 ^ 19) qs → All (IsLawfulPair (length qs)) (instances_of T qs)
lawful_instances T qs named lawful few k d within =
    let i = get_or (instances_of T qs) k d in
    let q = get_or qs i.query (leaf InTurn) in
    let least : i.query < 0 + length qs = instances_below T 0 qs k d within in
    let below : i.query < length qs = omega (arith, least) in
    let there : slice_get qs i.query ≡ Some q = slice_get-get_or qs i.query (leaf InTurn) below in
    let each : All (λ q. All IsLawfulLabel (labels T q)) qs = λ j q is. lawful_labels T (get_or qs j q) named (lawful j q is) (few j q is) in
    let told : IsLawfulLabel i.label = instances_along (λ q label. IsLawfulLabel label) T qs each k d within q there in
    (below, told.0, told.1)
