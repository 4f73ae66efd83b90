-- Instances of queries are listed in ascending order.
use Rattle.std.proofs.Common.{◌≡◌, ◌+◌, ◌<◌, ◌≤◌, ◌==◌, ◌||◌, ◌&&◌, ℕ, true, false, Ordering, Less, Equal, Greater, nat_cmp, nat_lt, List}
use Rattle.std.proofs.Common.{[], ◌∷◌, ◌++◌, map, arith}
use Rattle.std.specs.Cmp.{nat_cmp_total, ranks}
use Rattle.std.specs.List.{AllByRecursion, flat_map}
use Rattle.std.specs.List.Sorted.{IsStrictlySortedBy}
use Rattle.std.specs.Ordering.{MatchOrdering}
use Rattle.std.proofs.lemmas.Bool.Decides.{nat_tests}
use Rattle.pq_lists.proofs.Holding.{all_append, all_weaker, all_map}
use Rattle.pq_fields.specs.Packet.{is_before}
use Rattle.pq_model.specs.Buckets.{Instance, instance_numbers}
use Rattle.pq_model.specs.Install.{AscendsBy}
use Rattle.pq_model.specs.Topology.{Topology}
use Rattle.pq_model.proofs.NumberLists.{by_first}
use Rattle.pq_query.specs.Groups.{Group}
use Rattle.pq_query.specs.Instances.{instances_from, instances_of, under_labels}
use Rattle.pq_query.specs.Labels.{ascending, group_values, groups_of, labels, one_from_each}
use Rattle.pq_query.specs.Query.{QueryTree, queries}
use Rattle.pq_deriv.proofs.Ascending.{ascends_inserted}

-- Lists in an order.

all_of : {A : Type 0} (P : A → Type 0) → ((x : A) → P x) → (xs : List A) → AllByRecursion P xs
all_of P each [] = tt
all_of P each (x ∷ xs) = (each x, all_of P each xs)

module _ {A : Type 0} (R : A → A → Type 0) where
  -- each is before all after it
  abbrev Rise : List A → Type 0
  Rise [] = Unit {0}
  Rise (x ∷ xs) = AllByRecursion (R x) xs × Rise xs

  rise_append : (xs ys : List A) → Rise xs → Rise ys → AllByRecursion (λ x. AllByRecursion (R x) ys) xs → Rise (xs ++ ys)
  rise_append [] ys first later ahead = later
  rise_append (x ∷ xs) ys first later ahead = (all_append (R x) xs ys first.0 ahead.0, rise_append xs ys first.1 later ahead.1)

-- Lists of numbers.

-- or what follows it
same_first : (m : ℕ) (xs ys : List ℕ) → is_before xs ys ≡ true → is_before (m ∷ xs) (m ∷ ys) ≡ true
same_first m xs ys later =
    let below : nat_lt m m ≡ false = grind (arith, nat_tests) in
    let same : (m == m) ≡ true = grind (arith, nat_tests) in
    λ i. below i || (same i && later i)

-- Labels.

-- a label as it is compared
abbrev label_key : List ℕ → List ℕ
label_key label = map (λ v. v + 1) label ++ 0 ∷ []

abbrev LabelBefore : List ℕ → List ℕ → Type 0
LabelBefore k l = is_before (label_key k) (label_key l) ≡ true

-- numbers are in ascending order
sorted : (ns : List ℕ) → IsStrictlySortedBy nat_cmp (ascending ns)
unfolding IsStrictlySortedBy
sorted [] = tt
sorted (n ∷ ns) = ascends_inserted nat_cmp nat_cmp_total (ascending ns) n (sorted ns)

-- so each is before all after it
numbers_rise : (ns : List ℕ) → IsStrictlySortedBy nat_cmp ns → Rise (λ m n. m < n) ns
unfolding IsStrictlySortedBy
numbers_rise [] up = tt
numbers_rise (n ∷ ns) up = (all_weaker (λ m. nat_cmp n m ≡ Less) (λ m. n < m) (λ m less. by (nat_cmp n m) (ranks n m) less) ns up.0, numbers_rise ns up.1)
  where
    by : {m : ℕ} (o : Ordering) → MatchOrdering o (n < m) (n ≡ m) (m < n) → o ≡ Less → n < m
    by Less below is = below
    by Equal same is = absurd cc
    by Greater above is = absurd cc

module _ (R : List (List ℕ)) where
  -- the labels, each after each of the numbers
  abbrev led : List ℕ → List (List ℕ)
  led ns = flat_map (λ n. map (λ label. n ∷ label) R) ns

  ahead : (n : ℕ) (k ms : List ℕ) → AllByRecursion (λ m. n < m) ms → AllByRecursion (LabelBefore (n ∷ k)) (led ms)
  ahead n k [] above = tt
  ahead n k (m ∷ ms) above =
      let less : n < m = above.0 in
      all_append (LabelBefore (n ∷ k)) (map (λ label. m ∷ label) R) (led ms)
      (all_map (λ label. m ∷ label) (LabelBefore (n ∷ k)) R
      (all_of (λ l. LabelBefore (n ∷ k) (m ∷ l)) (λ l. by_first (n + 1) (m + 1) (label_key k) (label_key l) (omega (arith, less))) R))
      (ahead n k ms above.1)

led_alone : (n : ℕ) (R : List (List ℕ)) → Rise LabelBefore R → Rise LabelBefore (map (λ label. n ∷ label) R)
led_alone n [] up = tt
led_alone n (k ∷ R) up = (
  all_map (λ label. n ∷ label) (LabelBefore (n ∷ k)) R
      (all_weaker (LabelBefore k) (λ l. LabelBefore (n ∷ k) (n ∷ l)) (λ l before. same_first (n + 1) (label_key k) (label_key l) before) R
      up.0),
  led_alone n R up.1,
)

led_rise : (R : List (List ℕ)) → Rise LabelBefore R → (ns : List ℕ) → Rise (λ m n. m < n) ns → Rise LabelBefore (led R ns)
led_rise R up [] above = tt
led_rise R up (n ∷ ns) above =
    rise_append LabelBefore (map (λ label. n ∷ label) R) (led R ns) (led_alone n R up) (led_rise R up ns above.1)
    (all_map (λ label. n ∷ label) (λ k. AllByRecursion (LabelBefore k) (led R ns)) R
    (all_of (λ k. AllByRecursion (LabelBefore (n ∷ k)) (led R ns)) (λ k. ahead R n k ns above.0) R))

-- lists with one value from each of ascending lists ascend
each_rise : (T : Topology) (gs : List Group) → Rise LabelBefore (one_from_each (map (λ g. ascending (group_values T g)) gs))
each_rise T [] = (tt, tt)
each_rise T (g ∷ gs) =
    led_rise (one_from_each (map (λ g. ascending (group_values T g)) gs)) (each_rise T gs) (ascending (group_values T g))
    (numbers_rise (ascending (group_values T g)) (sorted (group_values T g)))

-- Instances.

abbrev InstanceBefore : Instance → Instance → Type 0
InstanceBefore i j = is_before (instance_numbers i) (instance_numbers j) ≡ true

under_rise : (place : ℕ) (ls : List (List ℕ)) → Rise LabelBefore ls → Rise InstanceBefore (under_labels place ls)
under_rise place [] up = tt
under_rise place (l ∷ ls) up = (
  all_map (λ label. record { query = place; label = label }) (InstanceBefore (record { query = place; label = l })) ls
      (all_weaker (LabelBefore l) (λ k. InstanceBefore (record { query = place; label = l }) (record { query = place; label = k }))
      (λ k before. same_first place (label_key l) (label_key k) before) ls up.0),
  under_rise place ls up.1,
)

-- the queries of instances are after the first place
behind : (T : Topology) (place first : ℕ) (qs : List QueryTree) → first ≤ place → AllByRecursion (λ i. first ≤ i.query) (instances_from T place qs)
behind T place first [] below = tt
behind T place first (q ∷ qs) below =
    all_append (λ i. first ≤ i.query) (under_labels place (labels T q)) (instances_from T (place + 1) qs)
    (all_map (λ label. record { query = place; label = label }) (λ (i : Instance). first ≤ i.query) (labels T q)
    (all_of (λ label. first ≤ place) (λ label. below) (labels T q)))
    (behind T (place + 1) first qs (omega (arith, below)))

instances_rise : (T : Topology) (place : ℕ) (qs : List QueryTree) → Rise InstanceBefore (instances_from T place qs)
instances_rise T place [] = tt
instances_rise T place (q ∷ qs) =
    let later = instances_from T (place + 1) qs in
    rise_append InstanceBefore (under_labels place (labels T q)) later
    (under_rise place (labels T q) (each_rise T (groups_of (queries (q ∷ []))))) (instances_rise T (place + 1) qs)
    (all_map (λ label. record { query = place; label = label }) (λ i. AllByRecursion (InstanceBefore i) later) (labels T q)
    (all_of (λ label. AllByRecursion (InstanceBefore (record { query = place; label = label })) later)
    (λ label. all_weaker (λ (j : Instance). place + 1 ≤ j.query) (InstanceBefore (record { query = place; label = label }))
    (λ j above. by_first place j.query (label_key label) (label_key j.label) (omega (arith, above))) later
    (behind T (place + 1) (place + 1) qs (omega arith))) (labels T q)))

ascends_by : (is : List Instance) → Rise InstanceBefore is → AscendsBy instance_numbers is
ascends_by [] up = tt
ascends_by (i ∷ []) up = tt
ascends_by (i ∷ j ∷ is) up = (up.0.0, ascends_by (j ∷ is) up.1)

-- the instances of queries ascend
pub instances_ascend : (T : Topology) (qs : List QueryTree) → AscendsBy instance_numbers (instances_of T qs)
instances_ascend T qs = ascends_by (instances_of T qs) (instances_rise T 0 qs)
