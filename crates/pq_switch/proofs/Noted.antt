-- What the entries name stays noted, when one is put in or some are taken out.
use Rattle.std.proofs.Common.{◌≡◌, ℕ, ◌+◌, ◌<◌, Bool, true, false, not, cond, if◌then◌else◌, ◌==◌, ◌&&◌, ◌||◌}
use Rattle.std.proofs.Common.{List, [], ◌∷◌, drop, get_or, length, arith, refl, sym, ap, subst, ◌∙◌}
use Rattle.std.proofs.lemmas.Bool.{and_parts, eqb-true, true≢false}
use Rattle.std.proofs.lemmas.Bool.Decides.{nat_tests}
use Rattle.std.specs.declared.cmp.Ordering.{Ordering}
use Rattle.std.specs.declared.cmp.Ordering.TheVariants.{Less, Equal, Greater}
use Rattle.std.specs.declared.option.Option.{Option}
use Rattle.std.specs.declared.option.Option.TheVariants.{None, Some}
use Rattle.std.specs.BTreeMap.{insert_entry, is_at}
use Rattle.std.specs.BTreeMap.Range.{range_contains}
use Rattle.std.specs.declared.ops.Bound.TheVariants.{Included, Unbounded}
use Rattle.std.specs.Cmp.{IsTotalOrder, nat_cmp_total, tied_itself}
use Rattle.std.specs.FinMap.{contains_key}
use Rattle.std.specs.Option.{unwrap_or}
use Rattle.std.specs.List.{AllByRecursion, cons_option, filter, list_any}
use Rattle.std.specs.List.Sorted.{IsStrictlySortedBy}
use Rattle.std.specs.Map.{keys_of, lookup, remove_entry}
use Rattle.std.specs.Ordering.{eq_by_cmp, is_eq, is_gt, is_le, nat_cmp, ordering_then}
use Rattle.std.specs.Set.{is_member}
use Rattle.std.proofs.lemmas.List.{drop_more}
use Rattle.std.proofs.Math.Bool.{and-false}
use Rattle.pq_lists.proofs.Holding.{all_filter, all_weaker}
use Rattle.pq_model.specs.SwitchMachine.{Entry, Groups, group_named, groups_named, is_removed}
use Rattle.pq_model.specs.declared.reserved.TheConstants.{ALL_GROUPS}
use Rattle.pq_model.proofs.Filters.{filter-filter}
use Rattle.pq_model.specs.declared.action.Action.{Action}
use Rattle.pq_model.proofs.CommutingGroups.{regrouped}
use Rattle.pq_switch.specs.Namings.{AreIndexed, AreNoted, Grows, is_naming, is_noted, names, names_any, naming, naming_cmp}
use Rattle.pq_switch.specs.Places.{place_cmp}
use Rattle.pq_switch.specs.declared.entry.Slot.{Slot}
use Rattle.pq_switch.specs.declared.naming.Naming.{Naming}
use Rattle.pq_switch.specs.declared.place.Place.{Place}
use Rattle.pq_switch.proofs.Places.{both_equal, lowest, lowest-first, not_gt, place-exact, place_cmp_total, same_numbers}
use Rattle.pq_switch.proofs.Rows.{all-insert, all-remove, some_is_no_none}

-- the other way round
unlike : (g h : ℕ) → (h == g) ≡ false → (g == h) ≡ false
unlike g h same = grind (arith, nat_tests)

-- Filters.

module _ {A : Type 0} where
  filter-all : (p : A → Bool) (xs : List A) → AllByRecursion (λ x. p x ≡ true) xs → filter p xs ≡ xs
  filter-all p [] all = refl
  filter-all p (x ∷ xs) (here, all) = λ i. cond (here i) (x ∷ filter-all p xs all i) (filter-all p xs all i)

  -- what a weaker test takes out goes anyway
  filter-finer : (p q : A → Bool) → ((x : A) → p x ≡ true → q x ≡ true) → (xs : List A) → filter p (filter q xs) ≡ filter p xs
  filter-finer p q finer [] = refl
  filter-finer p q finer (x ∷ xs) = by (p x) (q x) refl refl (filter-finer p q finer xs)
    where
      by : (b c : Bool) → p x ≡ b → q x ≡ c → filter p (filter q xs) ≡ filter p xs
          → filter p (cond c (x ∷ filter q xs) (filter q xs)) ≡ cond b (x ∷ filter p xs) (filter p xs)
      by true true is goes more = λ i. cond (is i) (x ∷ more i) (more i)
      by true false is goes more = absurd (true≢false (sym (finer x is) ∙ goes))
      by false true is goes more = λ i. cond (is i) (x ∷ more i) (more i)
      by false false is goes more = more

  all-passed : (p : A → Bool) (xs : List A) → AllByRecursion (λ x. p x ≡ true) (filter p xs)
  all-passed p [] = tt
  all-passed p (x ∷ xs) = by (p x) refl (all-passed p xs)
    where
      by : (b : Bool) → p x ≡ b → AllByRecursion (λ y. p y ≡ true) (filter p xs) → AllByRecursion (λ y. p y ≡ true) (cond b (x ∷ filter p xs) (filter p xs))
      by true is more = (is, more)
      by false is more = more

  both-all : (P Q R : A → Type 0) → ((x : A) → P x → Q x → R x) → (xs : List A) → AllByRecursion P xs → AllByRecursion Q xs → AllByRecursion R xs
  both-all P Q R follows [] p q = tt
  both-all P Q R follows (x ∷ xs) (p, ps) (q, qs) = (follows x p q, both-all P Q R follows xs ps qs)

  none-any : (p : A → Bool) (xs : List A) → list_any p xs ≡ false → AllByRecursion (λ x. p x ≡ false) xs
  none-any p [] none = tt
  none-any p (x ∷ xs) none = by (p x) refl none (none-any p xs)
    where
      by : (b : Bool) → p x ≡ b → b || list_any p xs ≡ false → (list_any p xs ≡ false → AllByRecursion (λ y. p y ≡ false) xs)
          → AllByRecursion (λ y. p y ≡ false) (x ∷ xs)
      by true is none more = absurd (true≢false none)
      by false is none more = (is, more none)

  any-none : (p : A → Bool) (xs : List A) → AllByRecursion (λ x. p x ≡ false) xs → list_any p xs ≡ false
  any-none p [] all = refl
  any-none p (x ∷ xs) (here, all) = λ i. here i || any-none p xs all i

-- One entry of a map.

module _ {K X : Type 0} (R : K → K → Ordering) (o : IsTotalOrder R) (k : K) (t : X → Bool) where
  -- whether the entry is not at the key, or doesn't pass
  abbrev pub apart : K × X → Bool
  apart r = not (t r.1 && is_eq (R k r.0))

  away : (b : Bool) (r : Ordering) → is_eq r ≡ false → not (b && is_eq r) ≡ true
  away true r h = ap not h
  away false r h = refl

  all-apart : (es : List (K × X)) → AllByRecursion (λ q. R k q ≡ Less) (keys_of es) → AllByRecursion (λ r. apart r ≡ true) es
  all-apart [] all = tt
  all-apart (e ∷ es) (here, all) = (away (t e.1) (R k e.0) (ap is_eq here), all-apart es all)

  -- where there is none
  none-there : (es : List (K × X)) → lookup (is_at (R k)) es ≡ None → AllByRecursion (λ r. apart r ≡ true) es
  none-there [] none = tt
  none-there (e ∷ es) none = by (is_eq (R k e.0)) refl none (none-there es)
    where
      by : (b : Bool) → is_eq (R k e.0) ≡ b → cond b (Some e.1) (lookup (is_at (R k)) es) ≡ None
          → (lookup (is_at (R k)) es ≡ None → AllByRecursion (λ r. apart r ≡ true) es) → AllByRecursion (λ r. apart r ≡ true) (e ∷ es)
      by true is none more = some_is_no_none e.1 none
      by false is none more = (away (t e.1) (R k e.0) is, more none)

  pub none_taken : (es : List (K × X)) → lookup (is_at (R k)) es ≡ None → es ≡ filter apart es
  none_taken es none = sym (filter-all apart es (none-there es none))

  -- the one that is there passes and is taken out, or stays
  pub one_taken : (v : X) (es : List (K × X)) → IsStrictlySortedBy R (keys_of es) → lookup (is_at (R k)) es ≡ Some v
      → cond (t v) (remove_entry (is_at (R k)) es) es ≡ filter apart es
  unfolding IsStrictlySortedBy
  one_taken v [] sorted found = some_is_no_none v (sym found)
  one_taken v (e ∷ es) (later, sorted) found = by (R k e.0) refl found (one_taken v es sorted)
    where
      rest : R k e.0 ≡ Equal → filter apart es ≡ es
      rest is =
          filter-all apart es (all-apart es (all_weaker (λ z. R e.0 z ≡ Less) (λ z. R k z ≡ Less) (λ z less. o.congr k e.0 z is ∙ less) (keys_of es) later))

      kept : (r : Ordering) → is_eq r ≡ false → R k e.0 ≡ r → filter apart (e ∷ es) ≡ e ∷ filter apart es
      kept r h is = ap (λ b. cond b (e ∷ filter apart es) (filter apart es)) (away (t e.1) (R k e.0) (ap is_eq is ∙ h))

      put : (b : Bool) (xs ys : List (K × X)) → cond b (e ∷ xs) (e ∷ ys) ≡ e ∷ cond b xs ys
      put true xs ys = refl
      put false xs ys = refl

      out : (r : Ordering) → is_eq r ≡ false → R k e.0 ≡ r → lookup (is_at (R k)) es ≡ Some v
          → (lookup (is_at (R k)) es ≡ Some v → cond (t v) (remove_entry (is_at (R k)) es) es ≡ filter apart es)
          → cond (t v) (e ∷ remove_entry (is_at (R k)) es) (e ∷ es) ≡ filter apart (e ∷ es)
      out r h is found more = put (t v) (remove_entry (is_at (R k)) es) es ∙ ap (λ l. e ∷ l) (more found) ∙ sym (kept r h is)

      turned : (b : Bool) → cond b es (e ∷ es) ≡ cond (not (b && true)) (e ∷ es) es
      turned true = refl
      turned false = refl

      by : (r : Ordering) → R k e.0 ≡ r → cond (is_eq r) (Some e.1) (lookup (is_at (R k)) es) ≡ Some v
          → (lookup (is_at (R k)) es ≡ Some v → cond (t v) (remove_entry (is_at (R k)) es) es ≡ filter apart es)
          → cond (t v) (cond (is_eq r) es (e ∷ remove_entry (is_at (R k)) es)) (e ∷ es) ≡ filter apart (e ∷ es)
      by Less is found more = out Less refl is found more
      by Greater is found more = out Greater refl is found more
      by Equal is found more = ap (λ c. cond (t c) es (e ∷ es)) (sym (ap (λ x. unwrap_or x v) found)) ∙ turned (t e.1)
          ∙ sym (λ i. cond (not (t e.1 && is_eq (is i))) (e ∷ rest is i) (rest is i))

-- What is noted.

-- two namings are the same where the groups and the places are
namings-equal : (g h : ℕ) (p q : Place) → is_eq (naming_cmp (naming g p) (naming h q)) ≡ (g == h) && is_eq (place_cmp p q)
namings-equal g h p q = both_equal (nat_cmp g h) (place_cmp p q) ∙ ap (λ b. b && is_eq (place_cmp p q)) (same_numbers g h)

pub grows-itself : (index : List Naming) → Grows index index
grows-itself index g p h = h

noted-grows : (old new : List Naming) → Grows old new → (p : Place) (actions : List Action) → AreNoted old p actions → AreNoted new p actions
noted-grows old new grows p actions all = all_weaker (λ g. is_noted old g p ≡ true) (λ g. is_noted new g p ≡ true) (λ g. grows g p) (groups_named actions) all

abbrev pub Row : List Naming → Place × Slot → Type 0
Row index r = AreNoted index r.0 r.1.entry.actions

pub rows-grow : (old new : List Naming) → Grows old new → (es : List (Place × Slot)) → AllByRecursion (Row old) es → AllByRecursion (Row new) es
rows-grow old new grows es all = all_weaker (Row old) (Row new) (λ r. noted-grows old new grows r.0 r.1.entry.actions) es all

-- an entry is put in after its groups are noted
pub put-noted : (index : List Naming) (p : Place) (s : Slot) → AreNoted index p s.entry.actions → (es : List (Place × Slot))
    → AllByRecursion (Row index) es → AllByRecursion (Row index) (insert_entry place_cmp es p s)
put-noted index p s new es all =
    all-insert place_cmp p (Row index) s new es all
    (λ q equal. subst (λ r. AreNoted index r s.entry.actions) (place-exact p q equal) new)

pub out-noted : (index : List Naming) (test : Place → Bool) (es : List (Place × Slot)) → AllByRecursion (Row index) es
    → AllByRecursion (Row index) (remove_entry test es)
out-noted index test es all = all-remove (Row index) test es all

-- One group.

module _ (group : ℕ) where
  -- whether the entry doesn't name the group
  abbrev pub other : Place × Slot → Bool
  other r = not (names group r.1.entry.actions)

  -- whether it doesn't, or stands at another place
  abbrev pub outside : Place → Place × Slot → Bool
  outside p r = not (names group r.1.entry.actions && is_eq (place_cmp p r.0))

  weaker : (b c : Bool) → not b ≡ true → not (b && c) ≡ true
  weaker true c h = absurd (true≢false (sym h))
  weaker false c h = refl

  -- the others stay the same
  pub others-stay : (p : Place) (es : List (Place × Slot)) → filter other (filter (outside p) es) ≡ filter other es
  others-stay p es = filter-finer other (outside p) (λ r h. weaker (names group r.1.entry.actions) (is_eq (place_cmp p r.0)) h) es

  module _ (p : Place) (old new : List Naming) (is : (h : ℕ) (q : Place)
      → is_noted new h q ≡ cond (is_eq (naming_cmp (naming group p) (naming h q))) false (is_noted old h q)) where
    differs : (h : ℕ) (q : Place) → (group == h) && is_eq (place_cmp p q) ≡ false → is_noted old h q ≡ true → is_noted new h q ≡ true
    differs h q other noted = is h q ∙ ap (λ b. cond b false (is_noted old h q)) (namings-equal group h p q ∙ other) ∙ noted

    row-stays : (r : Place × Slot) → Row old r → outside p r ≡ true → Row new r
    row-stays r all out = by (names group r.1.entry.actions) (is_eq (place_cmp p r.0)) refl refl out
      where
        ns : List ℕ
        ns = groups_named r.1.entry.actions

        elsewhere : is_eq (place_cmp p r.0) ≡ false → Row new r
        elsewhere e = all_weaker (λ h. is_noted old h r.0 ≡ true) (λ h. is_noted new h r.0 ≡ true)
            (λ h. differs h r.0 (ap (λ b. (group == h) && b) e ∙ and-false (group == h))) ns all

        by : (b c : Bool) → names group r.1.entry.actions ≡ b → is_eq (place_cmp p r.0) ≡ c → not (b && c) ≡ true → Row new r
        by true true n e out = absurd (true≢false (sym out))
        by true false n e out = elsewhere e
        by false c n e out = both-all (λ h. is_noted old h r.0 ≡ true) (λ h. (h == group) ≡ false) (λ h. is_noted new h r.0 ≡ true)
            (λ h noted same. differs h r.0 (ap (λ b. b && is_eq (place_cmp p r.0)) (unlike group h same)) noted) ns all (none-any (λ h. h == group) ns n)

    -- the naming of an entry that is gone is of no use
    pub stays-noted : (es : List (Place × Slot)) → AllByRecursion (Row old) es → AllByRecursion (Row new) (filter (outside p) es)
    stays-noted es all = both-all (Row old) (λ r. outside p r ≡ true) (Row new) row-stays (filter (outside p) es)
        (all_filter (Row old) (outside p) es all) (all-passed (outside p) es)

  is-other : (index : List Naming) (p : Place) → is_noted index group p ≡ false → (h : ℕ) → is_noted index h p ≡ true → (h == group) ≡ false
  is-other index p none h noted = by (h == group) refl
    where
      by : (b : Bool) → (h == group) ≡ b → (h == group) ≡ false
      by false is = is
      by true is = absurd (true≢false (sym noted ∙ ap (λ g. is_noted index g p) (eqb-true h group is) ∙ none))

  row-other : (index : List Naming) (r : Place × Slot) → is_noted index group r.0 ≡ false → Row index r → other r ≡ true
  row-other index r none noted = ap not (any-none (λ h. h == group) (groups_named r.1.entry.actions)
      (all_weaker (λ h. is_noted index h r.0 ≡ true) (λ h. (h == group) ≡ false) (is-other index r.0 none) (groups_named r.1.entry.actions) noted))

  -- where no place is noted with the group, no entry names it
  pub none-names : (index : List Naming) → ((p : Place) → is_noted index group p ≡ false) → (es : List (Place × Slot)) → AllByRecursion (Row index) es
      → filter other es ≡ es
  none-names index none es all = filter-all other es (all_weaker (Row index) (λ r. other r ≡ true) (λ r. row-other index r (none r.0)) es all)

-- One naming more.

pub grows-added : (old new : List Naming) (k : Naming) →
    ((q : Naming) → list_any (is_at (naming_cmp q)) new ≡ cond (is_at (naming_cmp k) q) true (list_any (is_at (naming_cmp q)) old)) → Grows old new
grows-added old new k is g p h = is (naming g p) ∙ by (is_at (naming_cmp k) (naming g p))
  where
    by : (b : Bool) → cond b true (is_noted old g p) ≡ true
    by true = refl
    by false = h

more-noted : (index : List Naming) (p : Place) (a : Action) (rest : List Action) → AreNoted index p (a ∷ []) → AreNoted index p rest
    → AreNoted index p (a ∷ rest)
more-noted index p a rest one all = by (group_named a) one
  where
    by : (o : Option ℕ) → AllByRecursion (λ g. is_noted index g p ≡ true) (cons_option o [])
        → AllByRecursion (λ g. is_noted index g p ≡ true) (cons_option o (groups_named rest))
    by None one = all
    by (Some g) one = (one.0, all)

-- what grows from an index has all, if it has what is left
abbrev pub Completes : List Naming → Place → List Action → List Action → Type 0
Completes index p left actions = (more : List Naming) → Grows index more → AreNoted more p left → AreNoted more p actions

pub completes-more : (old new : List Naming) (p : Place) (actions : List Action) (i : ℕ) (a : Action) → i < length actions → a ≡ get_or actions i a
    → AreNoted new p (a ∷ []) → Grows old new → Completes old p (drop i actions) actions → Completes new p (drop (i + 1) actions) actions
completes-more old new p actions i a below is one grows so_far more g rest =
    so_far more (λ h q noted. g h q (grows h q noted))
    (subst (AreNoted more p) (sym (drop_more actions i a below))
    (subst (λ b. AreNoted more p (b ∷ drop (i + 1) actions)) is
    (more-noted more p a (drop (i + 1) actions) (noted-grows new more g p (a ∷ []) one) rest)))

-- The first naming of a group.

in_group : (g : ℕ) (p q : Place) → naming_cmp (naming g p) (naming g q) ≡ place_cmp p q
in_group g p q = ap (λ r. ordering_then r (place_cmp p q)) (tied_itself nat_cmp_total g)

from_lowest : (g : ℕ) (p : Place) → is_gt (naming_cmp (naming g lowest) (naming g p)) ≡ false
from_lowest g p = ap is_gt (in_group g lowest p) ∙ lowest-first p

between : (g : ℕ) (p q : Place) (k : Naming) → is_gt (naming_cmp (naming g p) k) ≡ false → is_gt (naming_cmp k (naming g q)) ≡ false → k.group ≡ g
between g p q k above below = same (front (nat_cmp g k.group) (place_cmp p k.place) above) (front (nat_cmp k.group g) (place_cmp k.place q) below)
  where
    front : (r s : Ordering) → is_gt (ordering_then r s) ≡ false → is_gt r ≡ false
    front Less s h = refl
    front Equal s h = refl
    front Greater s h = h

    same : is_gt (nat_cmp g k.group) ≡ false → is_gt (nat_cmp k.group g) ≡ false → k.group ≡ g
    same a b = grind (arith, nat_tests)

-- a naming at a key is the key
same-naming : (g : ℕ) (p : Place) (k : Naming) → is_at (naming_cmp (naming g p)) k ≡ true → naming g p ≡ k
same-naming g p k at =
    let parts = and_parts (g == k.group) (is_eq (place_cmp p k.place)) (sym (namings-equal g k.group p k.place) ∙ at) in
    let group = eqb-true g k.group parts.0 in
    let place = place-exact p k.place (equal (place_cmp p k.place) parts.1) in
    λ i. naming (group i) (place i)
  where
    equal : (r : Ordering) → is_eq r ≡ true → r ≡ Equal
    equal Less e = absurd (true≢false (sym e))
    equal Equal e = refl
    equal Greater e = absurd (true≢false (sym e))

module _ (g : ℕ) (p : Place) where
  -- whether a naming is not before those of the group
  abbrev from_group : Naming → Bool
  from_group k = range_contains naming_cmp (Included (naming g lowest)) Unbounded k

  -- whether it is that of the place
  abbrev here : Naming → Bool
  here k = is_at (naming_cmp (naming g p)) k

  at_most : (r : Ordering) → is_gt r ≡ false → is_le r && true ≡ true
  at_most Less e = refl
  at_most Equal e = refl
  at_most Greater e = absurd (true≢false e)

  here_from : (k : Naming) → here k ≡ true → from_group k ≡ true
  here_from k at = subst (λ n. from_group n ≡ true) (same-naming g p k at) (at_most (naming_cmp (naming g lowest) (naming g p)) (from_lowest g p))

  -- where no naming is that far, none is of the group
  pub none_from : (ks : List Naming) → filter from_group ks ≡ [] → list_any here ks ≡ false
  none_from [] e = refl
  none_from (k ∷ ks) e = by (here k) (from_group k) refl refl e (none_from ks)
    where
      by : (b c : Bool) → here k ≡ b → from_group k ≡ c → cond c (k ∷ filter from_group ks) (filter from_group ks) ≡ []
          → (filter from_group ks ≡ [] → list_any here ks ≡ false) → b || list_any here ks ≡ false
      by b true at from e more = absurd cc
      by true false at from e more = absurd (true≢false (sym (here_from k at) ∙ from))
      by false false at from e more = more e

  -- none of those after a naming is that of the place, where the naming isn't before it
  none_after : (k : Naming) (js : List Naming) → AllByRecursion (λ j. naming_cmp k j ≡ Less) js → (naming_cmp k (naming g p) ≡ Less → ⊥)
      → list_any here js ≡ false
  none_after k [] all not_less = refl
  none_after k (j ∷ js) (less, all) not_less = by (here j) refl (none_after k js all not_less)
    where
      by : (b : Bool) → here j ≡ b → list_any here js ≡ false → b || list_any here js ≡ false
      by true at more = absurd (not_less (ap (naming_cmp k) (same-naming g p j at) ∙ less))
      by false at more = more

  -- where the first that is that far is of another group, none is of the group
  pub other_from : (ks : List Naming) (n : Naming) (rest : List Naming) → IsStrictlySortedBy naming_cmp ks → filter from_group ks ≡ n ∷ rest
      → (n.group ≡ g → ⊥) → list_any here ks ≡ false
  unfolding IsStrictlySortedBy
  other_from [] n rest sorted e other = refl
  other_from (k ∷ ks) n rest (later, sorted) e other = by (here k) (from_group k) refl refl e (other_from ks n rest sorted)
    where
      apart : (b : Bool) → here k ≡ b → from_group k ≡ true → (k.group ≡ g → ⊥) → b || list_any here ks ≡ false
      apart true at from not_g = absurd (not_g (sym (ap (λ m. m.group) (same-naming g p k at))))
      apart false at from not_g = none_after k ks later (λ less. not_g (between g lowest p k
          (not_gt (naming_cmp (naming g lowest) k) (and_parts (is_le (naming_cmp (naming g lowest) k)) true from).0) (ap is_gt less)))

      by : (b c : Bool) → here k ≡ b → from_group k ≡ c → cond c (k ∷ filter from_group ks) (filter from_group ks) ≡ n ∷ rest
          → (filter from_group ks ≡ n ∷ rest → (n.group ≡ g → ⊥) → list_any here ks ≡ false) → b || list_any here ks ≡ false
      by b true at from e more = let same : k ≡ n = cc in apart b at from (λ is. other (ap (λ m. m.group) (sym same) ∙ is))
      by true false at from e more = absurd (true≢false (sym (here_from k at) ∙ from))
      by false false at from e more = more e other

-- One place of a group.

pub one_place : (g : ℕ) (p : Place) (es : List (Place × Slot)) → IsStrictlySortedBy place_cmp (keys_of es) →
    cond (is_naming g (lookup (is_at (place_cmp p)) es)) (remove_entry (is_at (place_cmp p)) es) es ≡ filter (outside g p) es
one_place g p es sorted = by (lookup (is_at (place_cmp p)) es) refl
  where
    by : (o : Option Slot) → lookup (is_at (place_cmp p)) es ≡ o → cond (is_naming g o) (remove_entry (is_at (place_cmp p)) es) es ≡ filter (outside g p) es
    by None found = none_taken place_cmp place_cmp_total p (λ s. names g s.entry.actions) es found
    by (Some s) found = one_taken place_cmp place_cmp_total p (λ d. names g d.entry.actions) s es sorted found

-- All groups of a list.

any-either : {A : Type 0} (p q r : A → Bool) → ((x : A) → r x ≡ p x || q x) → (xs : List A) → list_any r xs ≡ list_any p xs || list_any q xs
any-either p q r is [] = refl
any-either p q r is (x ∷ xs) = (λ i. is x i || any-either p q r is xs i) ∙ regrouped (p x) (q x) (list_any p xs) (list_any q xs)

not-or : (a b : Bool) → not (a || b) ≡ not a && not b
not-or true b = refl
not-or false b = refl

-- whether the entry names none of the groups
abbrev pub free : List ℕ → Place × Slot → Bool
free groups r = not (names_any groups r.1.entry.actions)

pub free-more : (g : ℕ) (groups : List ℕ) (es : List (Place × Slot)) → filter (free groups) (filter (other g) es) ≡ filter (free (g ∷ groups)) es
free-more g groups es = filter-filter (free groups) (other g) es ∙ (λ i. filter (λ r. sym (both r) i) es)
  where
    both : (r : Place × Slot) → free (g ∷ groups) r ≡ other g r && free groups r
    both r = ap not (any-either (λ h. h == g) (is_member (eq_by_cmp nat_cmp) groups) (is_member (eq_by_cmp nat_cmp) (g ∷ groups))
        (λ h. ap (λ b. b || is_member (eq_by_cmp nat_cmp) groups h) (same_numbers h g)) (groups_named r.1.entry.actions))
        ∙ not-or (names g r.1.entry.actions) (names_any groups r.1.entry.actions)

nothing : (ns : List ℕ) → list_any (is_member (eq_by_cmp nat_cmp) []) ns ≡ false
nothing [] = refl
nothing (n ∷ ns) = nothing ns

all-free : (es : List (Place × Slot)) → AllByRecursion (λ r. free [] r ≡ true) es
all-free [] = tt
all-free (r ∷ es) = (ap not (nothing (groups_named r.1.entry.actions)), all-free es)

pub free-all : (es : List (Place × Slot)) → filter (free []) es ≡ es
free-all es = filter-all (free []) es (all-free es)

-- What a DELETE takes out.

-- whether the entry names no group that is removed
abbrev pub left : Groups → ℕ → Entry → Bool
left groups number e = not (list_any (is_removed groups number) (groups_named e.actions))

pub all_removed : (groups : Groups) (numbers : List ℕ) → ((n : ℕ) → contains_key groups n ≡ is_member (eq_by_cmp nat_cmp) numbers n)
    → (es : List (Place × Slot)) → filter (free numbers) es ≡ filter (λ r. left groups ALL_GROUPS r.1.entry) es
all_removed groups numbers has es = λ i. filter (λ r. not (list_any (λ n. (sym (has n) ∙ whole (contains_key groups n)) i) (groups_named r.1.entry.actions))) es
  where
    whole : (b : Bool) → b ≡ b && true
    whole true = refl
    whole false = refl

pub one_removed : (groups : Groups) (number : ℕ) → (number == ALL_GROUPS) ≡ false → contains_key groups number ≡ true
    → (es : List (Place × Slot)) → filter (other number) es ≡ filter (λ r. left groups number r.1.entry) es
one_removed groups number not_all is es = λ i. filter (λ r. not (list_any (λ n. same n i) (groups_named r.1.entry.actions))) es
  where
    by : (n : ℕ) (b : Bool) → (n == number) ≡ b → contains_key groups n && (n == number) ≡ (n == number)
    by n true e = (λ i. contains_key groups (eqb-true n number e i) && e i) ∙ ap (λ b. b && true) is ∙ sym e
    by n false e = ap (λ b. contains_key groups n && b) e ∙ and-false (contains_key groups n) ∙ sym e

    same : (n : ℕ) → (n == number) ≡ is_removed groups number n
    same n = sym (ap (λ b. contains_key groups n && (if b then true else n == number)) not_all ∙ by n (n == number) refl)

-- The index of all entries.

pub grown-indexed : (i j : List Naming) (old new : List (Place × Slot)) → AreIndexed i old → Grows i j → new ≡ old → AreIndexed j new
grown-indexed i j old new indexed grows is = record {
  ordered = subst (λ es. IsStrictlySortedBy place_cmp (keys_of es)) (sym is) indexed.ordered;
  noted = subst (AllByRecursion (Row j)) (sym is) (rows-grow i j grows old indexed.noted);
}

pub put_in-indexed : (i j : List Naming) (p : Place) (s : Slot) (old new : List (Place × Slot)) → AreIndexed i old → Grows i j
    → AreNoted j p s.entry.actions → new ≡ insert_entry place_cmp old p s → IsStrictlySortedBy place_cmp (keys_of new) → AreIndexed j new
put_in-indexed i j p s old new indexed grows noted is ordered = record {
  ordered = ordered;
  noted = subst (AllByRecursion (Row j)) (sym is) (put-noted j p s noted old (rows-grow i j grows old indexed.noted));
}

pub taken_out-indexed : (i : List Naming) (test : Place → Bool) (old new : List (Place × Slot)) → AreIndexed i old → new ≡ remove_entry test old
    → IsStrictlySortedBy place_cmp (keys_of new) → AreIndexed i new
taken_out-indexed i test old new indexed is ordered = record {
  ordered = ordered;
  noted = subst (AllByRecursion (Row i)) (sym is) (out-noted i test old indexed.noted);
}

pub one_less-indexed : (g : ℕ) (p : Place) (i j : List Naming) (old new : List (Place × Slot)) → AreIndexed i old →
    ((q : Naming) → list_any (is_at (naming_cmp q)) j ≡ cond (is_at (naming_cmp (naming g p)) q) false (list_any (is_at (naming_cmp q)) i)) →
    new ≡ filter (outside g p) old → IsStrictlySortedBy place_cmp (keys_of new) → AreIndexed j new
one_less-indexed g p i j old new indexed less is ordered = record {
  ordered = ordered;
  noted = subst (AllByRecursion (Row j)) (sym is) (stays-noted g p i j (λ h q. less (naming h q)) old indexed.noted);
}
