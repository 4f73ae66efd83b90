-- The group with the buckets of a list of copies is there under its number.
use Rattle.std.proofs.Common.{◌≡◌, ◌⊎◌, inl, inr, ℕ, suc, ◌+◌, ◌≤◌, Bool, true, false, cond, not, if◌then◌else◌, List}
use Rattle.std.proofs.Common.{[], ◌∷◌, map, filter, nat_cmp, Some, None, rules, refl, sym, ap, ap₂, ◌∙◌, arith, true≢false}
use Rattle.std.specs.Prelude.{◌==◌}
use Rattle.std.specs.Cmp.{nat_cmp_total, unsigned_tied}
use Rattle.std.specs.Cmp.Lexicographic.{pointwise}
use Rattle.std.specs.FinMap.{find, get, get-from_entries}
use Rattle.std.specs.List.{cons_option, filter_map}
use Rattle.std.specs.declared.option.Option.{Option}
use Rattle.std.proofs.lemmas.Bool.{and_from, and_parts, eq-eqb, eqb-true, ne_eqb}
use Rattle.std.proofs.lemmas.Option.{same_Some}
use denote.Enum.Bare.{same_true, true_same}
use Rattle.pq_fields.specs.contracts.field.Field.{the_type}
use Rattle.pq_fields.specs.contracts.field.FieldPartialEq.TheImpl.{ghosts as fields}
use Rattle.pq_model.specs.contracts.action.ActionPartialEq.TheImpl.{ghosts as actions}
use Rattle.pq_model.specs.declared.action.Action.{Action}
use Rattle.pq_model.specs.declared.action.Action.TheVariants.{Output, PushVlan, PopVlan, Group, SetVlan, SetField}
use Rattle.pq_model.specs.MatchFields.{MatchFields, covers}
use Rattle.pq_model.specs.Mods.{GroupValue}
use Rattle.pq_model.specs.Renewal.{added_groups}
use Rattle.pq_model.specs.Tagged.{TaggedPacket}
use Rattle.pq_rewrite.specs.declared.outgoing.Outgoing.{Outgoing}
use Rattle.pq_rewrite.specs.Order.{same_items}
use Rattle.pq_layout.specs.Messages.{Buckets, each_once, group_needed, group_number, groups_from, groups_of, same_buckets}
use Rattle.pq_lookup.specs.Lookup.{first_covering}

-- actions that compare as equal are one
pub action_exact : (a b : Action) → actions.eq a b ≡ true → a ≡ b
action_exact (Output p) (Output q) h = ap Output (eqb-true p q h)
action_exact PushVlan PushVlan h = refl
action_exact PopVlan PopVlan h = refl
action_exact (Group m) (Group n) h = ap Group (eqb-true m n h)
action_exact (SetVlan v) (SetVlan w) h = ap SetVlan (eqb-true v w h)
action_exact (SetField f m) (SetField g n) h =
    let p = and_parts (fields.eq f g) (m == n) h in
    ap₂ SetField (same_true the_type (search rules) f g p.0) (eqb-true m n p.1)
action_exact a b h = absurd cc

-- an action compares as equal to itself
action_itself : (a : Action) → actions.eq a a ≡ true
action_itself (Output p) = eq-eqb p p refl
action_itself PushVlan = refl
action_itself PopVlan = refl
action_itself (Group n) = eq-eqb n n refl
action_itself (SetVlan w) = eq-eqb w w refl
action_itself (SetField f n) = and_from (fields.eq f f) (n == n) (true_same the_type f f refl) (eq-eqb n n refl)

items_itself : {A : Type 0} (E : A → A → Bool) → ((a : A) → E a a ≡ true) → (xs : List A) → pointwise E xs xs ≡ true
items_itself E same [] = refl
items_itself E same (x ∷ xs) = and_from (E x x) (pointwise E xs xs) (same x) (items_itself E same xs)

pub buckets_exact : (b c : Buckets) → same_buckets b c ≡ true → b ≡ c
buckets_exact = same_items (pointwise actions.eq) (same_items actions.eq action_exact)

pub buckets_itself : (b : Buckets) → same_buckets b b ≡ true
buckets_itself = items_itself (pointwise actions.eq) (items_itself actions.eq action_itself)

-- the value is in the list
abbrev pub IsIn : {A : Type 0} → A → List A → Type 0
IsIn a [] = ⊥
IsIn a (x ∷ xs) = (x ≡ a) ⊎ IsIn a xs

in-filter : {A : Type 0} (test : A → Bool) (a : A) → test a ≡ true → (xs : List A) → IsIn a xs → IsIn a (filter test xs)
in-filter test a passes [] i = absurd i
in-filter {A} test a passes (x ∷ xs) (inl is) = by (test x) (ap test is ∙ passes)
  where
    by : (b : Bool) → b ≡ true → IsIn a (cond b (x ∷ filter test xs) (filter test xs))
    by true e = inl is
    by false e = absurd (true≢false (sym e))
in-filter {A} test a passes (x ∷ xs) (inr later) = by (test x) (in-filter test a passes xs later)
  where
    by : (b : Bool) → IsIn a (filter test xs) → IsIn a (cond b (x ∷ filter test xs) (filter test xs))
    by true k = inr k
    by false k = k

-- each list of buckets that is used is among the groups
in-once : (b : Buckets) (bs : List Buckets) → IsIn b bs → IsIn b (each_once bs)
in-once b [] i = absurd i
in-once b (c ∷ cs) (inl is) = inl is
in-once b (c ∷ cs) (inr later) = by (same_buckets c b) refl (in-once b cs later)
  where
    by : (s : Bool) → same_buckets c b ≡ s → IsIn b (each_once cs) → IsIn b (c ∷ filter (λ d. not (same_buckets c d)) (each_once cs))
    by true e k = inl (buckets_exact c b e)
    by false e k = inr (in-filter (λ d. not (same_buckets c d)) b (ap not e) (each_once cs) k)

in-needed : (b : Buckets) (e : MatchFields × List Outgoing) → group_needed e.1 ≡ Some b → (es : List (MatchFields × List Outgoing))
    → IsIn e es → IsIn b (filter_map (λ d. group_needed d.1) es)
in-needed b e needed [] i = absurd i
in-needed b e needed (d ∷ es) (inl is) = by (group_needed d.1) (ap (λ (c : MatchFields × List Outgoing). group_needed c.1) is ∙ needed)
  where
    by : (o : Option Buckets) → o ≡ Some b → IsIn b (cons_option o (filter_map (λ d. group_needed d.1) es))
    by None h = cc
    by (Some c) h = inl (same_Some c b h)
in-needed b e needed (d ∷ es) (inr later) = by (group_needed d.1) (in-needed b e needed es later)
  where
    by : (o : Option Buckets) → IsIn b (filter_map (λ d. group_needed d.1) es) → IsIn b (cons_option o (filter_map (λ d. group_needed d.1) es))
    by None k = k
    by (Some c) k = inr k

-- the first covering element is one
pub first-in : {L : Type 0} (x : TaggedPacket) (es : List (MatchFields × L)) (e : MatchFields × L) → first_covering x es ≡ Some e → IsIn e es
first-in x [] e h = cc
first-in {L} x (d ∷ es) e h = by (covers d.0 x) h (first-in x es e)
  where
    by : (b : Bool) → (if b then Some d else first_covering x es) ≡ Some e → (first_covering x es ≡ Some e → IsIn e es) → IsIn e (d ∷ es)
    by true k more = inl (same_Some d e k)
    by false k more = inr (more k)

pub in-groups : (b : Buckets) (e : MatchFields × List Outgoing) → group_needed e.1 ≡ Some b → (es : List (MatchFields × List Outgoing))
    → IsIn e es → IsIn b (groups_of es)
in-groups b e needed es i = in-once b (filter_map (λ d. group_needed d.1) es) (in-needed b e needed es i)

-- Numbers.

some_number : (b : Buckets) (gs : List Buckets) → 1 ≤ group_number gs b
some_number b [] = omega arith
some_number b (c ∷ cs) = by (same_buckets c b)
  where
    by : (s : Bool) → 1 ≤ (if s then 1 else suc (group_number cs b))
    by true = omega arith
    by false = omega arith

abbrev pairs : List GroupValue → List (ℕ × Buckets)
pairs gs = map (λ g. (g.group, g.buckets)) gs

number-found : (b : Buckets) (xid k : ℕ) (gs : List Buckets) → IsIn b gs → (n : ℕ) → suc n ≡ k + group_number gs b
    → find nat_cmp n (pairs (groups_from xid k gs)) ≡ Some b
number-found b xid k [] i n e = absurd i
number-found b xid k (c ∷ cs) i n e = by (same_buckets c b) refl e i (λ later g. number-found b (suc xid) (suc k) cs later n g)
  where
    rest : List (ℕ × Buckets)
    rest = pairs (groups_from (suc xid) (suc k) cs)

    by : (s : Bool) → same_buckets c b ≡ s → suc n ≡ k + (if s then 1 else suc (group_number cs b)) → (c ≡ b) ⊎ IsIn b cs →
        (IsIn b cs → suc n ≡ suc k + group_number cs b → find nat_cmp n rest ≡ Some b) → find nat_cmp n ((k, c) ∷ rest) ≡ Some b
    by true same e i more = ap (λ t. cond t (Some c) (find nat_cmp n rest)) (unsigned_tied n k ∙ eq-eqb n k (omega arith)) ∙ ap Some (buckets_exact c b same)
    by false same e (inl is) more = absurd (true≢false (sym (ap (λ d. same_buckets d b) is ∙ buckets_itself b) ∙ same))
    by false same e (inr later) more = ap (λ t. cond t (Some c) (find nat_cmp n rest)) (unsigned_tied n k
        ∙ ne_eqb n k (λ q. omega (arith, some_number b cs))) ∙ more later (omega arith)

-- the group with these buckets is there under its number
pub group-there : (b : Buckets) (gs : List Buckets) → IsIn b gs → get (added_groups (groups_from 4 1 gs)) (group_number gs b) ≡ Some b
group-there b gs i = get-from_entries nat_cmp_total (pairs (groups_from 4 1 gs)) (group_number gs b) ∙ number-found b 4 1 gs i (group_number gs b) (omega arith)
