-- Messages on groups that leave the same tables in either order.
use Rattle.std.proofs.Common.{◌≡◌, ◌≢◌, ℕ, Bool, true, false, cond, not, List, [], ◌∷◌, ◌&&◌, ◌||◌, ◌==◌, if◌then◌else◌, filter, refl, sym}
use Rattle.std.proofs.Common.{ap, ◌∙◌, arith, nat_cmp, is_some}
use Rattle.std.proofs.Math.Bool.{or_comm}
use Rattle.std.proofs.lemmas.Bool.Decides.{nat_tests}
use Rattle.std.specs.declared.option.Option.{Option}
use Rattle.std.specs.declared.option.Option.TheVariants.{None, Some}
use Rattle.std.specs.List.{list_any}
use Rattle.std.specs.FinMap.{contains_key, get, insert, remove, get-empty, get-insert, get-remove, same_map, nat_cmp-IsAntisymmetric}
use Rattle.std.specs.Cmp.{nat_cmp_total, unsigned_tied}
use Rattle.pq_model.specs.declared.action.Action.{Action}
use Rattle.pq_model.specs.declared.group_mod.GroupCommand.{GroupCommand}
use Rattle.pq_model.specs.declared.group_mod.GroupCommand.TheVariants.{Add, Modify, Delete}
use Rattle.pq_model.specs.declared.message.Message.TheVariants.{Group}
use Rattle.pq_model.specs.Mods.{GroupValue}
use Rattle.pq_model.specs.SwitchMachine.{Entry, Groups, Tables, groups_named, is_removed, removed_from, no_groups, changes_groups}
use Rattle.pq_model.specs.declared.reserved.TheConstants.{ALL_GROUPS}
use Rattle.pq_model.specs.Orders.{Commute}
use Rattle.pq_model.proofs.SameTables.{same-equal}
use Rattle.pq_model.proofs.Filters.{filter-filter}

get-put : (groups : Groups) (k q : ℕ) (v : List (List Action)) → get (insert groups k v) q ≡ cond (q == k) (Some v) (get groups q)
get-put groups k q v = get-insert nat_cmp_total groups k v q ∙ ap (λ b. cond b (Some v) (get groups q)) (unsigned_tied q k)

insert-exchange : (groups : Groups) (j k : ℕ) (v w : List (List Action)) → j ≢ k → insert (insert groups j v) k w ≡ insert (insert groups k w) j v
insert-exchange groups j k v w apart = same_map nat_cmp_total nat_cmp-IsAntisymmetric _ _ (λ q. at q)
  where
    at : (q : ℕ) → get (insert (insert groups j v) k w) q ≡ get (insert (insert groups k w) j v) q
    at q = rw (get-put (insert groups j v) k q w, get-put groups j q v, get-put (insert groups k w) j q v, get-put groups k q w) (grind (arith, nat_tests))

-- the tables with the buckets of the group, or as they were
abbrev put : Bool → GroupValue → Tables → Tables
put b g t = if b then record t { groups = insert t.groups g.group g.buckets } else t

put-has : (b : Bool) (f : GroupValue) (t : Tables) (k : ℕ) → f.group ≢ k → contains_key (put b f t).groups k ≡ contains_key t.groups k
put-has true f t k apart = rw (get-put t.groups f.group k f.buckets) (grind (arith, nat_tests))
put-has false f t k apart = refl

put-exchange : (a b : Bool) (f g : GroupValue) → f.group ≢ g.group → (t : Tables) → put b g (put a f t) ≡ put a f (put b g t)
put-exchange true true f g apart t = λ i. record t { groups = insert-exchange t.groups f.group g.group f.buckets g.buckets apart i }
put-exchange true false f g apart t = refl
put-exchange false true f g apart t = refl
put-exchange false false f g apart t = refl

-- whether the command puts buckets where there is a group or none
abbrev puts : GroupCommand → Bool → Bool
puts Add has = not has
puts Modify has = has
puts Delete has = false

puts-is : (c : GroupCommand) (g : GroupValue) (t : Tables) → c ≢ Delete → changes_groups c g t ≡ put (puts c (contains_key t.groups g.group)) g t
puts-is Add g t h = by (contains_key t.groups g.group)
  where
    by : (b : Bool) → (if b then t else record t { groups = insert t.groups g.group g.buckets }) ≡ put (not b) g t
    by true = refl
    by false = refl
puts-is Modify g t h = refl
puts-is Delete g t h = absurd (h refl)

-- whether the message puts buckets into these tables
abbrev puts_into : GroupValue → Tables → Bool
puts_into g t = puts g.command (contains_key t.groups g.group)

put_both : (f g : GroupValue) → f.command ≢ Delete → g.command ≢ Delete → f.group ≢ g.group → (t : Tables) →
    changes_groups g.command g (changes_groups f.command f t) ≡ put (puts_into g t) g (put (puts_into f t) f t)
put_both f g isf isg apart t =
    ap (changes_groups g.command g) (puts-is f.command f t isf)
    ∙ puts-is g.command g (put (puts_into f t) f t) isg
    ∙ ap (λ has. put (puts g.command has) g (put (puts_into f t) f t)) (put-has (puts_into f t) f t g.group apart)

pub put-put : (f g : GroupValue) → f.command ≢ Delete → g.command ≢ Delete → f.group ≢ g.group → Commute (Group f) (Group g)
put-put f g isf isg apart t = same-equal _ _
    (put_both f g isf isg apart t ∙ put-exchange (puts_into f t) (puts_into g t) f g apart t ∙ sym (put_both g f isg isf (λ e. apart (sym e)) t))

-- whether deleting the group of this number hits number n
abbrev is_hit : ℕ → ℕ → Bool
is_hit number n = if number == ALL_GROUPS then true else n == number

get-removed : (groups : Groups) (k q : ℕ) → get (removed_from groups k) q ≡ (if is_hit k q then None else get groups q)
get-removed groups k q = by (k == ALL_GROUPS)
  where
    by : (b : Bool) → get (if b then no_groups else remove groups k) q ≡ (if (if b then true else q == k) then None else get groups q)
    by true = get-empty nat_cmp q
    by false = get-remove nat_cmp_total groups k q ∙ ap (λ b. cond b None (get groups q)) (unsigned_tied q k)

nothing-exchange : {X : Type 0} (a b : Bool) (o : Option X) → (if b then None else if a then None else o) ≡ (if a then None else if b then None else o)
nothing-exchange true true o = refl
nothing-exchange true false o = refl
nothing-exchange false true o = refl
nothing-exchange false false o = refl

removed-exchange : (groups : Groups) (j k : ℕ) → removed_from (removed_from groups j) k ≡ removed_from (removed_from groups k) j
removed-exchange groups j k = same_map nat_cmp_total nat_cmp-IsAntisymmetric _ _ at
  where
    twice : (a b q : ℕ) → get (removed_from (removed_from groups a) b) q ≡ (if is_hit b q then None else if is_hit a q then None else get groups q)
    twice a b q = get-removed (removed_from groups a) b q ∙ ap (λ o. if is_hit b q then None else o) (get-removed groups a q)

    at : (q : ℕ) → get (removed_from (removed_from groups j) k) q ≡ get (removed_from (removed_from groups k) j) q
    at q = twice j k q ∙ nothing-exchange (is_hit j q) (is_hit k q) (get groups q) ∙ sym (twice k j q)

-- whether one of two deletions removes the group with number n
abbrev is_removed_by_one : Groups → ℕ → ℕ → ℕ → Bool
is_removed_by_one groups j k n = contains_key groups n && (is_hit j n || is_hit k n)

one_of_two : (a b : Bool) (o : Option (List (List Action))) → (is_some o && a) || (is_some (if a then None else o) && b) ≡ is_some o && (a || b)
one_of_two true true None = refl
one_of_two true false None = refl
one_of_two false b None = refl
one_of_two true b (Some x) = refl
one_of_two false b (Some x) = refl

removed_by_one : (groups : Groups) (j k n : ℕ) → is_removed groups j n || is_removed (removed_from groups j) k n ≡ is_removed_by_one groups j k n
removed_by_one groups j k n =
    ap (λ o. is_removed groups j n || (is_some o && is_hit k n)) (get-removed groups j n) ∙ one_of_two (is_hit j n) (is_hit k n) (get groups n)

-- two disjunctions of two conditions each, grouped anew
pub regrouped : (a b c d : Bool) → (a || b) || (c || d) ≡ (a || c) || (b || d)
regrouped true b c d = refl
regrouped false true true d = refl
regrouped false true false d = refl
regrouped false false c d = refl

list_any-or : {A : Type 0} (p q : A → Bool) (xs : List A) → list_any p xs || list_any q xs ≡ list_any (λ x. p x || q x) xs
list_any-or p q [] = refl
list_any-or p q (x ∷ xs) = regrouped (p x) (list_any p xs) (q x) (list_any q xs) ∙ ap (λ b. (p x || q x) || b) (list_any-or p q xs)

neither : (a b : Bool) → not a && not b ≡ not (a || b)
neither true b = refl
neither false b = refl

-- the entries that name no group that one of two deletions removes
abbrev left_by_two : Groups → ℕ → ℕ → List Entry → List Entry
left_by_two groups j k entries = filter (λ e. not (list_any (is_removed_by_one groups j k) (groups_named e.actions))) entries

left-left : (groups : Groups) (j k : ℕ) (xs : List Entry) →
    filter (λ e. not (list_any (is_removed (removed_from groups j) k) (groups_named e.actions)))
    (filter (λ e. not (list_any (is_removed groups j) (groups_named e.actions))) xs) ≡ left_by_two groups j k xs
left-left groups j k xs = filter-filter _ _ xs ∙ ap (λ test. filter test xs) (λ i e. named (groups_named e.actions) i)
  where
    named : (ns : List ℕ) → not (list_any (is_removed groups j) ns) && not (list_any (is_removed (removed_from groups j) k) ns)
        ≡ not (list_any (is_removed_by_one groups j k) ns)
    named ns = neither (list_any (is_removed groups j) ns) (list_any (is_removed (removed_from groups j) k) ns)
        ∙ ap not (list_any-or (is_removed groups j) (is_removed (removed_from groups j) k) ns
        ∙ ap (λ test. list_any test ns) (λ i n. removed_by_one groups j k n i))

left_by_two-comm : (groups : Groups) (j k : ℕ) (xs : List Entry) → left_by_two groups j k xs ≡ left_by_two groups k j xs
left_by_two-comm groups j k xs =
    λ i. filter (λ e. not (list_any (λ n. contains_key groups n && or_comm (is_hit j n) (is_hit k n) i) (groups_named e.actions))) xs

deletes-exchange : (f g : GroupValue) (t : Tables) → changes_groups Delete g (changes_groups Delete f t) ≡ changes_groups Delete f (changes_groups Delete g t)
deletes-exchange f g t =
    let entries = left-left t.groups f.group g.group t.entries ∙ left_by_two-comm t.groups f.group g.group t.entries
    ∙ sym (left-left t.groups g.group f.group t.entries) in
    λ i. record { entries = entries i; groups = removed-exchange t.groups f.group g.group i }

pub delete-delete : (f g : GroupValue) → f.command ≡ Delete → g.command ≡ Delete → Commute (Group f) (Group g)
delete-delete f g isf isg t = rw (isf, isg) (same-equal _ _ (deletes-exchange f g t))
