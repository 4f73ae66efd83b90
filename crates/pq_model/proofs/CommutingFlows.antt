-- Messages on entries that leave the same tables in either order.
use Rattle.std.proofs.Common.{◌≡◌, ◌≢◌, ℕ, Bool, true, false, not, List, [], ◌∷◌, ◌++◌, ◌&&◌, ◌==◌, if◌then◌else◌, filter, refl, sym, ap}
use Rattle.std.proofs.Common.{subst₂, ◌∙◌, append_assoc, arith}
use Rattle.std.proofs.lemmas.Bool.Decides.{nat_tests}
use Rattle.std.specs.List.{list_all, list_any}
use Rattle.std.specs.FinMap.{contains_key, insert}
use Rattle.std.specs.declared.option.Option.{Option}
use Rattle.std.specs.declared.option.Option.TheVariants.{None, Some}
use Rattle.pq_model.specs.declared.flow_mod.FlowCommand.{FlowCommand}
use Rattle.pq_model.specs.declared.group_mod.GroupCommand.{GroupCommand}
use Rattle.pq_model.specs.declared.flow_mod.FlowCommand.TheVariants.{Add, DeleteAll, DeleteStrict}
use Rattle.pq_model.specs.declared.group_mod.GroupCommand.TheVariants.{Add as AddGroup, Modify, Delete}
use Rattle.pq_model.specs.declared.message.Message.{Message}
use Rattle.pq_model.specs.declared.message.Message.TheVariants.{Flow, Group}
use Rattle.pq_model.specs.MatchFields.{MatchFields, same_number, same_masked, same_match}
use Rattle.pq_model.specs.Mods.{FlowValue, GroupValue}
use Rattle.pq_model.specs.SwitchMachine.{Entry, Groups, Tables, entry_of, is_placed, groups_named, is_removed, removed_from}
use Rattle.pq_model.specs.SwitchMachine.{changes_entries, changes_groups, applies}
use Rattle.pq_model.specs.Orders.{IsReordering, AreSame, Commute}
use Rattle.pq_model.proofs.Filters.{filter-exchange, filter-end, filter-none}
use Rattle.pq_model.proofs.Reorderings.{reordering-exchange}
use Rattle.pq_model.proofs.SameTables.{same-refl, same-sym, same-equal}

pub commute-sym : (m n : Message) → Commute m n → Commute n m
commute-sym m n h t = same-sym (applies (applies t m) n) (applies (applies t n) m) (h t)

-- an entry stays in the place of another match
abbrev stays : FlowValue → Entry → Bool
stays f e = not (is_placed f e)

same_number-comm : (m n : Option ℕ) → same_number m n ≡ same_number n m
same_number-comm None None = refl
same_number-comm None (Some n) = refl
same_number-comm (Some m) None = refl
same_number-comm (Some m) (Some n) = grind (arith, nat_tests)

same_masked-comm : (a b : Option (ℕ × ℕ)) → same_masked a b ≡ same_masked b a
same_masked-comm None None = refl
same_masked-comm None (Some b) = refl
same_masked-comm (Some a) None = refl
same_masked-comm (Some a) (Some b) = grind (arith, nat_tests)

same_match-comm : (m n : MatchFields) → same_match m n ≡ same_match n m
unfolding same_match
same_match-comm m n i =
    same_number-comm m.in_port n.in_port i && same_number-comm m.vlan n.vlan i
    && same_number-comm m.eth_type n.eth_type i && same_number-comm m.ip_proto n.ip_proto i
    && same_number-comm m.eth_src n.eth_src i && same_number-comm m.eth_dst n.eth_dst i
    && same_masked-comm m.ipv4_src n.ipv4_src i && same_masked-comm m.ipv4_dst n.ipv4_dst i
    && same_number-comm m.tcp_src n.tcp_src i && same_number-comm m.tcp_dst n.tcp_dst i
    && same_number-comm m.udp_src n.udp_src i && same_number-comm m.udp_dst n.udp_dst i
    && same_masked-comm m.ipv6_src n.ipv6_src i && same_masked-comm m.ipv6_dst n.ipv6_dst i

pub equal-comm : (a b : ℕ) → (a == b) ≡ (b == a)
equal-comm a b = grind (arith, nat_tests)

is_placed-comm : (f g : FlowValue) → is_placed f (entry_of g) ≡ is_placed g (entry_of f)
is_placed-comm f g i = equal-comm g.table f.table i && equal-comm g.priority f.priority i && same_match-comm g.matching f.matching i

-- the tables after an Add, where the groups that it names are there or are not
abbrev added : Bool → FlowValue → Tables → Tables
added b f t = if b then record t { entries = filter (stays f) t.entries ++ entry_of f ∷ [] } else t

added-groups : (b : Bool) (f : FlowValue) (t : Tables) → (added b f t).groups ≡ t.groups
added-groups true f t = refl
added-groups false f t = refl

added-both : (f g : FlowValue) (xs : List Entry) → is_placed g (entry_of f) ≡ false →
    filter (stays g) (filter (stays f) xs ++ entry_of f ∷ []) ++ entry_of g ∷ [] ≡ filter (stays g) (filter (stays f) xs) ++ entry_of f ∷ entry_of g ∷ []
added-both f g xs h =
    ap (λ l. l ++ entry_of g ∷ []) (filter-end (stays g) (filter (stays f) xs) (entry_of f) (ap not h))
    ∙ append_assoc (filter (stays g) (filter (stays f) xs)) (entry_of f ∷ []) (entry_of g ∷ [])

added-exchange : (a b : Bool) (f g : FlowValue) → is_placed f (entry_of g) ≡ false → (t : Tables) → AreSame (added b g (added a f t)) (added a f (added b g t))
added-exchange true true f g h t = record {
  entries = subst₂ IsReordering (sym (added-both f g t.entries (sym (is_placed-comm f g) ∙ h)))
      (ap (λ l. l ++ entry_of g ∷ entry_of f ∷ []) (filter-exchange (stays g) (stays f) t.entries) ∙ sym (added-both g f t.entries h))
      (reordering-exchange (filter (stays g) (filter (stays f) t.entries)) (entry_of f) (entry_of g));
  groups = refl;
}
added-exchange true false f g h t = same-refl (added true f t)
added-exchange false true f g h t = same-refl (added true g t)
added-exchange false false f g h t = same-refl t

-- whether all the groups are there that the actions name
abbrev has_named : FlowValue → Groups → Bool
has_named f groups = list_all (contains_key groups) (groups_named f.actions)

adds-exchange : (f g : FlowValue) → is_placed f (entry_of g) ≡ false → (t : Tables)
    → AreSame (changes_entries Add g (changes_entries Add f t)) (changes_entries Add f (changes_entries Add g t))
adds-exchange f g h t =
    let a = has_named f t.groups in
    let b = has_named g t.groups in
    subst₂ (λ c d. AreSame (added d g (added a f t)) (added c f (added b g t)))
    (ap (has_named f) (sym (added-groups b g t))) (ap (has_named g) (sym (added-groups a f t)))
    (added-exchange a b f g h t)

pub add-add : (f g : FlowValue) → f.command ≡ Add → g.command ≡ Add → is_placed f (entry_of g) ≡ false → Commute (Flow f) (Flow g)
add-add f g isf isg h t =
    subst₂ (λ c d. AreSame (changes_entries d g (changes_entries c f t)) (changes_entries c f (changes_entries d g t))) (sym isf) (sym isg)
    (adds-exchange f g h t)

-- the entries that a delete leaves
abbrev is_left : FlowCommand → FlowValue → Entry → Bool
is_left Add f e = true
is_left DeleteAll f e = false
is_left DeleteStrict f e = stays f e

abbrev with_left : (Entry → Bool) → Tables → Tables
with_left test t = record t { entries = filter test t.entries }

pub deletes : (c : FlowCommand) (f : FlowValue) (t : Tables) → c ≢ Add → changes_entries c f t ≡ with_left (is_left c f) t
deletes Add f t h = absurd (h refl)
deletes DeleteAll f t h = λ i. record t { entries = filter-none t.entries i }
deletes DeleteStrict f t h = refl

pub delete-delete : (f g : FlowValue) → f.command ≢ Add → g.command ≢ Add → Commute (Flow f) (Flow g)
delete-delete f g isf isg t = same-equal _ _ (both f g isf isg ∙ exchanged ∙ sym (both g f isg isf))
  where
    both : (d e : FlowValue) → d.command ≢ Add → e.command ≢ Add
        → changes_entries e.command e (changes_entries d.command d t) ≡ with_left (is_left e.command e) (with_left (is_left d.command d) t)
    both d e isd ise = ap (changes_entries e.command e) (deletes d.command d t isd) ∙ deletes e.command e (with_left (is_left d.command d) t) ise

    exchanged : with_left (is_left g.command g) (with_left (is_left f.command f) t) ≡ with_left (is_left f.command f) (with_left (is_left g.command g) t)
    exchanged = λ i. record t { entries = filter-exchange (is_left g.command g) (is_left f.command f) t.entries i }

left-group : (test : Entry → Bool) (c : GroupCommand) (g : GroupValue) (t : Tables)
    → changes_groups c g (with_left test t) ≡ with_left test (changes_groups c g t)
left-group test AddGroup g t = by (contains_key t.groups g.group)
  where
    by : (b : Bool) → (if b then with_left test t else record (with_left test t) { groups = insert t.groups g.group g.buckets })
        ≡ with_left test (if b then t else record t { groups = insert t.groups g.group g.buckets })
    by true = refl
    by false = refl
left-group test Modify g t = by (contains_key t.groups g.group)
  where
    by : (b : Bool) → (if b then record (with_left test t) { groups = insert t.groups g.group g.buckets } else with_left test t)
        ≡ with_left test (if b then record t { groups = insert t.groups g.group g.buckets } else t)
    by true = refl
    by false = refl
left-group test Delete g t = λ i. record {
  entries = filter-exchange (λ e. not (list_any (is_removed t.groups g.group) (groups_named e.actions))) test t.entries i;
  groups = removed_from t.groups g.group;
}

pub delete-group : (f : FlowValue) (g : GroupValue) → f.command ≢ Add → Commute (Flow f) (Group g)
delete-group f g isf t = same-equal _ _
    (ap (changes_groups g.command g) (deletes f.command f t isf) ∙ left-group (is_left f.command f) g.command g t
    ∙ sym (deletes f.command f (changes_groups g.command g t) isf))

strict-added : (b : Bool) (f g : FlowValue) (t : Tables) → is_placed g (entry_of f) ≡ false
    → with_left (stays g) (added b f t) ≡ added b f (with_left (stays g) t)
strict-added true f g t h = λ i. record t {
  entries = (filter-end (stays g) (filter (stays f) t.entries) (entry_of f) (ap not h)
      ∙ ap (λ l. l ++ entry_of f ∷ []) (filter-exchange (stays g) (stays f) t.entries)) i;
}
strict-added false f g t h = refl

pub add-strict : (f g : FlowValue) → f.command ≡ Add → g.command ≡ DeleteStrict → is_placed g (entry_of f) ≡ false → Commute (Flow f) (Flow g)
add-strict f g isf isg h t = rw (isf, isg) (same-equal _ _ (strict-added (has_named f t.groups) f g t h))
