-- Blocks of messages that are free of order, and what a block of Adds leaves.
use Rattle.std.proofs.Common.{◌≡◌, ◌≢◌, ℕ, Bool, true, false, cond, not, List, [], ◌∷◌, ◌++◌, ◌&&◌, ◌==◌, map, filter, nat_eq, refl, sym}
use Rattle.std.proofs.Common.{ap, subst, ◌∙◌, append_assoc, append-nil, arith, eqb-true, if◌then◌else◌}
use Rattle.std.proofs.lemmas.Bool.Decides.{nat_tests}
use Rattle.std.specs.List.{AllByRecursion, IsDistinct, list_all}
use Rattle.std.specs.FinMap.{contains_key}
use Rattle.pq_model.specs.declared.flow_mod.FlowCommand.TheVariants.{Add}
use Rattle.pq_model.specs.declared.group_mod.GroupCommand.TheVariants.{Delete}
use Rattle.pq_model.specs.declared.message.Message.{Message}
use Rattle.pq_model.specs.declared.message.Message.TheVariants.{Flow, Group, Barrier}
use Rattle.pq_model.specs.MatchFields.{same_match}
use Rattle.pq_model.specs.Mods.{FlowValue, GroupValue}
use Rattle.pq_model.specs.SwitchMachine.{Entry, Tables, entry_of, is_placed, groups_named, changes_entries, applies_all}
use Rattle.pq_model.specs.Orders.{AreApart, CommutesUpToBarrier, HaveOwnPriorities, IsFreeOfOrder}
use Rattle.pq_model.proofs.Reorderings.{all-at}
use Rattle.pq_model.proofs.CommutingFlows.{add-add, delete-delete, delete-group}
use Rattle.pq_model.proofs.CommutingGroups.{put-put, delete-delete as group_delete-delete}

module _ (xid : ℕ) (ms : List Message) where
  commutes-parted : (m : Message) (block : List Message) → CommutesUpToBarrier m block → CommutesUpToBarrier m (block ++ Barrier xid ∷ ms)
  commutes-parted m [] h = tt
  commutes-parted m (Flow f ∷ block) (here, rest) = (here, commutes-parted m block rest)
  commutes-parted m (Group g ∷ block) (here, rest) = (here, commutes-parted m block rest)
  commutes-parted m (Barrier x ∷ block) h = tt

  pub free-parted : (block : List Message) → IsFreeOfOrder block → IsFreeOfOrder ms → IsFreeOfOrder (block ++ Barrier xid ∷ ms)
  free-parted [] block rest = rest
  free-parted (Flow f ∷ block) (here, more) rest = (commutes-parted (Flow f) block here, free-parted block more rest)
  free-parted (Group g ∷ block) (here, more) rest = (commutes-parted (Group g) block here, free-parted block more rest)
  free-parted (Barrier x ∷ block) more rest = free-parted block more rest

-- entries that are apart have different places
pub apart-placed : (f : FlowValue) (e : Entry) → AreApart (entry_of f) e → is_placed f e ≡ false
apart-placed f e apart = by (e.table == f.table) (e.priority == f.priority) refl refl
  where
    by : (a b : Bool) → (e.table == f.table) ≡ a → (e.priority == f.priority) ≡ b → a && b && same_match e.matching f.matching ≡ false
    by true true h k = absurd (apart (sym (eqb-true e.table f.table h)) (sym (eqb-true e.priority f.priority k)))
    by true false h k = refl
    by false b h k = refl

adds-commute : (f : FlowValue) → f.command ≡ Add → (fs : List FlowValue) → AllByRecursion (λ g. g.command ≡ Add) fs
    → AllByRecursion (AreApart (entry_of f)) (map entry_of fs) → CommutesUpToBarrier (Flow f) (map Flow fs)
adds-commute f is [] all apart = tt
adds-commute f is (g ∷ fs) (add, adds) (here, rest) = (add-add f g is add (apart-placed f (entry_of g) here), adds-commute f is fs adds rest)

pub adds-free : (fs : List FlowValue) → AllByRecursion (λ f. f.command ≡ Add) fs → HaveOwnPriorities (map entry_of fs) → IsFreeOfOrder (map Flow fs)
adds-free [] all own = tt
adds-free (f ∷ fs) (is, all) (apart, own) = (adds-commute f is fs all apart, adds-free fs all own)

puts-commute : (f : GroupValue) → f.command ≢ Delete → (gs : List GroupValue) → AllByRecursion (λ g. g.command ≢ Delete) gs
    → AllByRecursion (λ n. (f.group == n) ≡ false) (map (λ g. g.group) gs) → CommutesUpToBarrier (Group f) (map Group gs)
puts-commute f is [] all apart = tt
puts-commute f is (g ∷ gs) (put, puts) (here, rest) = (put-put f g is put (λ e. grind (arith, nat_tests)), puts-commute f is gs puts rest)

pub puts-free : (gs : List GroupValue) → AllByRecursion (λ g. g.command ≢ Delete) gs → IsDistinct nat_eq (map (λ g. g.group) gs) → IsFreeOfOrder (map Group gs)
unfolding IsDistinct
puts-free [] all own = tt
puts-free (g ∷ gs) (is, all) (apart, own) = (puts-commute g is gs all apart, puts-free gs all own)

module _ (gs : List GroupValue) where
  delete-commutes : (f : FlowValue) → f.command ≢ Add → (fs : List FlowValue) → AllByRecursion (λ g. g.command ≢ Add) fs
      → CommutesUpToBarrier (Flow f) (map Flow fs ++ map Group gs)
  delete-commutes f is [] none = with_groups gs
    where
      with_groups : (hs : List GroupValue) → CommutesUpToBarrier (Flow f) (map Group hs)
      with_groups [] = tt
      with_groups (h ∷ hs) = (delete-group f h is, with_groups hs)
  delete-commutes f is (g ∷ fs) (here, rest) = (delete-delete f g is here, delete-commutes f is fs rest)

group-commutes : (g : GroupValue) → g.command ≡ Delete → (gs : List GroupValue) → AllByRecursion (λ h. h.command ≡ Delete) gs
    → CommutesUpToBarrier (Group g) (map Group gs)
group-commutes g is [] all = tt
group-commutes g is (h ∷ gs) (here, rest) = (group_delete-delete g h is here, group-commutes g is gs rest)

group_deletes-free : (gs : List GroupValue) → AllByRecursion (λ g. g.command ≡ Delete) gs → IsFreeOfOrder (map Group gs)
group_deletes-free [] all = tt
group_deletes-free (g ∷ gs) (here, rest) = (group-commutes g here gs rest, group_deletes-free gs rest)

pub deletes-free : (fs : List FlowValue) (gs : List GroupValue) → AllByRecursion (λ f. f.command ≢ Add) fs
    → AllByRecursion (λ g. g.command ≡ Delete) gs → IsFreeOfOrder (map Flow fs ++ map Group gs)
deletes-free [] gs none all = group_deletes-free gs all
deletes-free (f ∷ fs) gs (is, none) all = (delete-commutes gs f is fs none, deletes-free fs gs none all)

-- what Adds leave

filter-apart : (f : FlowValue) (xs ys : List Entry) → HaveOwnPriorities (xs ++ entry_of f ∷ ys) → filter (λ e. not (is_placed f e)) xs ≡ xs
filter-apart f [] ys own = refl
filter-apart f (x ∷ xs) ys (apart, own) =
    let there = all-at (AreApart x) (entry_of f) xs ys apart in
    ap (λ b. cond (not b) (x ∷ filter (λ e. not (is_placed f e)) xs) (filter (λ e. not (is_placed f e)) xs)) (apart-placed f x (λ e p. there (sym e) (sym p)))
    ∙ ap (λ l. x ∷ l) (filter-apart f xs ys own)

pub adds-leave : (fs : List FlowValue) (t : Tables) → AllByRecursion (λ f. f.command ≡ Add) fs
    → AllByRecursion (λ f. list_all (contains_key t.groups) (groups_named f.actions) ≡ true) fs →
    HaveOwnPriorities (t.entries ++ map entry_of fs) → applies_all t (map Flow fs) ≡ record t { entries = t.entries ++ map entry_of fs }
adds-leave [] t all there own = λ i. record t { entries = sym (append-nil t.entries) i }
adds-leave (f ∷ fs) t (is, all) (here, there) own =
    ap (λ s. applies_all s (map Flow fs)) one
    ∙ adds-leave fs (record t { entries = t.entries ++ entry_of f ∷ [] }) all there
    (subst HaveOwnPriorities (sym (append_assoc t.entries (entry_of f ∷ []) (map entry_of fs))) own)
    ∙ (λ i. record t { entries = append_assoc t.entries (entry_of f ∷ []) (map entry_of fs) i })
  where
    one : changes_entries f.command f t ≡ record t { entries = t.entries ++ entry_of f ∷ [] }
    one = ap (λ c. changes_entries c f t) is
        ∙ ap (λ b. if b then record t { entries = filter (λ e. not (is_placed f e)) t.entries ++ entry_of f ∷ [] } else t) here
        ∙ (λ i. record t { entries = filter-apart f t.entries (map entry_of fs) own i ++ entry_of f ∷ [] })
