-- Entries under their places, when one is added or some are taken out.
use Rattle.std.proofs.Common.{◌≡◌, ℕ, ◌+◌, ◌<◌, Bool, true, false, not, cond, List, [], ◌∷◌, ◌++◌, refl, sym, ap, subst, ◌∙◌, arith}
use Rattle.std.proofs.lemmas.Bool.Decides.{nat_tests}
use Rattle.std.specs.declared.cmp.Ordering.TheVariants.{Equal}
use Rattle.std.specs.declared.option.Option.TheVariants.{None}
use Rattle.std.specs.Cmp.{alike_right, tied_itself}
use Rattle.std.specs.List.{AllByRecursion, filter}
use Rattle.std.specs.List.Sorted.{IsStrictlySortedBy}
use Rattle.std.specs.Map.{keys_of, lookup, remove_entry, values_of}
use Rattle.std.specs.BTreeMap.{BTreeMap, get_by, insert_entry, is_at}
use Rattle.std.specs.Ordering.{is_eq}
use Rattle.std.proofs.lemmas.List.{map-append}
use Rattle.pq_lists.proofs.Holding.{all_filter, all_weaker, all_push}
use Rattle.pq_fields.specs.Packet.{is_before}
use Rattle.pq_model.specs.Mods.{FlowValue}
use Rattle.pq_model.specs.SwitchMachine.{Entry, entry_of, is_placed}
use Rattle.pq_model.proofs.Sorted.{sort-all}
use Rattle.pq_switch.specs.Added.{AreKept, Climbs, IsKept, entries_of, in_turn, place_in, turn}
use Rattle.pq_switch.specs.Places.{place_cmp, place_of}
use Rattle.pq_switch.specs.declared.entry.Slot.{Slot}
use Rattle.pq_switch.specs.declared.place.Place.{Place}
use Rattle.pq_switch.proofs.Places.{place_cmp_total, placed-equal}
use Rattle.pq_switch.proofs.Rows.{Tells, all-insert, all-remove, parts, removed, values-filter}
use Rattle.pq_switch.proofs.SortedParts.{sort-filter, sort-greatest}

climbs-filter : (p : Slot → Bool) (slots : List Slot) → Climbs slots → Climbs (filter p slots)
climbs-filter p [] climb = tt
climbs-filter p (s ∷ slots) (above, climb) = by (p s) (climbs-filter p slots climb)
  where
    by : (b : Bool) → Climbs (filter p slots) → Climbs (cond b (s ∷ filter p slots) (filter p slots))
    by true more = (all_filter (λ t. s.sequence < t.sequence) p slots above, more)
    by false more = more

entries-filter : (q : Entry → Bool) (slots : List Slot) → entries_of (filter (λ s. q s.entry) slots) ≡ filter q (entries_of slots)
entries-filter q [] = refl
entries-filter q (s ∷ slots) = by (q s.entry) (entries-filter q slots)
  where
    by : (b : Bool) → entries_of (filter (λ t. q t.entry) slots) ≡ filter q (entries_of slots)
        → entries_of (cond b (s ∷ filter (λ t. q t.entry) slots) (filter (λ t. q t.entry) slots))
        ≡ cond b (s.entry ∷ filter q (entries_of slots)) (filter q (entries_of slots))
    by true more = ap (λ l. s.entry ∷ l) more
    by false more = more

-- what is left of entries of which some are taken out
pub thinned : (q : Entry → Bool) (old new : List (Place × Slot)) → values_of new ≡ filter (λ s. q s.entry) (values_of old)
    → entries_of (in_turn (values_of new)) ≡ filter q (entries_of (in_turn (values_of old)))
thinned q old new is =
    ap (λ l. entries_of (in_turn l)) is ∙ ap entries_of (sort-filter turn (λ s. q s.entry) (values_of old)) ∙ entries-filter q (in_turn (values_of old))

pub thinned-climb : (p : Slot → Bool) (old new : List (Place × Slot)) → values_of new ≡ filter p (values_of old)
    → Climbs (in_turn (values_of old)) → Climbs (in_turn (values_of new))
thinned-climb p old new is climb = subst Climbs (sym (ap in_turn is ∙ sort-filter turn p (values_of old))) (climbs-filter p (in_turn (values_of old)) climb)

-- a test of every kept row is one of the values
values-early : (next : ℕ) (es : List (Place × Slot)) → AllByRecursion (IsKept next) es → AllByRecursion (λ t. t.sequence < next) (values_of es)
values-early next [] all = tt
values-early next (e ∷ es) (here, all) = (here.early, values-early next es all)

climbs-push : (slots : List Slot) (s : Slot) → Climbs slots → AllByRecursion (λ t. t.sequence < s.sequence) slots → Climbs (slots ++ s ∷ [])
climbs-push [] s climb below = (tt, tt)
climbs-push (t ∷ slots) s (above, climb) (here, below) = (all_push (λ u. t.sequence < u.sequence) slots s above here, climbs-push slots s climb below)

module _ (f : FlowValue) (next : ℕ) (small : f.priority < 0x10000) where
  -- the place of an entry of this flow mod
  abbrev pub placed_at : Place
  placed_at = place_of f.table f.matching f.priority

  abbrev pub stays : Slot → Bool
  stays s = not (is_placed f s.entry)

  kept-tells : (es : List (Place × Slot)) → AllByRecursion (IsKept next) es → Tells place_cmp placed_at stays es
  kept-tells [] all = tt
  kept-tells (e ∷ es) (here, all) = (
    ap not (sym (placed-equal f e.1.entry small here.priority)
        ∙ ap is_eq (alike_right place_cmp_total (place_in e.1.entry) e.0 placed_at here.place)),
    kept-tells es all,
  )

  -- what is left when the entry of this place is taken out
  pub removed-values : (es : List (Place × Slot)) → AreKept next es
      → lookup (is_at (place_cmp placed_at)) (remove_entry (is_at (place_cmp placed_at)) es) ≡ None →
      values_of (remove_entry (is_at (place_cmp placed_at)) es) ≡ filter stays (values_of es)
  removed-values es kept none = removed place_cmp placed_at stays es (kept-tells es kept.each) none

  module _ (s : Slot) (is : s.entry ≡ entry_of f) (last : s.sequence ≡ next) (es : List (Place × Slot)) (kept : AreKept next es)
      (sorted : IsStrictlySortedBy place_cmp (keys_of es)) where
    abbrev new : List (Place × Slot)
    new = insert_entry place_cmp es placed_at s

    below-last : (t : Slot) → t.sequence < next → t.sequence < s.sequence
    below-last t h = omega (arith, last)

    before-last : (t : Slot) → t.sequence < next → is_before (turn t) (turn s) ≡ true
    before-last t h = let k = below-last t h in grind (arith, nat_tests)

    in_turn-added : in_turn (values_of new) ≡ filter stays (in_turn (values_of es)) ++ s ∷ []
    in_turn-added =
        let p = parts place_cmp placed_at stays place_cmp_total s es (kept-tells es kept.each) sorted in
        let before = all_weaker (λ t. t.sequence < next) (λ t. is_before (turn t) (turn s) ≡ true) before-last (values_of es)
        (values-early next es kept.each) in
        ap in_turn p.is
        ∙ sort-greatest turn p.front s p.back
        (subst (AllByRecursion (λ t. is_before (turn t) (turn s) ≡ true)) p.rest
        (all_filter (λ t. is_before (turn t) (turn s) ≡ true) stays (values_of es) before))
        ∙ ap (λ l. in_turn l ++ s ∷ []) (sym p.rest) ∙ ap (λ l. l ++ s ∷ []) (sort-filter turn stays (values_of es))

    -- the entry is last, and the one of its place is gone
    pub added : entries_of (in_turn (values_of new)) ≡ filter (λ e. not (is_placed f e)) (entries_of (in_turn (values_of es))) ++ entry_of f ∷ []
    added = ap entries_of in_turn-added ∙ map-append (λ t. t.entry) (filter stays (in_turn (values_of es))) (s ∷ [])
        ∙ (λ i. entries-filter (λ e. not (is_placed f e)) (in_turn (values_of es)) i ++ is i ∷ [])

    pub added-kept : AreKept (next + 1) new
    added-kept = record {
      each = all-insert place_cmp placed_at (IsKept (next + 1)) s (at placed_at (tied_itself place_cmp_total placed_at)) es
          (all_weaker (IsKept next) (IsKept (next + 1))
          (λ r k. record { place = k.place; priority = k.priority; early = later r.1.sequence k.early }) es kept.each) at;
      climb = subst Climbs (sym in_turn-added) (climbs-push (filter stays (in_turn (values_of es))) s (climbs-filter stays (in_turn (values_of es)) kept.climb)
          (all_filter (λ t. t.sequence < s.sequence) stays (in_turn (values_of es))
          (sort-all turn (λ t. t.sequence < s.sequence) (values_of es)
          (all_weaker (λ t. t.sequence < next) (λ t. t.sequence < s.sequence) below-last (values_of es)
          (values-early next es kept.each)))));
    }
      where
        later : (n : ℕ) → n < next → n < next + 1
        later n h = omega arith

        at : (q : Place) → place_cmp placed_at q ≡ Equal → IsKept (next + 1) (q, s)
        at q e = record {
          place = ap (λ d. place_cmp (place_in d) q) is ∙ e;
          priority = subst (λ d. d.priority < 0x10000) (sym is) small;
          early = omega (arith, last);
        }

module _ (f : FlowValue) (next : ℕ) (small : f.priority < 0x10000) (p : Place) (at : p ≡ place_of f.table f.matching f.priority)
    (old new : BTreeMap Place Slot) (kept : AreKept next old.entries) where
  abbrev pub q : Entry → Bool
  q e = not (is_placed f e)

  module _ (is : new.entries ≡ remove_entry (is_at (place_cmp p)) old.entries) (gone : get_by (place_cmp p) new ≡ None) where
    left : values_of new.entries ≡ filter (λ s. q s.entry) (values_of old.entries)
    left =
        let none = subst (λ r. lookup (is_at (place_cmp r)) (remove_entry (is_at (place_cmp r)) old.entries) ≡ None) at
        (subst (λ es. lookup (is_at (place_cmp p)) es ≡ None) is gone) in
        ap values_of (is ∙ ap (λ r. remove_entry (is_at (place_cmp r)) old.entries) at) ∙ removed-values f next small old.entries kept none

    pub taken_out : entries_of (in_turn (values_of new.entries)) ≡ filter q (entries_of (in_turn (values_of old.entries)))
    taken_out = thinned q old.entries new.entries left

    pub taken_out-kept : AreKept next new.entries
    taken_out-kept = record {
      each = subst (AllByRecursion (IsKept next)) (sym is) (all-remove (IsKept next) (is_at (place_cmp p)) old.entries kept.each);
      climb = thinned-climb (λ s. q s.entry) old.entries new.entries left kept.climb;
    }

  module _ (s : Slot) (entry : s.entry ≡ entry_of f) (last : s.sequence ≡ next)
      (sorted : IsStrictlySortedBy place_cmp (keys_of old.entries)) (is : new.entries ≡ insert_entry place_cmp old.entries p s) where
    grown : new.entries ≡ insert_entry place_cmp old.entries (place_of f.table f.matching f.priority) s
    grown = is ∙ ap (λ r. insert_entry place_cmp old.entries r s) at

    pub put_in : entries_of (in_turn (values_of new.entries)) ≡ filter q (entries_of (in_turn (values_of old.entries))) ++ entry_of f ∷ []
    put_in = ap (λ es. entries_of (in_turn (values_of es))) grown ∙ added f next small s entry last old.entries kept sorted

    pub put_in-kept : AreKept (next + 1) new.entries
    put_in-kept = subst (AreKept (next + 1)) (sym grown) (added-kept f next small s entry last old.entries kept sorted)

-- what is left where a test of the entries decides
pub kept_where : (next : ℕ) (q : Entry → Bool) (old new : List (Place × Slot)) → AreKept next old → new ≡ filter (λ r. q r.1.entry) old → AreKept next new
kept_where next q old new kept is = record {
  each = subst (AllByRecursion (IsKept next)) (sym is) (all_filter (IsKept next) (λ r. q r.1.entry) old kept.each);
  climb = thinned-climb (λ s. q s.entry) old new (ap values_of is ∙ values-filter (λ s. q s.entry) old) kept.climb;
}

pub entries_where : (q : Entry → Bool) (old new : List (Place × Slot)) → new ≡ filter (λ r. q r.1.entry) old
    → entries_of (in_turn (values_of new)) ≡ filter q (entries_of (in_turn (values_of old)))
entries_where q old new is = thinned q old new (ap values_of is ∙ values-filter (λ s. q s.entry) old)
