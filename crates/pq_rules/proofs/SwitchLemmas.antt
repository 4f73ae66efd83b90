-- From ids and trees to the entries of both tables.
use Rattle.std.proofs.Common.{◌≡◌, ℕ, ◌<◌, ◌≤◌, Bool, true, false, if◌then◌else◌, List, [], ◌∷◌, ◌++◌, Ok, Err, Result, length, map, refl}
use Rattle.std.proofs.Common.{sym, ap, subst, ◌∙◌, arith}
use Rattle.std.specs.Prelude.{All, IfErr}
use Rattle.std.specs.Result.{IsErrAnd}
use Rattle.std.specs.List.{AllByRecursion, IsDistinct}
use Rattle.std.specs.declared.option.Option.{Option}
use Rattle.std.proofs.lemmas.List.{length-map}
use Rattle.std.proofs.lemmas.List.Elements.{All-from_recursion, recursion_from_All}
use Rattle.std.proofs.lemmas.Option.{slice_get_within}
use Rattle.pq_model.specs.MatchFields.{MatchFields}
use Rattle.pq_rewrite.specs.declared.outgoing.Outgoing.{Outgoing}
use Rattle.pq_rewrite.specs.declared.trees.Arrive.{Arrive}
use Rattle.pq_rewrite.specs.declared.trees.Key.{Key}
use Rattle.pq_rewrite.specs.Leaves.{copies_eq}
use Rattle.pq_store.specs.Tree.{Tree}
use Rattle.pq_store.specs.Tree.Tree.{Tip, Fork}
use Rattle.pq_store.specs.Store.{HasAt}
use Rattle.pq_lists.proofs.Places.{at_place}
use Rattle.pq_lists.proofs.Holding.{all_append, all_weaker}
use Rattle.pq_layout.specs.Actions.{buckets_of, key_word, tag_word}
use Rattle.pq_layout.specs.Entries.{entries_of, failing, is_blank, matches_below, passing, table_of, vlan_match}
use Rattle.pq_layout.specs.Messages.{ArrivingTrees, LeavingTrees, first_rule, groups_of, is_nothing, is_without, leaving_entries, second_rule}
use Rattle.pq_layout.specs.Sound.{AllLeaves, AreSoundArriving, AreSoundLeaving, IsSoundArrival, IsSoundArriving, IsSoundCopy, IsSoundLeaving}
use Rattle.pq_lookup.specs.Sent.{AreFilled}
use Rattle.pq_rules.specs.Counts.{AreWithin, capped}
use Rattle.pq_rules.specs.Found.{AreFound, IsRoot, trees_with, with_word}
use Rattle.pq_rules.specs.Grouping.{ArePlaces, IsLeafAt, leaf_at, leaf_or, placed_rules, resolved, with_groups}
use Rattle.pq_rules.specs.Refusals.{FitTables, IsMany, IsRulesFault, many_copies}
use Rattle.pq_rules.specs.declared.fault.RulesFault.{RulesFault}
use Rattle.pq_rules.specs.declared.fault.RulesFault.TheVariants.{TableFull, GroupFull, Memory}
use Rattle.pq_rules.specs.Renewing.{AreFewPlaces, IsLeavingLeaf, few}
use Rattle.pq_rules.proofs.GroupsLemmas.{IsShown, SoundEntries, groups_distinct, groups_few, groups_made, groups_shown, groups_sound}
use Rattle.pq_rules.proofs.GroupsLemmas.{places_few, places_long, rules_placed}
use Rattle.pq_rules.specs.Tables.{AreArrivingWithin, IsArrivingId, IsLeavingId, arriving_trees, leaving_trees}

module _ {L : Type 0} (ts : List (Tree L)) where
  -- what holds of the trees at ids holds at the ids
  trees_at : {A : Type 0} (P : ℕ → Tree L → Type 0) (f : A → ℕ × ℕ) (ids : List A) → AllByRecursion (λ p. (f p).1 < length ts) ids
      → AllByRecursion (λ p. P p.0 p.1) (trees_with ts (map f ids))
      → AllByRecursion (λ p. HasAt (P (f p).0) ts (f p).1) ids
  trees_at P f [] within all = tt
  trees_at P f (p ∷ ps) within all =
      let at = at_place ts (f p).1 within.0 in
      let both : AllByRecursion (λ q. P q.0 q.1) (((f p).0, at.0) ∷ trees_with ts (map f ps)) =
      subst (λ o. AllByRecursion (λ q. P q.0 q.1) (with_word (f p).0 o ++ trees_with ts (map f ps))) at.1 all in
      ((at.0, at.1, both.0), trees_at P f ps within.1 both.1)

  -- roots are ids of the store
  pub roots_within : (roots : List (ℕ × ℕ)) → All (IsRoot ts) roots → AreWithin ts roots
  roots_within roots all k d below = let root = all k d below in slice_get_within ts _ root.1.0 root.1.1

  -- what is found is what is at the ids
  pub found_resolved : (default : L) (ms : List (MatchFields × L)) (es : List (MatchFields × ℕ)) → AreFound ts ms es → resolved default ts es ≡ ms
  found_resolved default [] [] found = refl
  found_resolved default [] (e ∷ es) found = absurd found
  found_resolved default (m ∷ ms) [] found = absurd found
  found_resolved default (m ∷ ms) (e ∷ es) found = (λ i. (found.0.0 i, leaf_or default (found.0.1 i)) ∷ found_resolved default ms es found.1 i)

  pub found_long : (ms : List (MatchFields × L)) (es : List (MatchFields × ℕ)) → AreFound ts ms es → length es ≡ length ms
  found_long [] [] found = refl
  found_long [] (e ∷ es) found = absurd found
  found_long (m ∷ ms) [] found = absurd found
  found_long (m ∷ ms) (e ∷ es) found = omega (arith, found_long ms es found.1)

  -- leaves of entries are such as the leaves of the trees
  leaves_at : (P : L → Type 0) (default : L) (ms : List (MatchFields × L)) (es : List (MatchFields × ℕ)) → AreFound ts ms es → AllByRecursion (λ m. P m.1) ms
      → AllByRecursion (λ (e : MatchFields × ℕ). IsLeafAt ts e.1 × P (leaf_at default ts e.1)) es
  leaves_at P default [] [] found all = tt
  leaves_at P default [] (e ∷ es) found all = absurd found
  leaves_at P default (m ∷ ms) [] found all = absurd found
  leaves_at P default (m ∷ ms) (e ∷ es) found all =
      (((m.1, found.0.1), subst P (sym (ap (leaf_or default) found.0.1)) all.0), leaves_at P default ms es found.1 all.1)

  pub found_leaves : (P : L → Type 0) (default : L) (ms : List (MatchFields × L)) (es : List (MatchFields × ℕ)) → AreFound ts ms es
      → AllByRecursion (λ m. P m.1) ms
      → All (λ (e : MatchFields × ℕ). IsLeafAt ts e.1 × P (leaf_at default ts e.1)) es
  found_leaves P default ms es found all = All-from_recursion (λ (e : MatchFields × ℕ). IsLeafAt ts e.1 × P (leaf_at default ts e.1)) es
      (leaves_at P default ms es found all)

-- the ids of sound trees
pub arriving_sound : (ts : List (Tree (Option Arrive))) (ids : List (Key × ℕ)) → AreArrivingWithin ts ids
    → AreSoundArriving (arriving_trees ts ids) → All (IsArrivingId ts) ids
arriving_sound ts ids within sound =
    All-from_recursion (IsArrivingId ts) ids
    (trees_at ts IsSoundArriving (λ p. (key_word p.0, p.1)) ids (recursion_from_All (λ p. p.1 < length ts) ids within)
    (recursion_from_All (λ p. IsSoundArriving p.0 p.1) (arriving_trees ts ids) sound.each))

pub leaving_sound : (ts : List (Tree (List Outgoing))) (ids : List (ℕ × ℕ)) → AreWithin ts ids → AreSoundLeaving (leaving_trees ts ids)
    → All (IsLeavingId ts) ids
leaving_sound ts ids within sound =
    All-from_recursion (IsLeavingId ts) ids
    (trees_at ts IsSoundLeaving (λ p. (tag_word p.0, p.1)) ids (recursion_from_All (λ p. p.1 < length ts) ids within)
    (recursion_from_All (λ p. IsSoundLeaving p.0 p.1) (leaving_trees ts ids) sound.each))

-- Leaves of entries.

module _ {L : Type 0} (P : L → Type 0) where
  below_all : (t : Tree L) (m : MatchFields) → AllLeaves P t → AllByRecursion (λ e. P e.1) (matches_below m t)
  below_all (Tip l) m all = (all, tt)
  below_all (Fork s y n) m all = all_append (λ e. P e.1) (matches_below (passing s m) y) (matches_below (failing s m) n)
      (below_all y (passing s m) all.0) (below_all n (failing s m) all.1)

  table_all : (blank : L → Bool) (trees : List (ℕ × Tree L)) → AllByRecursion (λ p. AllLeaves P p.1) trees → AllByRecursion (λ e. P e.1) (table_of blank trees)
  table_all blank [] all = tt
  table_all blank (p ∷ ps) all = all_append (λ e. P e.1) (entries_of blank p) (table_of blank ps) (by (is_blank blank p.1)) (table_all blank ps all.1)
    where
      by : (b : Bool) → AllByRecursion (λ e. P e.1) (if b then [] else matches_below (vlan_match p.0) p.1)
      by true = tt
      by false = below_all p.1 (vlan_match p.0) all.0

pub arriving_leaves : (firsts : ArrivingTrees) → AreSoundArriving firsts → AllByRecursion (λ e. IsSoundArrival e.1) (table_of is_nothing firsts)
arriving_leaves firsts sound =
    table_all IsSoundArrival is_nothing firsts
    (all_weaker (λ p. IsSoundArriving p.0 p.1) (λ p. AllLeaves IsSoundArrival p.1) (λ p h. h.leaves) firsts
    (recursion_from_All (λ p. IsSoundArriving p.0 p.1) firsts sound.each))

pub leaving_leaves : (seconds : LeavingTrees) → AreSoundLeaving seconds → AllByRecursion (λ e. All IsSoundCopy e.1) (leaving_entries seconds)
leaving_leaves seconds sound =
    table_all (All IsSoundCopy) is_without seconds
    (all_weaker (λ p. IsSoundLeaving p.0 p.1) (λ p. AllLeaves (All IsSoundCopy) p.1) (λ p h. h.leaves) seconds
    (recursion_from_All (λ p. IsSoundLeaving p.0 p.1) seconds sound.each))

-- Limits.

-- where the capped count is within the limit, so is the count
pub count_within : (count n limit : ℕ) → count ≡ capped n → count ≤ limit → limit ≤ 16384 → n ≤ limit
count_within count n limit is small few = omega (arith, is, small, few)

pub tables_filled : (limit : ℕ) (firsts : ArrivingTrees) (seconds : LeavingTrees) → AreSoundArriving firsts → AreSoundLeaving seconds
    → limit ≤ 16384 → FitTables limit firsts seconds
    → AreFilled firsts seconds
tables_filled limit firsts seconds arriving leaving few fit = record {
  arriving = arriving;
  leaving = leaving;
  first_few = let same = length-map (table_of is_nothing firsts) first_rule in let h = fit.arriving in omega (arith, same, h, few);
  second_few = let same = length-map (leaving_entries seconds) (second_rule (groups_of (leaving_entries seconds))) in let h = fit.leaving in
      omega (arith, same, h, few);
}

-- Entries of table 1.

pub resolved_sound : (ts : List (Tree (List Outgoing))) (es : List (MatchFields × ℕ))
    → All (λ (e : MatchFields × ℕ). IsLeavingLeaf ts e.1) es → SoundEntries (resolved [] ts es)
resolved_sound ts es all = each es (recursion_from_All (λ (e : MatchFields × ℕ). IsLeavingLeaf ts e.1) es all)
  where
    each : (fs : List (MatchFields × ℕ)) → AllByRecursion (λ (e : MatchFields × ℕ). IsLeavingLeaf ts e.1) fs → SoundEntries (resolved [] ts fs)
    each [] all = tt
    each (f ∷ fs) all = (recursion_from_All IsSoundCopy (leaf_at [] ts f.1) all.0.1, each fs all.1)

-- leaves of sound copies are leaves
pub leaf_of : (ts : List (Tree (List Outgoing))) (es : List (MatchFields × ℕ)) → All (λ (e : MatchFields × ℕ). IsLeavingLeaf ts e.1) es
    → All (λ (e : MatchFields × ℕ). IsLeafAt ts e.1) es
leaf_of ts es all k d below = (all k d below).0

-- what is known of the groups that were taken
pub record AreGrouped (ts : List (Tree (List Outgoing))) (es : List (MatchFields × ℕ)) (gs : List (List Outgoing)) (ps : List (Option ℕ)) : Type 0 where
  pub groups_few : length gs ≤ few
  pub sound : All (All IsSoundCopy) gs
  pub places_few : AreFewPlaces ps
  pub placed : length ps ≡ length es
  pub groups : map buckets_of gs ≡ groups_of (resolved [] ts es)
  pub rules : placed_rules (resolved [] ts es) ps ≡ map (second_rule (groups_of (resolved [] ts es))) (resolved [] ts es)

pub are_grouped : (ts : List (Tree (List Outgoing))) (es : List (MatchFields × ℕ)) (gs : List (List Outgoing)) (ps : List (Option ℕ)) → All
    (λ (e : MatchFields × ℕ). IsLeavingLeaf ts e.1) es → length es ≤ few
    → gs ≡ with_groups [] (resolved [] ts es) → ArePlaces gs (resolved [] ts es) ps → AreGrouped ts es gs ps
are_grouped ts es gs ps leaves small taken places =
    let entries = resolved [] ts es in
    let sound = resolved_sound ts es leaves in
    let long : length entries ≡ length es = length-map es (λ e. (e.0, leaf_at [] ts e.1)) in
    let fewer : length gs ≤ few = subst (λ l. length l ≤ few) (sym taken) (omega (arith, groups_few entries [], long, small)) in
    let shown = subst (AllByRecursion IsShown) (sym taken) (groups_shown entries sound) in
    let apart = subst (IsDistinct copies_eq) (sym taken) (groups_distinct entries) in
    let made : map buckets_of gs ≡ groups_of entries = ap (map buckets_of) taken ∙ sym (groups_made entries sound) in
    record {
      groups_few = fewer;
      sound = groups_sound gs shown;
      places_few = places_few gs entries ps fewer places;
      placed = places_long gs entries ps places ∙ long;
      groups = made;
      rules = rules_placed gs entries ps apart shown places ∙ ap (λ bs. map (second_rule bs) entries) made;
    }

-- Causes.

pub many_cause : (datapath limit : ℕ) (firsts : ArrivingTrees) (seconds : LeavingTrees) (es : List (MatchFields × List Outgoing))
    (fault : RulesFault) → FitTables limit firsts seconds
    → es ≡ leaving_entries seconds
    → IsMany datapath es fault → IsRulesFault datapath limit firsts seconds fault
many_cause datapath limit firsts seconds es (TableFull s n count) fit is many = absurd many
many_cause datapath limit firsts seconds es (GroupFull s copies) fit is many = (many.0, fit, ap many_copies (sym is) ∙ many.1)
many_cause datapath limit firsts seconds es Memory fit is many = absurd many

-- an error of which something holds
pub err_such : {A E : Type 0} (r : Result A E) (e : E) (P : E → Type 0) → IsErrAnd r (λ f. f ≡ e) → P e → IfErr r P
err_such (Ok a) e P is such = tt
err_such (Err f) e P is such = subst P (sym is) such
