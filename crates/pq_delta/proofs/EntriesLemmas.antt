-- What the messages of a delta do to entries.
use Rattle.std.proofs.Common.{◌≡◌, ◌≢◌, ℕ, suc, Bool, true, false, not, cond, List, [], ◌∷◌, ◌++◌, map, filter, eq-eqb, refl, sym, ap, subst, ◌∙◌, append_assoc}
use Rattle.std.specs.List.{AllByRecursion, list_all}
use Rattle.std.specs.FinMap.{contains_key}
use Rattle.std.proofs.lemmas.Bool.{and_from}
use Rattle.std.proofs.lemmas.List.Elements.{filter-append}
use Rattle.pq_model.specs.declared.flow_mod.FlowCommand.TheVariants.{Add}
use Rattle.pq_model.specs.declared.message.Message.TheVariants.{Flow}
use Rattle.pq_model.specs.MatchFields.{same_match}
use Rattle.pq_model.specs.Mods.{FlowValue}
use Rattle.pq_model.specs.SwitchMachine.{Entry, Groups, Tables, applies_all, entry_of, groups_named, is_placed}
use Rattle.pq_model.specs.Orders.{HaveOwnPriorities}
use Rattle.pq_delta.specs.Changes.{adds_from, delete_of, deletes_from}
use Rattle.pq_delta.specs.Exact.{match_itself}
use Rattle.pq_delta.proofs.OwnLemmas.{all-unplaced, own-around, untouched}

-- an entry is in its own place
pub placed : (f : FlowValue) (e : Entry) → e.table ≡ f.table → e.priority ≡ f.priority → e.matching ≡ f.matching → is_placed f e ≡ true
placed f e table priority matching =
    and_from _ (same_match e.matching f.matching) (and_from _ _ (eq-eqb e.table f.table table) (eq-eqb e.priority f.priority priority))
    (subst (λ m. same_match e.matching m ≡ true) matching (match_itself e.matching))

-- a DeleteStrict takes its entry out from among others
pub taken-out : (xid : ℕ) (front : List Entry) (e : Entry) (back : List Entry) → HaveOwnPriorities (front ++ e ∷ back)
    → filter (λ d. not (is_placed (delete_of xid e) d)) (front ++ e ∷ back) ≡ front ++ back
taken-out xid front e back own =
    filter-append (λ d. not (is_placed (delete_of xid e) d)) front (e ∷ back)
    ∙ ap (λ b. filter (λ d. not (is_placed (delete_of xid e) d)) front
    ++ cond (not b) (e ∷ filter (λ d. not (is_placed (delete_of xid e) d)) back)
    (filter (λ d. not (is_placed (delete_of xid e) d)) back))
    (placed (delete_of xid e) e refl refl refl)
    ∙ sym (filter-append (λ d. not (is_placed (delete_of xid e) d)) front back)
    ∙ untouched (delete_of xid e) (front ++ back) (all-unplaced (delete_of xid e) (front ++ back) (own-around front e back own).0)

module _ (groups : Groups) where
  with_entries : List Entry → Tables
  with_entries es = record { entries = es; groups = groups }

  module _ (stays : Entry → Bool) where
    -- DeleteStricts of those entries that don't stay leave those that do
    pub deletes-leave : (xid : ℕ) (front es : List Entry) → HaveOwnPriorities (front ++ es) →
        applies_all (record { entries = front ++ es; groups = groups }) (map Flow (deletes_from xid (filter (λ e. not (stays e)) es)))
        ≡ record { entries = front ++ filter stays es; groups = groups }
    deletes-leave xid front [] own = refl
    deletes-leave xid front (e ∷ es) own =
        by (stays e) (deletes-leave xid (front ++ e ∷ []) es (subst HaveOwnPriorities (sym (append_assoc front (e ∷ []) es)) own))
        (deletes-leave (suc xid) front es (own-around front e es own).1)
      where
        gone : List Entry
        gone = filter (λ d. not (stays d)) es

        by : (b : Bool)
            → applies_all (record { entries = (front ++ e ∷ []) ++ es; groups = groups })
            (map Flow (deletes_from xid (filter (λ d. not (stays d)) es)))
            ≡ record { entries = (front ++ e ∷ []) ++ filter stays es; groups = groups }
            → applies_all (record { entries = front ++ es; groups = groups })
            (map Flow (deletes_from (suc xid) (filter (λ d. not (stays d)) es))) ≡ record {
              entries = front ++ filter stays es;
              groups =
                  groups;
            }
            → applies_all (record { entries = front ++ e ∷ es; groups = groups })
            (map Flow (deletes_from xid (cond (not b) (e ∷ filter (λ d. not (stays d)) es) (filter (λ d. not (stays d)) es))))
            ≡ record { entries = front ++ cond b (e ∷ filter stays es) (filter stays es); groups = groups }
        by true kept away =
            ap (λ l. applies_all (record { entries = l; groups = groups }) (map Flow (deletes_from xid (filter (λ d. not (stays d)) es))))
            (sym (append_assoc front (e ∷ []) es))
            ∙ kept ∙ (λ i. record { entries = append_assoc front (e ∷ []) (filter stays es) i; groups = groups })
        by false kept away =
            ap (λ l. applies_all (record { entries = l; groups = groups })
            (map Flow (deletes_from (suc xid) (filter (λ d. not (stays d)) es)))) (taken-out xid front e es own) ∙ away

-- Blocks of flow mods.

pub deletes-none : (xid : ℕ) (es : List Entry) → AllByRecursion (λ f. f.command ≢ Add) (deletes_from xid es)
deletes-none xid [] = tt
deletes-none xid (e ∷ es) = ((λ is. cc), deletes-none (suc xid) es)

pub adds-all : (xid : ℕ) (es : List Entry) → AllByRecursion (λ f. f.command ≡ Add) (adds_from xid es)
adds-all xid [] = tt
adds-all xid (e ∷ es) = (refl, adds-all (suc xid) es)

pub adds-entries : (xid : ℕ) (es : List Entry) → map entry_of (adds_from xid es) ≡ es
adds-entries xid [] = refl
adds-entries xid (e ∷ es) = ap (λ l. e ∷ l) (adds-entries (suc xid) es)

-- the groups that an entry names are there
pub adds-named : (groups : Groups) (xid : ℕ) (es : List Entry) → AllByRecursion (λ e. list_all (contains_key groups) (groups_named e.actions) ≡ true) es
    → AllByRecursion (λ f. list_all (contains_key groups) (groups_named f.actions) ≡ true) (adds_from xid es)
adds-named groups xid [] all = tt
adds-named groups xid (e ∷ es) (here, rest) = (here, adds-named groups (suc xid) es rest)
