-- An entry is among others where it is among them each once.
use Rattle.std.proofs.Common.{◌≡◌, Bool, true, false, not, List, [], ◌∷◌, ◌++◌, ◌||◌, if◌then◌else◌, refl, sym, ap, subst, ◌∙◌}
use Rattle.std.specs.List.{AllByRecursion, list_any}
use Rattle.std.proofs.lemmas.List.Folds.{list_any-append}
use Rattle.std.proofs.Math.Bool.{or-true, or-false}
use Rattle.pq_lists.proofs.Holding.{filter_same}
use Rattle.indexmap.specs.IndexSet.{insert_all, insert_key}
use Rattle.pq_model.specs.SwitchMachine.{Entry}
use Rattle.pq_delta.specs.Equal.{is_among, others, same_entry}
use Rattle.pq_delta.specs.Keys.{keys_of}
use Rattle.pq_delta.specs.Exact.{entry_exact}

-- Keys, each once.

or_assoc : (a b c : Bool) → (a || b) || c ≡ a || (b || c)
or_assoc true b c = refl
or_assoc false b c = refl

any_inserted : (q : Entry) (keys : List Entry) (k : Entry)
    → list_any (same_entry q) (insert_key same_entry keys k) ≡ list_any (same_entry q) keys || same_entry q k
any_inserted q keys k = by (list_any (same_entry k) keys) refl
  where
    by : (b : Bool) → list_any (same_entry k) keys ≡ b
        → list_any (same_entry q) (if b then keys else keys ++ k ∷ []) ≡ list_any (same_entry q) keys || same_entry q k
    by false is = list_any-append (same_entry q) keys (k ∷ []) ∙ ap (λ b. list_any (same_entry q) keys || b) (or-false (same_entry q k))
    by true is = there (same_entry q k) refl
      where
        there : (c : Bool) → same_entry q k ≡ c → list_any (same_entry q) keys ≡ list_any (same_entry q) keys || c
        there true same = let one : q ≡ k = entry_exact q k same in let has : list_any (same_entry q) keys ≡ true =
            subst (λ p. list_any (same_entry p) keys ≡ true) (sym one) is in has ∙ sym (or-true (list_any (same_entry q) keys))
        there false same = sym (or-false (list_any (same_entry q) keys))

any_all_inserted : (q : Entry) (keys ks : List Entry)
    → list_any (same_entry q) (insert_all same_entry keys ks) ≡ list_any (same_entry q) keys || list_any (same_entry q) ks
any_all_inserted q keys [] = sym (or-false (list_any (same_entry q) keys))
any_all_inserted q keys (k ∷ ks) =
    any_all_inserted q (insert_key same_entry keys k) ks ∙ ap (λ b. b || list_any (same_entry q) ks) (any_inserted q keys k)
    ∙ or_assoc (list_any (same_entry q) keys) (same_entry q k) (list_any (same_entry q) ks)

-- those that aren't among some entries, each once, are those that aren't among them
pub others_of_keys : (known es : List Entry) → others (keys_of known) es ≡ others known es
others_of_keys known es = filter_same (λ e. not (is_among e (keys_of known))) (λ e. not (is_among e known)) es (alike es)
  where
    alike : (ds : List Entry) → AllByRecursion (λ e. not (is_among e (keys_of known)) ≡ not (is_among e known)) ds
    alike [] = tt
    alike (d ∷ ds) = (ap not (any_all_inserted d [] known), alike ds)
