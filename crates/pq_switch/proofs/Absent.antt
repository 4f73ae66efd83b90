-- Removing a group that isn't there removes no entry.
use Rattle.std.proofs.Common.{◌≡◌, ℕ, Bool, true, false, not, List, [], ◌∷◌, refl, sym, ap, subst, ◌∙◌}
use Rattle.std.specs.Prelude.{◌==◌, ◌||◌}
use Rattle.std.specs.FinMap.{contains_key}
use Rattle.std.specs.List.{filter, list_any}
use Rattle.std.proofs.lemmas.Bool.{eqb-true, true≢false}
use Rattle.pq_model.specs.SwitchMachine.{Entry, Groups, groups_named, is_removed}
use Rattle.pq_model.specs.declared.reserved.TheConstants.{ALL_GROUPS}

one_stays : (groups : Groups) (number n : ℕ) → (number == ALL_GROUPS) ≡ false → contains_key groups number ≡ false → is_removed groups number n ≡ false
one_stays groups number n not_all absent = by (contains_key groups n) (n == number) refl refl
  where
    by : (c d : Bool) → contains_key groups n ≡ c → (n == number) ≡ d → is_removed groups number n ≡ false
    by false d is same = rw is refl
    by true false is same = rw (is, not_all, same) refl
    by true true is same = absurd (true≢false (sym (subst (λ k. contains_key groups k ≡ true) (eqb-true n number same) is) ∙ absent))

all_stay : (groups : Groups) (number : ℕ) (ns : List ℕ) → (number == ALL_GROUPS) ≡ false → contains_key groups number ≡ false
    → list_any (is_removed groups number) ns ≡ false
all_stay groups number [] not_all absent = refl
all_stay groups number (n ∷ ns) not_all absent = rw (one_stays groups number n not_all absent) (all_stay groups number ns not_all absent)

kept : (groups : Groups) (number : ℕ) (es : List Entry) → (number == ALL_GROUPS) ≡ false → contains_key groups number ≡ false
    → filter (λ e. not (list_any (is_removed groups number) (groups_named e.actions))) es ≡ es
kept groups number [] not_all absent = refl
kept groups number (e ∷ es) not_all absent = rw (all_stay groups number (groups_named e.actions) not_all absent)
    (ap (λ rest. e ∷ rest) (kept groups number es not_all absent))

pub none_is_removed : (groups : Groups) (number : ℕ) (es : List Entry) → ((number == ALL_GROUPS) || contains_key groups number) ≡ false
    → es ≡ filter (λ e. not (list_any (is_removed groups number) (groups_named e.actions))) es
none_is_removed groups number es none = by (number == ALL_GROUPS) (contains_key groups number) refl refl
  where
    by : (c d : Bool) → (number == ALL_GROUPS) ≡ c → contains_key groups number ≡ d
        → es ≡ filter (λ e. not (list_any (is_removed groups number) (groups_named e.actions))) es
    by true d all is = absurd (true≢false (subst (λ b. (b || contains_key groups number) ≡ false) all none))
    by false true all is = absurd (true≢false (subst (λ b. (false || b) ≡ false) is (subst (λ b. (b || contains_key groups number) ≡ false) all none)))
    by false false all is = sym (kept groups number es all is)
