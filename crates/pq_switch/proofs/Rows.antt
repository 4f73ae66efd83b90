-- The values of a map's entries, when one is put in or taken out at a key.
use Rattle.std.proofs.Common.{◌≡◌, Bool, true, false, not, cond, List, [], ◌∷◌, ◌++◌, refl, sym, ap, ◌∙◌}
use Rattle.std.specs.declared.cmp.Ordering.{Ordering}
use Rattle.std.specs.declared.cmp.Ordering.TheVariants.{Less, Equal, Greater}
use Rattle.std.specs.declared.option.Option.TheVariants.{None, Some}
use Rattle.std.specs.Option.{is_some}
use Rattle.std.specs.List.{AllByRecursion, filter}
use Rattle.std.specs.List.Sorted.{IsStrictlySortedBy}
use Rattle.std.specs.Cmp.{IsTotalOrder}
use Rattle.std.proofs.lemmas.Bool.{true≢false}
use Rattle.std.specs.Map.{keys_of, lookup, remove_entry, values_of}
use Rattle.std.specs.BTreeMap.{insert_entry, is_at}
use Rattle.std.specs.Ordering.{is_eq, match_ordering}
use Rattle.pq_lists.proofs.Holding.{all_weaker}

pub some_is_no_none : {A B : Type 0} (x : A) → Some x ≡ None → B
some_is_no_none x e = absurd (true≢false (ap is_some e))

module _ {K X : Type 0} where
  pub all-remove : (P : K × X → Type 0) (test : K → Bool) (es : List (K × X)) → AllByRecursion P es → AllByRecursion P (remove_entry test es)
  all-remove P test [] all = tt
  all-remove P test (e ∷ es) (here, all) = by (test e.0) (all-remove P test es all)
    where
      by : (b : Bool) → AllByRecursion P (remove_entry test es) → AllByRecursion P (cond b es (e ∷ remove_entry test es))
      by true more = all
      by false more = (here, more)

  pub values-filter : (p : X → Bool) (es : List (K × X)) → values_of (filter (λ e. p e.1) es) ≡ filter p (values_of es)
  values-filter p [] = refl
  values-filter p (e ∷ es) = by (p e.1) (values-filter p es)
    where
      by : (b : Bool) → values_of (filter (λ d. p d.1) es) ≡ filter p (values_of es)
          → values_of (cond b (e ∷ filter (λ d. p d.1) es) (filter (λ d. p d.1) es)) ≡ cond b (e.1 ∷ filter p (values_of es))
          (filter p (values_of es))
      by true more = ap (λ l. e.1 ∷ l) more
      by false more = more

  module _ (R : K → K → Ordering) (k : K) where
    pub all-insert : (P : K × X → Type 0) (v : X) → P (k, v) → (es : List (K × X)) → AllByRecursion P es
        → ((q : K) → R k q ≡ Equal → P (q, v)) → AllByRecursion P (insert_entry R es k v)
    all-insert P v new [] all tied = (new, tt)
    all-insert P v new (e ∷ es) (here, all) tied = by (R k e.0) refl (all-insert P v new es all tied)
      where
        by : (r : Ordering) → R k e.0 ≡ r → AllByRecursion P (insert_entry R es k v)
            → AllByRecursion P (match_ordering r ((k, v) ∷ e ∷ es) ((e.0, v) ∷ es) (e ∷ insert_entry R es k v))
        by Less is more = (new, (here, all))
        by Equal is more = (tied e.0 is, all)
        by Greater is more = (here, more)

    -- a test of the values that tells whether the key is another
    abbrev pub Tells : (X → Bool) → List (K × X) → Type 0
    Tells p es = AllByRecursion (λ e. p e.1 ≡ not (is_eq (R k e.0))) es

    module _ (p : X → Bool) where
      none-stay : (es : List (K × X)) → Tells p es → lookup (is_at (R k)) es ≡ None → filter p (values_of es) ≡ values_of es
      none-stay [] tells none = refl
      none-stay (e ∷ es) (here, tells) none = by (is_eq (R k e.0)) here none (none-stay es tells)
        where
          by : (b : Bool) → p e.1 ≡ not b → cond b (Some e.1) (lookup (is_at (R k)) es) ≡ None
              → (lookup (is_at (R k)) es ≡ None → filter p (values_of es) ≡ values_of es)
              → cond (p e.1) (e.1 ∷ filter p (values_of es)) (filter p (values_of es)) ≡ e.1 ∷ values_of es
          by true h none more = some_is_no_none e.1 none
          by false h none more = ap (λ b. cond b (e.1 ∷ filter p (values_of es)) (filter p (values_of es))) h ∙ ap (λ l. e.1 ∷ l) (more none)

      pub removed : (es : List (K × X)) → Tells p es → lookup (is_at (R k)) (remove_entry (is_at (R k)) es) ≡ None
          → values_of (remove_entry (is_at (R k)) es) ≡ filter p (values_of es)
      removed [] tells none = refl
      removed (e ∷ es) (here, tells) none = by (is_eq (R k e.0)) refl none (removed es tells)
        where
          by : (b : Bool) → is_eq (R k e.0) ≡ b → lookup (is_at (R k)) (cond b es (e ∷ remove_entry (is_at (R k)) es)) ≡ None →
              (lookup (is_at (R k)) (remove_entry (is_at (R k)) es) ≡ None → values_of (remove_entry (is_at (R k)) es) ≡ filter p (values_of es)) →
              values_of (cond b es (e ∷ remove_entry (is_at (R k)) es)) ≡ cond (p e.1) (e.1 ∷ filter p (values_of es)) (filter p (values_of es))
          by true is none more = sym (ap (λ b. cond b (e.1 ∷ filter p (values_of es)) (filter p (values_of es))) (here ∙ ap not is) ∙ none-stay es tells none)
          by false is none more =
              let later = ap (λ b. cond b (Some e.1) (lookup (is_at (R k)) (remove_entry (is_at (R k)) es))) (sym is) ∙ none in
              ap (λ l. e.1 ∷ l) (more later) ∙ sym (ap (λ b. cond b (e.1 ∷ filter p (values_of es)) (filter p (values_of es))) (here ∙ ap not is))

      later_stay : (es : List (K × X)) → Tells p es → AllByRecursion (λ q. R k q ≡ Less) (keys_of es) → filter p (values_of es) ≡ values_of es
      later_stay [] tells later = refl
      later_stay (e ∷ es) (here, tells) (less, later) =
          ap (λ b. cond b (e.1 ∷ filter p (values_of es)) (filter p (values_of es))) (here ∙ ap (λ r. not (is_eq r)) less)
          ∙ ap (λ l. e.1 ∷ l) (later_stay es tells later)

      -- where a value goes in
      pub record Parts (es new : List (K × X)) (v : X) : Type 0 where
        pub front : List X
        pub back : List X
        pub is : values_of new ≡ front ++ v ∷ back
        pub rest : filter p (values_of es) ≡ front ++ back

      pub parts : IsTotalOrder R → (v : X) (es : List (K × X)) → Tells p es → IsStrictlySortedBy R (keys_of es) → Parts es (insert_entry R es k v) v
      unfolding IsStrictlySortedBy
      parts o v [] tells sorted = record { front = []; back = []; is = refl; rest = refl }
      parts o v (e ∷ es) (here, tells) (later, sorted) = by (R k e.0) refl (parts o v es tells sorted)
        where
          by : (r : Ordering) → R k e.0 ≡ r → Parts es (insert_entry R es k v) v
              → Parts (e ∷ es) (match_ordering r ((k, v) ∷ e ∷ es) ((e.0, v) ∷ es) (e ∷ insert_entry R es k v)) v
          by Less is more = record {
            front = [];
            back = e.1 ∷ values_of es;
            is = refl;
            rest = ap (λ b. cond b (e.1 ∷ filter p (values_of es)) (filter p (values_of es))) (here ∙ ap (λ r. not (is_eq r)) is)
                ∙ ap (λ l. e.1 ∷ l) (later_stay es tells (all_weaker (λ z. R e.0 z ≡ Less) (λ z. R k z ≡ Less) (λ z. o.trans k e.0 z is) (keys_of es) later));
          }
          by Equal is more = record {
            front = [];
            back = values_of es;
            is = refl;
            rest = ap (λ b. cond b (e.1 ∷ filter p (values_of es)) (filter p (values_of es))) (here ∙ ap (λ r. not (is_eq r)) is)
                ∙ later_stay es tells (all_weaker (λ z. R e.0 z ≡ Less) (λ z. R k z ≡ Less) (λ z less. o.congr k e.0 z is ∙ less) (keys_of es) later);
          }
          by Greater is more = record {
            front = e.1 ∷ more.front;
            back = more.back;
            is = ap (λ l. e.1 ∷ l) more.is;
            rest = ap (λ b. cond b (e.1 ∷ filter p (values_of es)) (filter p (values_of es))) (here ∙ ap (λ r. not (is_eq r)) is) ∙ ap (λ l. e.1 ∷ l) more.rest;
          }
