-- Entries with priorities of their own, taken out and put in.
use Rattle.std.proofs.Common.{◌≡◌, Bool, true, false, not, cond, List, [], ◌∷◌, ◌++◌, filter, refl, sym, ap, subst, ◌∙◌}
use Rattle.std.specs.List.{AllByRecursion, IsDistinct}
use Rattle.pq_model.specs.Mods.{FlowValue}
use Rattle.pq_model.specs.SwitchMachine.{Entry, entry_of, is_placed}
use Rattle.pq_model.specs.Orders.{AreApart, HaveOwnPriorities, IsReordering}
use Rattle.pq_model.proofs.Reorderings.{all-at, all-put, all-rest, all-reordering}
use Rattle.pq_model.proofs.FreeOfOrder.{apart-placed}
use Rattle.pq_delta.specs.Equal.{same_entry}
use Rattle.pq_delta.specs.Exact.{entry_exact}

apart-sym : (d e : Entry) → AreApart d e → AreApart e d
apart-sym d e apart table priority = apart (sym table) (sym priority)

all-apart-sym : (d : Entry) (es : List Entry) → AllByRecursion (AreApart d) es → AllByRecursion (λ e. AreApart e d) es
all-apart-sym d [] all = tt
all-apart-sym d (e ∷ es) (here, rest) = (apart-sym d e here, all-apart-sym d es rest)

-- the entry is apart from those around it
pub own-around : (front : List Entry) (e : Entry) (back : List Entry) → HaveOwnPriorities (front ++ e ∷ back)
    → AllByRecursion (AreApart e) (front ++ back) × HaveOwnPriorities (front ++ back)
own-around [] e back own = own
own-around (f ∷ front) e back (apart, own) =
    let rest = own-around front e back own in
    ((apart-sym f e (all-at (AreApart f) e front back apart), rest.0), (all-rest (AreApart f) e front back apart, rest.1))

own-put : (front : List Entry) (e : Entry) (back : List Entry) → AllByRecursion (AreApart e) (front ++ back)
    → HaveOwnPriorities (front ++ back) → HaveOwnPriorities (front ++ e ∷ back)
own-put [] e back apart own = (apart, own)
own-put (f ∷ front) e back (here, there) (apart, own) = (all-put (AreApart f) e front back (apart-sym e f here) apart, own-put front e back there own)

pub own-reordered : (xs ys : List Entry) → IsReordering xs ys → HaveOwnPriorities xs → HaveOwnPriorities ys
own-reordered [] ys h own = subst HaveOwnPriorities (sym h) own
own-reordered (x ∷ xs) ys (front, back, is, h) (apart, own) =
    subst HaveOwnPriorities (sym is) (own-put front x back (all-reordering (AreApart x) xs (front ++ back) h apart) (own-reordered xs (front ++ back) h own))

pub own-back : (front back : List Entry) → HaveOwnPriorities (front ++ back) → HaveOwnPriorities back
own-back [] back own = own
own-back (f ∷ front) back (apart, own) = own-back front back own

-- entries that are apart differ
apart-differ : (d e : Entry) → AreApart d e → same_entry d e ≡ false
apart-differ d e apart = by (same_entry d e) refl
  where
    by : (b : Bool) → same_entry d e ≡ b → b ≡ false
    by true is = let one = entry_exact d e is in absurd (apart (ap (λ x. x.table) one) (ap (λ x. x.priority) one))
    by false is = refl

pub own-distinct : (es : List Entry) → HaveOwnPriorities es → IsDistinct same_entry es
unfolding IsDistinct
own-distinct [] own = tt
own-distinct (e ∷ es) (apart, own) = (each es apart, own-distinct es own)
  where
    each : (ds : List Entry) → AllByRecursion (AreApart e) ds → AllByRecursion (λ d. same_entry e d ≡ false) ds
    each [] all = tt
    each (d ∷ ds) (here, rest) = (apart-differ e d here, each ds rest)

pub all-unplaced : (f : FlowValue) (es : List Entry) → AllByRecursion (AreApart (entry_of f)) es → AllByRecursion (λ e. is_placed f e ≡ false) es
all-unplaced f [] all = tt
all-unplaced f (e ∷ es) (here, rest) = (apart-placed f e here, all-unplaced f es rest)

pub untouched : (f : FlowValue) (es : List Entry) → AllByRecursion (λ e. is_placed f e ≡ false) es → filter (λ e. not (is_placed f e)) es ≡ es
untouched f [] all = refl
untouched f (e ∷ es) (here, rest) =
    ap (λ b. cond (not b) (e ∷ filter (λ x. not (is_placed f x)) es) (filter (λ x. not (is_placed f x)) es)) here ∙ ap (λ l. e ∷ l) (untouched f es rest)
