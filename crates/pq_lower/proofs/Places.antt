-- Predicates in a list, by their numbers.
use Rattle.std.proofs.Common.{◌≡◌, ◌≤◌, ℕ, ◌+◌, ◌*◌, List, [], ◌∷◌, ◌++◌, drop, length, refl, sym, ap, ◌∙◌, append_assoc, append-nil, length-append, arith}
use Rattle.pq_fields.specs.Packet.{Numbers}
use Rattle.pq_fields.specs.Pred.{PredTree, holds}
use Rattle.pq_query.specs.Groups.{Group}
use Rattle.pq_query.specs.Query.{QueryTop, Enters, Leaves, Passes, Ends, InTurn, Either, Both, Other, Repeated, Queries, none, put, QueryTree}
use Rattle.pq_query.specs.Language.{share}
use Rattle.pq_lower.specs.Added.{top_preds, preds_of, query_preds, top_count, pred_count, query_count}
use Rattle.pq_query.specs.Atoms.{top_atoms, atoms, query_atoms}
use Rattle.pq_lower.proofs.Seen.{truth}

-- the first list has the others from this place on
pub record HasAt (all : List PredTree) (n : ℕ) (ps : List PredTree) : Type 0 where
  pub before : List PredTree
  pub more : List PredTree
  pub whole : all ≡ before ++ (ps ++ more)
  pub there : n ≡ length before

-- the first of two lists, and the second
pub has_first : (all : List PredTree) (n : ℕ) (ps qs : List PredTree) → HasAt all n (ps ++ qs) → HasAt all n ps
has_first all n ps qs has = record {
  before = has.before;
  more = qs ++ has.more;
  whole = has.whole ∙ ap (λ z. has.before ++ z) (append_assoc ps qs has.more);
  there = has.there;
}

pub has_second : (all : List PredTree) (n : ℕ) (ps qs : List PredTree) → HasAt all n (ps ++ qs) → HasAt all (n + length ps) qs
has_second all n ps qs has = record {
  before = has.before ++ ps;
  more = has.more;
  whole = has.whole ∙ ap (λ z. has.before ++ z) (append_assoc ps qs has.more) ∙ sym (append_assoc has.before ps (qs ++ has.more));
  there = ap (λ m. m + length ps) has.there ∙ sym (length-append has.before ps);
}

-- a predicate after others
truth_behind : (ps more : List PredTree) (p : PredTree) (x : Numbers) → truth (ps ++ p ∷ more) (length ps) x ≡ holds p x
truth_behind [] more p x = refl
truth_behind (q ∷ ps) more p x = truth_behind ps more p x

-- the number of a predicate tells whether it holds
pub number_tells : (all : List PredTree) (n : ℕ) (p : PredTree) (ps : List PredTree) → HasAt all n (p ∷ ps) → (x : Numbers) → truth all n x ≡ holds p x
number_tells all n p ps has x = ap (λ z. truth z n x) has.whole ∙ ap (λ m. truth (has.before ++ p ∷ (ps ++ has.more)) m x) has.there
    ∙ truth_behind has.before (ps ++ has.more) p x

pub next_tells : (all : List PredTree) (n : ℕ) (p q : PredTree) → HasAt all n (p ∷ q ∷ []) → (x : Numbers) → truth all (n + 1) x ≡ holds q x
next_tells all n p q has x = number_tells all (n + 1) q [] (has_second all n (p ∷ []) (q ∷ []) has) x

-- How many predicates a query needs.

top_counted : (top : QueryTop) (label : List ℕ) (ps : List PredTree) → length (top_preds top label ps) ≡ top_count top (length ps)
top_counted (Enters p gs) label ps = refl
top_counted (Leaves p gs) label ps = refl
top_counted (Passes p gs q hs) label ps = refl
top_counted (Ends p) label ps = refl
top_counted InTurn label ps = refl
top_counted Either label ps = refl
top_counted Both label ps = refl
top_counted Other label ps = refl
top_counted Repeated label ps = refl

each_counted : (qs : Queries) (label : List ℕ) → length (preds_of qs label) ≡ pred_count qs
each_counted none label = refl
each_counted (put top below rest) label =
    length-append (top_preds top label (preds_of below label)) (preds_of rest (drop (share top below) label))
    ∙ rw (top_counted top label (preds_of below label), each_counted below label, each_counted rest (drop (share top below) label)) refl

pub counted : (q : QueryTree) (label : List ℕ) → length (query_preds q label) ≡ query_count q
counted q label = top_counted q.top label (preds_of q.below label) ∙ ap (λ k. top_count q.top k) (each_counted q.below label)

-- at most two for each atom
top_few : (top : QueryTop) (k n : ℕ) → k ≤ 2 * n → top_count top k ≤ 2 * (top_atoms top + n)
top_few (Enters p gs) k n few = omega arith
top_few (Leaves p gs) k n few = omega arith
top_few (Passes p gs q hs) k n few = omega arith
top_few (Ends p) k n few = omega arith
top_few InTurn k n few = omega (arith, few)
top_few Either k n few = omega (arith, few)
top_few Both k n few = omega (arith, few)
top_few Other k n few = omega (arith, few)
top_few Repeated k n few = omega (arith, few)

each_few : (qs : Queries) → pred_count qs ≤ 2 * atoms qs
each_few none = omega arith
each_few (put top below rest) =
    let own : top_count top (pred_count below) ≤ 2 * (top_atoms top + atoms below) = top_few top (pred_count below) (atoms below) (each_few below) in
    let later : pred_count rest ≤ 2 * atoms rest = each_few rest in
    omega (arith, own, later)

pub few_preds : (q : QueryTree) → query_count q ≤ 2 * query_atoms q
few_preds q = top_few q.top (pred_count q.below) (atoms q.below) (each_few q.below)

-- what an atom reads of a label
pub no_more_groups : (gs : List Group) → length (gs ++ []) ≡ length gs
no_more_groups gs = ap (λ z. length z) (append-nil gs)
