-- Lowered queries are lawful, and name no predicate that isn't there.
use Rattle.std.proofs.Common.{◌≤◌, ◌<◌, ℕ, ◌+◌, List, [], ◌∷◌, arith}
use Rattle.pq_query.specs.Query.{QueryTop, Enters, Leaves, Passes, Ends, InTurn, Either, Both, Other, Repeated, Queries, none, put, QueryTree}
use Rattle.pq_expr.specs.Expr.{ExprTop, NoWord, EmptyWord, Enters as Inward, Leaves as Outward, InTurn as Turns, Either as Any}
use Rattle.pq_expr.specs.Expr.{Both as Every, Other as Negated, Repeated as Stars, Exprs, none as no_exprs, put as set, ExprTree, exprs}
use Rattle.pq_expr.specs.Expr.{leaf, top_bound, bounds, HasOperands, AreLawful}
use Rattle.pq_lower.specs.Operators.{operator, optional_out, entry, hop, turn_of, any_of, all_of, other_than}
use Rattle.pq_lower.specs.Added.{top_count, pred_count, query_count}
use Rattle.pq_lower.specs.Lowered.{first_expr, lowered_top, lowered_each, lowered}

-- the expressions are lawful, and their predicates have numbers below n
pub record AreGood (n : ℕ) (es : Exprs) : Type 0 where
  pub lawful : AreLawful es
  pub bounded : bounds es ≤ n

-- the same of one
abbrev pub IsGood : ℕ → ExprTree → Type 0
IsGood n e = AreGood n (exprs (e ∷ []))

nothing_good : (n : ℕ) → AreGood n no_exprs
nothing_good n = record { lawful = tt; bounded = omega arith }

one_good : (n : ℕ) (top : ExprTop) (below rest : Exprs) → HasOperands top below → top_bound top ≤ n → AreGood n below → AreGood n rest
    → AreGood n (set top below rest)
one_good n top below rest has small inner later = record {
  lawful = (has, inner.lawful, later.lawful);
  bounded = omega (arith, small, inner.bounded, later.bounded);
}

-- an expression before others
more_good : (n : ℕ) (e : ExprTree) (es : List ExprTree) → IsGood n e → AreGood n (exprs es) → AreGood n (exprs (e ∷ es))
more_good n e es own later = record { lawful = (own.lawful.0, own.lawful.1, later.lawful); bounded = omega (arith, own.bounded, later.bounded) }

first_good : (n : ℕ) (e : ExprTree) (es : List ExprTree) → AreGood n (exprs (e ∷ es)) → IsGood n e
first_good n e es all = record { lawful = (all.lawful.0, all.lawful.1, tt); bounded = omega (arith, all.bounded) }

two_good : (n : ℕ) (d e : ExprTree) → IsGood n d → IsGood n e → AreGood n (exprs (d ∷ e ∷ []))
two_good n d e first second = more_good n d (e ∷ []) first second

in_good : (n p : ℕ) → p < n → IsGood n (leaf (Inward p))
in_good n p small = one_good n (Inward p) no_exprs no_exprs tt (omega (arith, small)) (nothing_good n) (nothing_good n)

out_good : (n p : ℕ) → p < n → IsGood n (leaf (Outward p))
out_good n p small = one_good n (Outward p) no_exprs no_exprs tt (omega (arith, small)) (nothing_good n) (nothing_good n)

plain_good : (n : ℕ) → IsGood n (leaf EmptyWord)
plain_good n = one_good n EmptyWord no_exprs no_exprs tt (omega arith) (nothing_good n) (nothing_good n)

never_good : (n : ℕ) → IsGood n (leaf NoWord)
never_good n = one_good n NoWord no_exprs no_exprs tt (omega arith) (nothing_good n) (nothing_good n)

turn_good : (n : ℕ) (e : ExprTree) (es : List ExprTree) → AreGood n (exprs (e ∷ es)) → IsGood n (operator Turns (e ∷ es))
turn_good n e es all = one_good n Turns (exprs (e ∷ es)) no_exprs (λ h. cc) (omega arith) all (nothing_good n)

any_good : (n : ℕ) (e : ExprTree) (es : List ExprTree) → AreGood n (exprs (e ∷ es)) → IsGood n (operator Any (e ∷ es))
any_good n e es all = one_good n Any (exprs (e ∷ es)) no_exprs (λ h. cc) (omega arith) all (nothing_good n)

every_good : (n : ℕ) (e : ExprTree) (es : List ExprTree) → AreGood n (exprs (e ∷ es)) → IsGood n (operator Every (e ∷ es))
every_good n e es all = one_good n Every (exprs (e ∷ es)) no_exprs (λ h. cc) (omega arith) all (nothing_good n)

not_good : (n : ℕ) (e : ExprTree) → IsGood n e → IsGood n (operator Negated (e ∷ []))
not_good n e own = one_good n Negated (exprs (e ∷ [])) no_exprs (λ h. cc) (omega arith) own (nothing_good n)

star_good : (n : ℕ) (e : ExprTree) → IsGood n e → IsGood n (operator Stars (e ∷ []))
star_good n e own = one_good n Stars (exprs (e ∷ [])) no_exprs (λ h. cc) (omega arith) own (nothing_good n)

-- atoms
optional_good : (n t : ℕ) → t < n → IsGood n (optional_out t)
optional_good n t small =
    any_good n (leaf EmptyWord) (leaf (Outward t) ∷ []) (two_good n (leaf EmptyWord) (leaf (Outward t)) (plain_good n) (out_good n t small))

entry_good : (n t p : ℕ) → t < n → p < n → IsGood n (entry t p)
entry_good n t p small there =
    turn_good n (optional_out t) (leaf (Inward p) ∷ [])
    (two_good n (optional_out t) (leaf (Inward p)) (optional_good n t small) (in_good n p there))

hop_good : (n t p q : ℕ) → t < n → p < n → q < n → IsGood n (hop t p q)
hop_good n t p q small first second = turn_good n (optional_out t) (leaf (Inward p) ∷ leaf (Outward q) ∷ [])
    (more_good n (optional_out t) (leaf (Inward p) ∷ leaf (Outward q) ∷ []) (optional_good n t small)
    (two_good n (leaf (Inward p)) (leaf (Outward q)) (in_good n p first) (out_good n q second)))

-- operators
turn_of_good : (n : ℕ) (es : List ExprTree) → AreGood n (exprs es) → IsGood n (turn_of es)
turn_of_good n [] all = plain_good n
turn_of_good n (e ∷ es) all = turn_good n e es all

any_of_good : (n : ℕ) (es : List ExprTree) → AreGood n (exprs es) → IsGood n (any_of es)
any_of_good n [] all = never_good n
any_of_good n (e ∷ es) all = any_good n e es all

other_good : (n t : ℕ) (e : ExprTree) → t < n → IsGood n e → IsGood n (other_than t e)
other_good n t e small own =
    not_good n (operator Any (e ∷ leaf (Outward t) ∷ []))
    (any_good n e (leaf (Outward t) ∷ []) (two_good n e (leaf (Outward t)) own (out_good n t small)))

all_of_good : (n t : ℕ) (es : List ExprTree) → t < n → AreGood n (exprs es) → IsGood n (all_of t es)
all_of_good n t [] small all = other_good n t (leaf NoWord) small (never_good n)
all_of_good n t (e ∷ es) small all = every_good n e es all

first_expr_good : (n : ℕ) (es : List ExprTree) → AreGood n (exprs es) → IsGood n (first_expr es)
first_expr_good n [] all = never_good n
first_expr_good n (e ∷ es) all = first_good n e es all

-- queries
top_good : (n t k : ℕ) (top : QueryTop) (below : Queries) → t < n → k + top_count top (pred_count below) ≤ n
    → (k + pred_count below ≤ n → AreGood n (exprs (lowered_each t k below))) → IsGood n (lowered_top t k top (lowered_each t k below))
top_good n t k (Enters p gs) below small few all = entry_good n t k small (omega (arith, few))
top_good n t k (Leaves p gs) below small few all = hop_good n t t k small small (omega (arith, few))
top_good n t k (Passes p gs q hs) below small few all = hop_good n t k (k + 1) small (omega (arith, few)) (omega (arith, few))
top_good n t k (Ends p) below small few all = hop_good n t k (k + 1) small (omega (arith, few)) (omega (arith, few))
top_good n t k InTurn below small few all = turn_of_good n (lowered_each t k below) (all few)
top_good n t k Either below small few all = any_of_good n (lowered_each t k below) (all few)
top_good n t k Both below small few all = all_of_good n t (lowered_each t k below) small (all few)
top_good n t k Other below small few all = other_good n t (first_expr (lowered_each t k below)) small (first_expr_good n (lowered_each t k below) (all few))
top_good n t k Repeated below small few all = star_good n (first_expr (lowered_each t k below)) (first_expr_good n (lowered_each t k below) (all few))

each_good : (n t k : ℕ) (qs : Queries) → t < n → k + pred_count qs ≤ n → AreGood n (exprs (lowered_each t k qs))
each_good n t k none small few = nothing_good n
each_good n t k (put top below rest) small few =
    let next = k + top_count top (pred_count below) in
    let own : next ≤ n = omega (arith, few) in
    let later : next + pred_count rest ≤ n = omega (arith, few) in
    more_good n (lowered_top t k top (lowered_each t k below)) (lowered_each t next rest)
    (top_good n t k top below small own (λ inner. each_good n t k below small inner)) (each_good n t next rest small later)

pub lowered_good : (n t k : ℕ) (q : QueryTree) → t < n → k + query_count q ≤ n → IsGood n (lowered t k q)
lowered_good n t k q small few = top_good n t k q.top q.below small few (λ inner. each_good n t k q.below small inner)
