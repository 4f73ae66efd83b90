-- How states compare: by their expressions, and then by the numbers of their rests.
use Rattle.std.specs.Prelude.{◌≡◌, ◌++◌, ℕ, Bool, true, List, nat_eq}
use mathlib.Core.Path.{sym, ap₂}
use Rattle.std.specs.Hash as fed
use Rattle.std.specs.Ordering.{on, eq_of_both, then_cmp, is_eq, nat_cmp}
use Rattle.std.specs.Cmp.{IsPartialEquivalence, IsEquivalence, IsTotalOrder, and_per, and_equiv, on_per, on_equiv, on_total, then_total}
use Rattle.std.specs.Cmp.{both_tied, first_so, second_so, partial_equiv_from_equiv}
use Rattle.std.specs.Cmp.Lexicographic.{pointwise, slice_cmp, nat_list_eq_equiv, nat_list_cmp_total, texts_ties, same_text}
use Rattle.std.specs.declared.cmp.Ordering.{Ordering}
use Rattle.pq_expr.specs.declared.expr.Expr.{Expr}
use Rattle.pq_expr.specs.contracts.expr.ExprPartialEq.TheImpl as equality
use Rattle.pq_expr.specs.contracts.expr.ExprEq.TheImpl as equivalence
use Rattle.pq_expr.specs.contracts.expr.ExprOrd.TheImpl as order
use Rattle.pq_expr.specs.contracts.expr.ExprHash.TheImpl as hashes
use Rattle.pq_deriv.specs.State.{StateValue}

-- whether two expressions are equal, as `==` answers
abbrev pub expr_eq : Expr → Expr → Bool
expr_eq = (equality.ghosts).eq

-- how two expressions compare, as `cmp` answers
abbrev pub expr_cmp : Expr → Expr → Ordering
expr_cmp = (order.ghosts).cmp

-- what `hash` writes of an expression
abbrev pub expr_hash : Expr → List (List ℕ)
expr_hash = (hashes.ghosts).hash_input

-- whether two states are equal
abbrev pub state_eq : StateValue → StateValue → Bool
state_eq = eq_of_both (on (λ s. s.expr) expr_eq) (on (λ s. s.rest) (pointwise nat_eq))

-- how two states compare
abbrev pub state_cmp : StateValue → StateValue → Ordering
state_cmp = then_cmp (on (λ s. s.expr) expr_cmp) (on (λ s. s.rest) (slice_cmp nat_cmp))

-- what `hash` writes of a state
abbrev pub state_hash : StateValue → List (List ℕ)
state_hash s = expr_hash s.expr ++ fed.slice fed.u64 s.rest

-- the laws of equality and order
pub state_per : IsPartialEquivalence state_eq
state_per = and_per (on_per (λ s. s.expr) equality.Laws.laws-law) (on_per (λ s. s.rest) (partial_equiv_from_equiv nat_list_eq_equiv))

pub state_equiv : IsEquivalence state_eq
state_equiv = and_equiv (on_equiv (λ s. s.expr) equivalence.Laws.laws-law) (on_equiv (λ s. s.rest) nat_list_eq_equiv)

pub state_total : IsTotalOrder state_cmp
state_total = then_total (on_total (λ s. s.expr) order.Laws.total-law) (on_total (λ s. s.rest) nat_list_cmp_total)

-- equal states are those between which the order tells nothing
pub state_ties : (a b : StateValue) → state_eq a b ≡ is_eq (state_cmp a b)
state_ties a b = both_tied (expr_eq a.expr b.expr) (pointwise nat_eq a.rest b.rest) (expr_cmp a.expr b.expr)
    (slice_cmp nat_cmp a.rest b.rest) (order.Laws.matches_eq-law a.expr b.expr) (texts_ties a.rest b.rest)

-- equal states have one rest
pub state_rests : (a b : StateValue) → state_eq a b ≡ true → a.rest ≡ b.rest
state_rests a b same = same_text a.rest b.rest (sym (second_so (expr_eq a.expr b.expr) (pointwise nat_eq a.rest b.rest) same))

-- equal states of one expression are one
pub same_state : (a b : StateValue) → a.expr ≡ b.expr → state_eq a b ≡ true → a ≡ b
same_state a b expr same = ap₂ (λ e r. record { expr = e; rest = r }) expr (state_rests a b same)

-- equal states write the same
pub state_hashes : (a b : StateValue) → state_eq a b ≡ true → state_hash a ≡ state_hash b
state_hashes a b same =
    ap₂ (λ h r. h ++ fed.slice fed.u64 r)
    (hashes.Laws.respects_eq-law a.expr b.expr (first_so (expr_eq a.expr b.expr) (pointwise nat_eq a.rest b.rest) same))
    (state_rests a b same)
