-- Lists of ports, and the writes of each port but one.
use Rattle.std.proofs.Common.{ℕ, ◌<◌, ◌≤◌, ◌≡◌, ◌∙◌, Bool, true, false, List, [], ◌∷◌, ◌++◌, length, drop, ◌==◌, if◌then◌else◌, inl, inr}
use Rattle.std.proofs.Common.{refl, sym, ap, subst, arith, append-nil}
use Rattle.std.specs.Prelude.{◌≢◌}
use Rattle.std.specs.Cmp.{nat_cmp_is}
use Rattle.std.specs.List.{All, Any, list_any}
use Rattle.std.specs.Ordering.{ordering_then}
use Rattle.std.specs.declared.cmp.Ordering.TheVariants.{Less, Equal as Same}
use Rattle.std.proofs.lemmas.Bool.{ne_eqb, or_parts}
use Rattle.std.proofs.lemmas.Bool.Decides.{eqb_tells}
use Rattle.std.proofs.lemmas.List.{drop_all}
use Rattle.std.proofs.lemmas.List.Elements.{All-cons, All-head, All-nil, All-tail}
use Rattle.std.proofs.lemmas.List.Kept.{AllPairs-cons}
use Rattle.pq_fields.specs.Order.{writes_cmp}
use Rattle.pq_fields.specs.Writes.{Written}
use Rattle.pq_model.specs.Lawful.{Ascends}
use Rattle.pq_model.specs.MatchFields.{IsPortNumber}
use Rattle.pq_topo.proofs.Ascending.{rest_ascends}
use Rattle.pq_rewrite.specs.Rewriting.{Ascend}
use Rattle.pq_rewrite.proofs.Sets.{any_cases, any_first, any_none, any_later}
use Rattle.pq_forward.specs.Flood.{at_others, at_port}

-- Ascending lists.

-- a list ascends without its second number
pub without_second : (p q : ℕ) (qs : List ℕ) → Ascends (p ∷ q ∷ qs) → Ascends (p ∷ qs)
without_second p q [] up = tt
without_second p q (r ∷ rs) up = (omega (arith, up.0, up.1.0), up.1.1)

-- and so do the numbers after some
pub last_ascend : (ps qs : List ℕ) → Ascends (ps ++ qs) → Ascends qs
last_ascend [] qs up = up
last_ascend (p ∷ ps) qs up = last_ascend ps qs (rest_ascends p (ps ++ qs) up)

-- The order of the writes of ports.

-- writes of two ports are in the order of the ports
port_before : (p q : ℕ) → p < q → writes_cmp (at_port p) (at_port q) ≡ Less
port_before p q less = ap (λ o. ordering_then o Same) (sym (nat_cmp_is p q Less less))

-- a port is before those after it
before_others : (own p : ℕ) (qs : List ℕ) → Ascends (p ∷ qs) → All (λ w. writes_cmp (at_port p) w ≡ Less) (at_others own qs)
before_others own p [] up = All-nil (λ w. writes_cmp (at_port p) w ≡ Less)
before_others own p (q ∷ qs) up = by (q == own) (before_others own p qs (without_second p q qs up))
  where
    by : (b : Bool) → All (λ w. writes_cmp (at_port p) w ≡ Less) (at_others own qs)
        → All (λ w. writes_cmp (at_port p) w ≡ Less) (if b then at_others own qs else at_port q ∷ at_others own qs)
    by true more = more
    by false more = All-cons (λ w. writes_cmp (at_port p) w ≡ Less) (at_port q) (at_others own qs) (port_before p q up.0) more

-- the writes of each port but one ascend
pub others_ascend : (own : ℕ) (ps : List ℕ) → Ascends ps → Ascend (at_others own ps)
others_ascend own [] up = λ i j d below within. absurd (omega arith)
others_ascend own (p ∷ ps) up = by (p == own) (others_ascend own ps (rest_ascends p ps up))
  where
    by : (b : Bool) → Ascend (at_others own ps) → Ascend (if b then at_others own ps else at_port p ∷ at_others own ps)
    by true more = more
    by false more = AllPairs-cons (λ v w. writes_cmp v w ≡ Less) (at_port p) (at_others own ps) (before_others own p ps up) more

-- Their list, port by port.

-- the writes so far, with those of the ports that are left, are all
abbrev pub IsListed : ℕ → List ℕ → ℕ → List Written → Type 0
IsListed own ps i ws = ws ++ at_others own (drop i ps) ≡ at_others own ps

-- at the end they are all
pub listed_last : (own : ℕ) (ps : List ℕ) (i : ℕ) (ws : List Written) → length ps ≤ i → IsListed own ps i ws → ws ≡ at_others own ps
listed_last own ps i ws done listed = sym (append-nil ws) ∙ (ap (λ qs. ws ++ at_others own qs) (sym (drop_all i ps done)) ∙ listed)

-- Membership.

-- the number is one of the ports
abbrev pub has : List ℕ → ℕ → Bool
has ps n = list_any (λ p. p == n) ps

-- all but one are all but another where neither is among them
others_same : (m n : ℕ) (ps : List ℕ) → has ps m ≡ false → has ps n ≡ false → at_others m ps ≡ at_others n ps
others_same m n [] none_m none_n = refl
others_same m n (p ∷ ps) none_m none_n =
    let first = or_parts (p == m) (has ps m) none_m in
    let second = or_parts (p == n) (has ps n) none_n in
    rw (first.0, second.0) (ap (λ ws. at_port p ∷ ws) (others_same m n ps first.1 second.1))

-- 0 is not a port
zero_no_port : (ps : List ℕ) → All IsPortNumber ps → has ps 0 ≡ false
zero_no_port [] all = refl
zero_no_port (p ∷ ps) all =
    let number : IsPortNumber p = All-head IsPortNumber p ps all in
    rw (ne_eqb p 0 (λ e. omega (arith, number.0, e))) (zero_no_port ps (All-tail IsPortNumber p ps all))

-- so a port that is not among them leaves out none
pub others_of : (n : ℕ) (ps : List ℕ) → All IsPortNumber ps → at_others (if has ps n then n else 0) ps ≡ at_others n ps
others_of n ps all = by (has ps n) refl
  where
    by : (b : Bool) → has ps n ≡ b → at_others (if b then n else 0) ps ≡ at_others n ps
    by true there = refl
    by false none = others_same 0 n ps (zero_no_port ps all) none

-- the writes of the ports but one that have this are of ports that do
pub any_of_others : (P : Written → Type 0) (own : ℕ) (ps : List ℕ) → Any P (at_others own ps) → Any (λ p. (p ≢ own) × P (at_port p)) ps
any_of_others P own [] any = absurd (any_none P any)
any_of_others P own (p ∷ ps) any = elim (eqb_tells p own) [
  | inl same ↦ any_later (λ q. (q ≢ own) × P (at_port q)) p ps (any_of_others P own ps (subst (Any P) (without same.0) any))
  | inr other ↦ elim (any_cases P (at_port p) (at_others own ps) (subst (Any P) (with other.0) any)) [
    | inl here ↦ any_first (λ q. (q ≢ own) × P (at_port q)) p ps (other.1, here)
    | inr later ↦ any_later (λ q. (q ≢ own) × P (at_port q)) p ps (any_of_others P own ps later)
  ]
]
  where
    without : (p == own) ≡ true → at_others own (p ∷ ps) ≡ at_others own ps
    without same = ap (λ b. if b then at_others own ps else at_port p ∷ at_others own ps) same

    with : (p == own) ≡ false → at_others own (p ∷ ps) ≡ at_port p ∷ at_others own ps
    with other = ap (λ b. if b then at_others own ps else at_port p ∷ at_others own ps) other

-- and back
pub others_of_any : (P : Written → Type 0) (own : ℕ) (ps : List ℕ) → Any (λ p. (p ≢ own) × P (at_port p)) ps → Any P (at_others own ps)
others_of_any P own [] any = absurd (any_none (λ q. (q ≢ own) × P (at_port q)) any)
others_of_any P own (p ∷ ps) any = elim (any_cases (λ q. (q ≢ own) × P (at_port q)) p ps any) [
  | inl here ↦ rw (ne_eqb p own here.0) (any_first P (at_port p) (at_others own ps) here.1)
  | inr later ↦ by (p == own) (others_of_any P own ps later)
]
  where
    by : (b : Bool) → Any P (at_others own ps) → Any P (if b then at_others own ps else at_port p ∷ at_others own ps)
    by true more = more
    by false more = any_later P (at_port p) (at_others own ps) more

-- what holds of the writes of each port but one holds of all of these
pub all_others : (P : Written → Type 0) (own : ℕ) (ps : List ℕ) → All (λ p. p ≢ own → P (at_port p)) ps → All P (at_others own ps)
all_others P own [] all = All-nil P
all_others P own (p ∷ ps) all = elim (eqb_tells p own) [
  | inl same ↦ rw same.0 (all_others P own ps (All-tail (λ q. q ≢ own → P (at_port q)) p ps all))
  | inr other ↦ rw other.0 (All-cons P (at_port p) (at_others own ps) (All-head (λ q. q ≢ own → P (at_port q)) p ps all other.1)
      (all_others P own ps (All-tail (λ q. q ≢ own → P (at_port q)) p ps all)))
]
