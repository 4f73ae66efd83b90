-- How many rests an expression has.
use Rattle.std.proofs.Common.{◌≡◌, ℕ, suc, true, ◌≤◌, ◌*◌, ◌^◌, inl, inr, List, [], ◌∷◌, length, map, nat_eq, arith, refl, sym, ap, subst, ◌∙◌, rules}
use Rattle.std.specs.List.{AllByRecursion, IsDistinct, list_any, sum}
use Rattle.std.specs.List.Sorted.{IsStrictlySortedBy}
use Rattle.std.specs.Ordering.{nat_cmp}
use Rattle.std.specs.Cmp.Lexicographic.{pointwise, slice_cmp, nat_list_eq_equiv, nat_list_cmp_total, same_text}
use Rattle.std.proofs.lemmas.Bool.{or_left, or_right, or_cases}
use Rattle.std.proofs.lemmas.List.{length-map, length-append}
use Rattle.std.proofs.lemmas.List.Sums.{sum_by-cons}
use Rattle.std.proofs.lemmas.Map.Made.{length-le_from_is_member}
use Rattle.std.proofs.lemmas.Nat.{mul-le, pow-add}
use Rattle.std.proofs.Math.Nat.{pow-le-pow_right, pow-succ'}
use Rattle.pq_lists.proofs.Holding.{all_weaker}
use Rattle.pq_expr.specs.Expr.{ExprTop, NoWord, EmptyWord, Enters, Leaves, InTurn, Either, Both, Other, Repeated, Exprs, none, put}
use Rattle.pq_expr.specs.Expr.{ExprTree, HasOperands, AreLawful, IsLawful}
use Rattle.pq_deriv.specs.Parts.{spelled, set_of, packed}
use Rattle.pq_deriv.specs.Choices.{IsOneOf, choices, sublists}
use Rattle.pq_deriv.specs.Most.{product, first_number, top_most, mosts, most}
use Rattle.pq_deriv.specs.Rests.{ascending, AreMembers, sets, first_rests, top_rests, rests, all_rests, IsRest}
use Rattle.pq_deriv.proofs.Members.{same_lists}
use Rattle.pq_deriv.proofs.Choices.{one_changed, count_chosen, count_sublists}
use Rattle.pq_deriv.proofs.Ascending.{one_sublist, ascends_inserted, count_inserted, one_kept, one_inserted}

-- the rests in ascending order
ascends : (U : List (List ℕ)) → IsStrictlySortedBy (slice_cmp nat_cmp) (ascending U)
unfolding IsStrictlySortedBy
ascends [] = tt
ascends (r ∷ U) = ascends_inserted (slice_cmp nat_cmp) nat_list_cmp_total (ascending U) r (ascends U)

one_ascending : (U : List (List ℕ)) (r : List ℕ) → IsOneOf U r → IsOneOf (ascending U) r
one_ascending [] r one = absurd one
one_ascending (s ∷ U) r (inl is) = subst (IsOneOf (ascending (s ∷ U))) is (one_inserted (slice_cmp nat_cmp) nat_list_cmp_total same_lists (ascending U) s)
one_ascending (s ∷ U) r (inr one) = one_kept (slice_cmp nat_cmp) nat_list_cmp_total (ascending U) s r (one_ascending U r one)

count_ascending : (U : List (List ℕ)) → length (ascending U) ≤ length U
count_ascending [] = omega arith
count_ascending (r ∷ U) = omega (arith, count_ascending U, count_inserted (slice_cmp nat_cmp) nat_list_cmp_total (ascending U) r)

-- members make a set
pub one_set : (U set : List (List ℕ)) → AreMembers U set → IsOneOf (sets U) (set_of set)
one_set U set members =
    one_changed set_of (sublists (ascending U)) set
    (one_sublist (slice_cmp nat_cmp) nat_list_cmp_total (ascending U) set (ascends U) members.0
    (all_weaker (IsOneOf U) (IsOneOf (ascending U)) (one_ascending U) set members.1))

count_sets : (U : List (List ℕ)) (n : ℕ) → length U ≤ n → length (sets U) ≤ 2 ^ n
count_sets U n few =
    let fewer : length (ascending U) ≤ n = omega (arith, count_ascending U, few) in
    let power : 2 ^ length (ascending U) ≤ 2 ^ n = pow-le-pow_right (omega arith) fewer in
    omega (arith, length-map (sublists (ascending U)) set_of, count_sublists (ascending U), power)

-- each list has no more elements than its number says
abbrev AreFew : List (List (List ℕ)) → List ℕ → Type 0
AreFew [] [] = Unit {0}
AreFew [] (n ∷ ns) = ⊥
AreFew (U ∷ Us) [] = ⊥
AreFew (U ∷ Us) (n ∷ ns) = (length U ≤ n) × AreFew Us ns

count_choices : (Us : List (List (List ℕ))) (ns : List ℕ) → AreFew Us ns → length (choices Us) ≤ product ns
count_choices [] [] few = omega arith
count_choices [] (n ∷ ns) few = absurd few
count_choices (U ∷ Us) [] few = absurd few
count_choices (U ∷ Us) (n ∷ ns) few =
    let each = mul-le (length U) (length (choices Us)) n (product ns) few.0 (count_choices Us ns few.1) in
    omega (arith, each, count_chosen (choices Us) U)

count_turns : (Us : List (List (List ℕ))) (ns : List ℕ) → AreFew Us ns → length (choices (map sets Us)) ≤ 2 ^ sum ns
count_turns [] [] few = omega arith
count_turns [] (n ∷ ns) few = absurd few
count_turns (U ∷ Us) [] few = absurd few
count_turns (U ∷ Us) (n ∷ ns) few =
    let each = mul-le (length (sets U)) (length (choices (map sets Us))) (2 ^ n) (2 ^ sum ns) (count_sets U n few.0) (count_turns Us ns few.1) in
    let power : 2 ^ sum (n ∷ ns) ≡ 2 ^ n * 2 ^ sum ns = ap (λ (k : ℕ). 2 ^ k) (sum_by-cons (λ k. k) n ns) ∙ pow-add 2 n (sum ns) in
    omega (arith, each, count_chosen (choices (map sets Us)) (sets U), power)

count_first : (Us : List (List (List ℕ))) (ns : List ℕ) → AreFew Us ns → length (first_rests Us) ≤ first_number ns
count_first [] [] few = omega arith
count_first [] (n ∷ ns) few = absurd few
count_first (U ∷ Us) [] few = absurd few
count_first (U ∷ Us) (n ∷ ns) few = few.0

count_repeated : (Us : List (List (List ℕ))) (ns : List ℕ) → AreFew Us ns → length (top_rests Repeated Us) ≤ 2 ^ suc (first_number ns)
count_repeated Us ns few =
    let all = sets (first_rests Us) in
    let both = length-append (map (λ (set : List ℕ). 0 ∷ set) all) (map (λ (set : List ℕ). 1 ∷ set) all) in
    let begun = length-map all (λ (set : List ℕ). 0 ∷ set) in
    let fresh = length-map all (λ (set : List ℕ). 1 ∷ set) in
    omega (arith, both, begun, fresh, count_sets (first_rests Us) (first_number ns) (count_first Us ns few), pow-succ' 2 (first_number ns))

count_top : (top : ExprTop) (below : Exprs) (ns : List ℕ) → HasOperands top below → AreFew (rests below) ns
    → length (top_rests top (rests below)) ≤ top_most top ns
count_top NoWord below ns some few = omega arith
count_top EmptyWord below ns some few = omega arith
count_top (Enters p) below ns some few = omega arith
count_top (Leaves p) below ns some few = omega arith
count_top InTurn none ns some few = absurd (some refl)
count_top InTurn (put top below rest) ns some few =
    let Us = rests (put top below rest) in
    omega (arith, count_turns Us ns few, length-map (choices (map sets Us)) packed)
count_top Either below ns some few = omega (arith, count_choices (rests below) ns few, length-map (choices (rests below)) spelled)
count_top Both below ns some few = omega (arith, count_choices (rests below) ns few, length-map (choices (rests below)) spelled)
count_top Other below ns some few = count_first (rests below) ns few
count_top Repeated below ns some few = count_repeated (rests below) ns few

count_each : (es : Exprs) → AreLawful es → AreFew (rests es) (mosts es)
count_each none lawful = tt
count_each (put top below rest) lawful = (count_top top below (mosts below) lawful.0 (count_each below lawful.1), count_each rest lawful.2)

-- a lawful expression has at most this many rests
pub count_rests : (e : ExprTree) → IsLawful e → length (all_rests e) ≤ most e
count_rests e lawful = (count_each (put e.top e.below none) lawful).0

-- elements that are found
found : (P : List ℕ → Type 0) (rs : List (List ℕ)) (r : List ℕ) → AllByRecursion P rs → list_any (pointwise nat_eq r) rs ≡ true → P r
found P [] r all is = absurd (search (is, rules))
found P (s ∷ rs) r all is = elim (or_cases (pointwise nat_eq r s) (list_any (pointwise nat_eq r) rs) is) [
  | inl same ↦ subst P (sym (same_text r s (sym same))) all.0
  | inr later ↦ found P rs r all.1 later
]

pub finds : (rs : List (List ℕ)) (r : List ℕ) → IsOneOf rs r → list_any (pointwise nat_eq r) rs ≡ true
finds [] r one = absurd one
finds (s ∷ rs) r (inl is) = or_left (pointwise nat_eq r s) (list_any (pointwise nat_eq r) rs)
    (subst (λ (z : List ℕ). pointwise nat_eq r z ≡ true) (sym is) (nat_list_eq_equiv.refl r))
finds (s ∷ rs) r (inr one) = or_right (pointwise nat_eq r s) (list_any (pointwise nat_eq r) rs) (finds rs r one)

-- so rests of which no two are equal are at most this many
pub count_distinct : (e : ExprTree) → IsLawful e → (rs : List (List ℕ)) → IsDistinct (pointwise nat_eq) rs → AllByRecursion (IsRest e) rs → length rs ≤ most e
count_distinct e lawful rs distinct are =
    let fewer = length-le_from_is_member nat_list_eq_equiv rs (all_rests e) distinct (λ r is. finds (all_rests e) r (found (IsRest e) rs r are is)) in
    omega (arith, fewer, count_rests e lawful)
