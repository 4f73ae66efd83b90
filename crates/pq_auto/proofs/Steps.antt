-- Steps that are counted: one for each letter of each state.
use Rattle.std.proofs.Common.{◌≡◌, ◌<◌, ◌≤◌, ◌+◌, ◌*◌, ℕ, Bool, suc, List, [], ◌∷◌, ◌++◌, length, drop, get_or, ap, subst, ◌∙◌, arith}
use Rattle.std.proofs.Common.{length-append, Vec, Global}
use Rattle.std.specs.List.{IsDistinct, sum}
use Rattle.std.proofs.lemmas.List.Sums.{sum_by-cons}
use Rattle.std.proofs.lemmas.List.{length-map}
use Rattle.std.proofs.lemmas.Nat.{mul-le}
use Rattle.std.proofs.Math.Nat.{mul-add, mul_comm, suc-mul, zero-mul}
use Rattle.pq_lists.proofs.Places.{from_place}
use Rattle.pq_expr.specs.declared.expr.Expr.{Expr}
use Rattle.pq_expr.specs.Expr.{ExprTree, expr_tree, expr_trees, AreLawful, IsLawful}
use Rattle.pq_deriv.specs.Most.{most, mosts}
use Rattle.pq_deriv.specs.State.{StateValue}
use Rattle.pq_auto.specs.Machine.{Machine}
use Rattle.pq_auto.specs.Rests.{Rest, rest_of, rests, AreAlike, AreRestsOf}
use Rattle.pq_auto.specs.Searched.{IsSearched}
use Rattle.pq_auto.specs.Tables.{lists}
use Rattle.pq_auto.proofs.Assembled.{same_count}
use Rattle.pq_auto.proofs.Found.{all_rests}
use Rattle.pq_auto.specs.Met.{met_eq}
use Rattle.pq_auto.proofs.FewRests.{few_both}

-- no row was made yet
pub none_counted : {X : Type 0} (old : ℕ) (rows : List X) (letters : ℕ) → rows ≡ [] → old ≡ old + length rows * letters
none_counted old rows letters none = let no : length rows * letters ≡ 0 = ap (λ xs. length xs * letters) none ∙ zero-mul letters in omega (arith, no)

-- one row more
pub more_counted : {X : Type 0} (old now next : ℕ) (rows more : List X) (row : X) (letters : ℕ) → now ≡ old + length rows * letters
    → next ≡ now + letters → more ≡ rows ++ row ∷ [] → next ≡ old + length more * letters
more_counted old now next rows more row letters counted stepped grown =
    let long : length more ≡ suc (length rows) = omega (arith, ap length grown, length-append rows (row ∷ [])) in
    let each : length more * letters ≡ length rows * letters + letters = ap (λ n. n * letters) long ∙ suc-mul (length rows) letters in
    omega (arith, counted, stepped, each)

-- a lawful expression alone takes at most this many steps
pub steps_within : (e : ExprTree) (keys : List (StateValue × Bool)) (old new rows letters : ℕ) → new ≡ old + rows * letters
    → rows ≤ length keys → AreAlike keys → AreRestsOf e keys → IsDistinct met_eq keys → IsLawful e → new ≤ old + letters * (2 * most e)
steps_within e keys old new rows letters counted all alike are distinct lawful =
    let few : rows ≤ 2 * most e = omega (arith, all, few_both e keys alike are distinct lawful) in
    let each : letters * rows ≤ letters * (2 * most e) = mul-le letters rows letters (2 * most e) (omega arith) few in
    omega (arith, counted, each, mul_comm rows letters)

-- the sum is doubled part by part
doubled : (letters m s : ℕ) → letters * (2 * (m + s)) ≡ letters * (2 * m) + letters * (2 * s)
doubled letters m s = ap (λ n. letters * n) (omega arith) ∙ mul-add letters (2 * m) (2 * s)

-- one expression more
pub steps_more : (exprs : List Expr) (i : ℕ) (e : Expr) (letters now next most_of : ℕ) → i < length exprs → e ≡ get_or exprs i e
    → (IsLawful (expr_tree e) → next ≤ now + letters * (2 * most (expr_tree e)))
    → AreLawful (expr_trees (drop i exprs)) × (now + letters * (2 * sum (mosts (expr_trees (drop i exprs)))) ≤ most_of)
    → AreLawful (expr_trees (drop (i + 1) exprs)) × (next + letters * (2 * sum (mosts (expr_trees (drop (i + 1) exprs)))) ≤ most_of)
steps_more exprs i e letters now next most_of h is counted before =
    let first = from_place exprs i e h is in
    let here = subst (λ es. AreLawful (expr_trees es) × (now + letters * (2 * sum (mosts (expr_trees es))) ≤ most_of)) first before in
    let own : next ≤ now + letters * (2 * most (expr_tree e)) = counted (here.0.0, here.0.1, tt) in
    let rest = mosts (expr_trees (drop (i + 1) exprs)) in
    let all : letters * (2 * sum (most (expr_tree e) ∷ rest)) ≡ letters * (2 * most (expr_tree e)) + letters * (2 * sum rest) =
    ap (λ n. letters * (2 * n)) (sum_by-cons (λ k. k) (most (expr_tree e)) rest) ∙ doubled letters (most (expr_tree e)) (sum rest) in
    (here.0.2, omega (arith, own, all, here.1))

-- each row is that of a state
pub no_more_rows : (goes : Rest → ℕ → Rest) (begin : Rest) (letters : ℕ) (keys : List (StateValue × Bool)) (rows : List (Vec ℕ Global))
    → IsSearched goes begin letters (rests keys) (lists rows) → length keys ≤ length rows → length rows ≤ length keys
no_more_rows goes begin letters keys rows searched all =
    let a : Machine = record { letters = letters; rows = lists rows; even = []; accepted = [] } in
    let same = same_count goes begin a (rests keys) searched (all_rests keys rows all) in
    omega (arith, same, length-map keys rest_of, length-map rows (λ v. v.items))
