-- What rests accept before any half step.
use Rattle.std.proofs.Common.{◌≡◌, ℕ, zero, suc, Bool, true, false, ◌||◌, List, [], ◌∷◌, ◌++◌, ◌<◌, ◌==◌, rules, length, map, get_or, arith}
use Rattle.std.proofs.Common.{subst, refl, ap, ◌∙◌}
use Rattle.std.proofs.Math.Seq.{take-length, drop-length, take-append_seam, drop-append_seam}
use Rattle.std.specs.List.{list_all}
use Rattle.std.proofs.Math.Bool.{or-false}
use Rattle.pq_expr.specs.Word.{Word}
use Rattle.pq_expr.specs.declared.expr.Expr.{Expr}
use Rattle.pq_expr.specs.Expr.{InTurn, Either, Both, Exprs, expr_tree, expr_trees}
use Rattle.pq_expr.proofs.Cuts.{any_changed}
use Rattle.pq_expr.specs.Language.{Language, joined, in_turn, holds, languages, top_language}
use Rattle.pq_deriv.specs.Parts.{members, spread}
use Rattle.pq_deriv.specs.Left.{Left, left, lefts, turn_left, top_left}
use Rattle.pq_deriv.specs.Stepped.{AreStarts}
use Rattle.pq_deriv.proofs.Turns.{one_language}

-- a test of what languages hold
pub all_changed : {A B : Type 0} (f : A → B) (t : B → Bool) (xs : List A) → list_all t (map f xs) ≡ list_all (λ x. t (f x)) xs
all_changed f t [] = refl
all_changed f t (x ∷ xs) = rw (all_changed f t xs) refl

-- operands of which none is begun
pub none_begun : (Ps : List Language) (ls : List Left) (n : ℕ) (w : Word) → turn_left Ps ls (spread n []) w ≡ false
none_begun [] ls n w = refl
none_begun (P ∷ Ps) [] n w = refl
none_begun (P ∷ Ps) (l ∷ ls) zero w = refl
none_begun (P ∷ Ps) (l ∷ ls) (suc n) w = none_begun Ps ls n w

-- operands of which the first is begun
pub first_begun : (P : Language) (Ps : List Language) (l : Left) (ls : List Left) (set r : List ℕ) (w : Word) → members set ≡ (r ∷ [])
    → ((v : Word) → l r v ≡ P v) →
    turn_left (P ∷ Ps) (l ∷ ls) (spread (suc (length Ps)) (0 ∷ length set ∷ set)) w ≡ joined P (in_turn Ps) w
first_begun P Ps l ls set r w alone begun =
    let same : l r ≡ P = one_language begun in
    rw (take-length set, drop-length set, alone, none_begun Ps ls (length Ps) w)
    (or-false (joined (l r) (in_turn Ps) w || false) ∙ or-false (joined (l r) (in_turn Ps) w) ∙ ap (λ L. joined L (in_turn Ps) w) same)

alone : (r : List ℕ) → members (1 ∷ length r ∷ r) ≡ (r ∷ [])
alone r = rw (take-length r) refl

pub turn_begun : (es : List Expr) (e : Expr) (r : List ℕ) → 0 < length es → e ≡ get_or es 0 e
    → ((v : Word) → left (expr_tree e) r v ≡ holds (expr_tree e) v) → (w : Word) →
    top_left InTurn (languages (expr_trees es)) (lefts (expr_trees es)) (0 ∷ length (1 ∷ length r ∷ r) ∷ 1 ∷ length r ∷ r) w
    ≡ in_turn (languages (expr_trees es)) w
turn_begun [] e r some is begun w = absurd (omega (arith, some))
turn_begun (x ∷ es) e r some is begun w =
    first_begun (holds (expr_tree x)) (languages (expr_trees es)) (left (expr_tree x)) (lefts (expr_trees es)) (1 ∷ length r ∷ r) r w
    (alone r) (subst (λ (y : Expr). (v : Word) → left (expr_tree y) r v ≡ holds (expr_tree y) v) is begun)

-- one more expression
pub start_more : (e : Expr) (es : List Expr) (r more : List ℕ) → ((w : Word) → left (expr_tree e) r w ≡ holds (expr_tree e) w)
    → AreStarts (expr_trees es) more → AreStarts (expr_trees (e ∷ es)) ((length r ∷ r) ++ more)
start_more e es r more starts rest w = rw (take-append_seam r more, drop-append_seam r more, starts w, rest w) refl

-- some, or all, of the expressions
pub either_starts : (es : Exprs) (r : List ℕ) → AreStarts es r → (w : Word)
    → top_left Either (languages es) (lefts es) r w ≡ top_language Either (languages es) w
either_starts es r starts w = rw (starts w) (any_changed (λ P. P w) (λ b. b) (languages es))

pub both_start : (es : Exprs) (r : List ℕ) → AreStarts es r → (w : Word) → top_left Both (languages es) (lefts es) r w ≡ top_language Both (languages es) w
both_start es r starts w = rw (starts w) (all_changed (λ P. P w) (λ b. b) (languages es))

-- operands of which none is begun accept nothing
pub turn_dead : (es : List Expr) (r : List ℕ) → (length es == 0) ≡ false → (length r == 0) ≡ true → (w : Word)
    → top_left InTurn (languages (expr_trees es)) (lefts (expr_trees es)) r w ≡ false
turn_dead [] r some none w = absurd (search (some, rules))
turn_dead (e ∷ es) [] some none w = none_begun (languages (expr_trees (e ∷ es))) (lefts (expr_trees (e ∷ es))) (length (languages (expr_trees (e ∷ es)))) w
turn_dead (e ∷ es) (n ∷ r) some none w = absurd (search (none, rules))
