-- Rests and sets of rests after a half step, one more at a time.
use Rattle.std.proofs.Common.{◌≡◌, ℕ, zero, suc, Bool, true, false, ◌&&◌, ◌||◌, ◌==◌, ◌<◌, ◌≤◌, ◌+◌, ◌⊎◌, inl, inr, List, [], ◌∷◌, ◌++◌}
use Rattle.std.proofs.Common.{◌-◌, rules, take, drop, length, refl, sym, subst, ◌∙◌, arith}
use Rattle.std.proofs.Math.Bool.{or-true, or_comm, and-false, or-false, and-true}
use Rattle.std.proofs.Math.Seq.{take-length, take-append_seam, drop-append_seam}
use Rattle.std.proofs.lemmas.List.{drop-drop, length-drop}
use Rattle.pq_expr.specs.Word.{HalfStep, Word}
use Rattle.pq_expr.specs.declared.expr.Expr.{Expr}
use Rattle.pq_expr.specs.Expr.{InTurn, Either, Both, ExprTree, Exprs, expr_tree, expr_trees}
use Rattle.pq_expr.specs.Language.{Language, joined, in_turn, repeated, holds, languages}
use Rattle.pq_expr.proofs.Cuts.{repeated_cons}
use Rattle.pq_deriv.specs.Parts.{members, set_of, first_part, behind_part, first_set, behind_set, first_gap, behind_gap, spread, set_before, wide}
use Rattle.pq_deriv.specs.Left.{Left, left, lefts, set_left, turn_left, top_left, repeated_left}
use Rattle.pq_deriv.specs.Stepped.{some_ends, stepped_left, IsSetStepped, AreStepped, AreSetsStepped}
use Rattle.pq_deriv.proofs.Reading.{parts_front, members_read}
use Rattle.pq_deriv.proofs.Spread.{first_read, behind_read, spread_gap, first_idle, behind_none, wide_none, widened_wide, wide_wide, some_idle, fewer_idle}
use Rattle.pq_deriv.proofs.Turns.{one_language, set_cons, set_ends, turn_stepped}

-- a member more
pub member_more : (left : Left) (l : HalfStep) (part rest : List ℕ) (old new later : List (List ℕ)) → ((v : Word) → left rest v ≡ left part (l ∷ v)) →
    ((P : Language) (w : Word) → set_left left P new w ≡ (joined (left rest) P w || set_left left P old w)) →
    (P : Language) (w : Word) → (set_left left P new w || stepped_left l left P later w) ≡ (set_left left P old w || stepped_left l left P (part ∷ later) w)
member_more left l part rest old new later steps puts P w =
    let same : left rest ≡ (λ v. left part (l ∷ v)) = one_language steps in
    rw (puts P w, same) (moved (joined (λ v. left part (l ∷ v)) P w) (set_left left P old w) (stepped_left l left P later w)) where
      moved : (j s u : Bool) → ((j || s) || u) ≡ (s || (j || u))
      moved true true u = refl
      moved true false u = refl
      moved false s u = refl

-- a set to which nothing is added
pub set_kept : (l : HalfStep) (e : ExprTree) (old stepped : List (List ℕ)) (r : List ℕ)
    → ((P : Language) (w : Word) → set_left (left e) P stepped w ≡ stepped_left l (left e) P old w) → r ≡ set_of stepped →
    IsSetStepped l e false old (members r)
set_kept l e old stepped r steps spelled P w = rw (spelled, members_read stepped, steps P w) (sym (or-false (stepped_left l (left e) P old w)))

-- a set to which the begun rest is added
pub set_begun : (l : HalfStep) (e : ExprTree) (old stepped new : List (List ℕ)) (start begun r : List ℕ)
    → ((P : Language) (w : Word) → set_left (left e) P stepped w ≡ stepped_left l (left e) P old w) →
    ((v : Word) → left e start v ≡ holds e v) → ((v : Word) → left e begun v ≡ left e start (l ∷ v)) →
    ((P : Language) (w : Word) → set_left (left e) P new w ≡ (joined (left e begun) P w || set_left (left e) P stepped w)) → r ≡ set_of new
    → IsSetStepped l e true old (members r)
set_begun l e old stepped new start begun r steps starts begins puts spelled P w =
    let same : left e begun ≡ (λ v. holds e (l ∷ v)) = one_language (λ v. begins v ∙ starts (l ∷ v)) in
    rw (spelled, members_read new, puts P w, same, steps P w) (or_comm (joined (λ v. holds e (l ∷ v)) P w) (stepped_left l (left e) P old w))

-- an operand in turn more
pub turn_more : (l : HalfStep) (e : Expr) (es : List Expr) (begins : Bool) (old set more : List ℕ)
    → IsSetStepped l (expr_tree e) begins (members (first_set old)) (members set) →
    AreSetsStepped l (expr_trees es) ((begins && holds (expr_tree e) []) || some_ends (left (expr_tree e)) (members (first_set old))) (behind_set old) more →
    AreSetsStepped l (expr_trees (e ∷ es)) begins old (set_before set more)
turn_more l e es begins old set more steps rest w =
    let Ps = languages (expr_trees es) in
    let ls = lefts (expr_trees es) in
    rw (first_read set more, behind_read set more, steps (in_turn Ps) w, rest w)
    (turn_stepped begins (holds (expr_tree e)) Ps (left (expr_tree e)) (members (first_set old)) l w
    (turn_left Ps ls (spread (length Ps) (behind_set old)) (l ∷ w)))

-- the number of empty sets apart from what is after it
pub sets_whole : (l : HalfStep) (es : Exprs) (begins : Bool) (old new : List ℕ)
    → AreSetsStepped l es begins (first_gap old ∷ behind_gap old) new → AreSetsStepped l es begins old new
sets_whole l es begins old new steps w = rw (← spread_gap (length (languages es)) old) (steps w)

-- after an empty set
sets_behind : (l : HalfStep) (es : Exprs) (gap : ℕ) (left new : List ℕ) → (0 < gap) ⊎ (length left ≡ 0)
    → AreSetsStepped l es false ((gap - 1) ∷ left) new → AreSetsStepped l es false (behind_set (gap ∷ left)) new
sets_behind l es gap left new (inl some) steps = rw (behind_none gap left some) steps
sets_behind l es gap (n ∷ left) new (inr none) steps = absurd (omega (arith, none))
sets_behind l es zero [] new (inr none) steps = sets_whole l es false [] new steps
sets_behind l es (suc gap) [] new (inr none) steps = let less : suc gap - 1 ≡ gap = omega arith in rw (← less) steps

-- operands that aren't begun, and don't begin
pub sets_skipped : (l : HalfStep) (k gap : ℕ) (left more : List ℕ) (es : List Expr) → k ≤ length es → (k ≤ gap) ⊎ (length left ≡ 0)
    → AreSetsStepped l (expr_trees (drop k es)) false ((gap - k) ∷ left) more
    → AreSetsStepped l (expr_trees es) false (gap ∷ left) (wide k more)
sets_skipped l zero gap left more es few idle steps = let all : gap - 0 ≡ gap = omega arith in rw (wide_none more) (rw all at steps)
sets_skipped l (suc k) gap left more [] few idle steps = absurd (omega (arith, few))
sets_skipped l (suc k) gap left more (e ∷ es) few idle steps =
    let less : gap - suc k ≡ gap - 1 - k = omega arith in
    let later : AreSetsStepped l (expr_trees es) false ((gap - 1) ∷ left) (wide k more) =
    sets_skipped l k (gap - 1) left more es (omega (arith, few)) (fewer_idle k gap left idle) (rw less at steps) in
    let none : first_set (gap ∷ left) ≡ [] = first_idle gap left (some_idle k gap left idle) in
    subst (AreSetsStepped l (expr_trees (e ∷ es)) false (gap ∷ left)) (widened_wide k more)
    (turn_more l e es false (gap ∷ left) [] (wide k more) (rw none (λ P w. refl))
    (rw none (sets_behind l (expr_trees es) gap left (wide k more) (some_idle k gap left idle) later)))

-- where operands begin, none is passed over
pub sets_idle : (l : HalfStep) (begins : Bool) (k gap : ℕ) (left more : List ℕ) (es : List Expr) → k ≤ length es → (begins ≡ true → k ≡ 0)
    → (k ≤ gap) ⊎ (length left ≡ 0) → AreSetsStepped l (expr_trees (drop k es)) begins ((gap - k) ∷ left) more
    → AreSetsStepped l (expr_trees es) begins (gap ∷ left) (wide k more)
sets_idle l false k gap left more es few none idle steps = sets_skipped l k gap left more es few idle steps
sets_idle l true k gap left more es few none idle steps =
    let zero_is : k ≡ 0 = none refl in
    let all : gap - 0 ≡ gap = omega arith in
    rw (zero_is, wide_none more) (rw (zero_is, all) at steps)

-- operands that are passed over, after others
pub idle_left : (l : HalfStep) (begins : Bool) (i k gap empties : ℕ) (left out : List ℕ) (es : List Expr) (W : List ℕ → Type 0)
    → k ≤ length es - i → (begins ≡ true → k ≡ 0) → (k ≤ gap) ⊎ (length left ≡ 0)
    → ((more : List ℕ) → AreSetsStepped l (expr_trees (drop i es)) begins (gap ∷ left) more → W (out ++ wide empties more))
    → (more : List ℕ) → AreSetsStepped l (expr_trees (drop (i + k) es)) begins ((gap - k) ∷ left) more → W (out ++ wide (empties + k) more)
idle_left l begins i k gap empties left out es W few none idle before more steps =
    let here : AreSetsStepped l (expr_trees (drop k (drop i es))) begins ((gap - k) ∷ left) more = rw (drop-drop k i es) steps in
    subst (λ r. W (out ++ r)) (wide_wide empties k more)
    (before (wide k more) (sets_idle l begins k gap left more (drop i es) (omega (arith, few, length-drop i es)) none idle here))

-- no operand is left
pub turn_over : (l : HalfStep) (begins : Bool) (old new : List ℕ) → AreSetsStepped l (expr_trees []) begins old new
turn_over l begins old new w = rw (and-false begins) refl

pub turn_whole : (l : HalfStep) (es : List Expr) (old new : List ℕ) → (length es == 0) ≡ false → AreSetsStepped l (expr_trees es) false old new → (w : Word) →
    top_left InTurn (languages (expr_trees es)) (lefts (expr_trees es)) new w ≡ top_left InTurn (languages (expr_trees es)) (lefts (expr_trees es)) old (l ∷ w)
turn_whole l [] old new some steps w = absurd (search (some, rules))
turn_whole l (e ∷ es) old new some steps w = steps w

-- a rest more
pub rest_more : (l : HalfStep) (e : Expr) (es : List Expr) (old r more : List ℕ)
    → ((w : Word) → left (expr_tree e) r w ≡ left (expr_tree e) (first_part old) (l ∷ w)) →
    AreStepped l (expr_trees es) (behind_part old) more → AreStepped l (expr_trees (e ∷ es)) old ((length r ∷ r) ++ more)
rest_more l e es old r more steps rest w =
    rw (take-append_seam r more, drop-append_seam r more, parts_front (length (lefts (expr_trees es))) old, steps w, rest w) refl

pub either_steps : (l : HalfStep) (es : Exprs) (old new : List ℕ) → AreStepped l es old new → (w : Word)
    → top_left Either (languages es) (lefts es) new w ≡ top_left Either (languages es) (lefts es) old (l ∷ w)
either_steps l es old new steps w = rw (steps w) refl

pub both_step : (l : HalfStep) (es : Exprs) (old new : List ℕ) → AreStepped l es old new → (w : Word)
    → top_left Both (languages es) (lefts es) new w ≡ top_left Both (languages es) (lefts es) old (l ∷ w)
both_step l es old new steps w = rw (steps w) refl

-- a repetition
starred : (f a j s : Bool) → (s || (((f && true) || (a && true)) && j)) ≡ ((f && j) || ((a && j) || s))
starred f a true true = simp or-true refl
starred f a true false = simp (and-true, or-false) refl
starred f a false true = simp or-true refl
starred f a false false = simp and-false refl

pub repetition_steps : (l : HalfStep) (e : ExprTree) (old new : List ℕ) → 0 < length old →
    IsSetStepped l e (repeated_left (holds e) (left e) old []) (members (take (length old - 1) (drop 1 old))) (members new) →
    (w : Word) → repeated_left (holds e) (left e) (0 ∷ new) w ≡ repeated_left (holds e) (left e) old (l ∷ w)
repetition_steps l e [] new some steps w = absurd (omega (arith, some))
repetition_steps l e (fresh ∷ set) new some steps w =
    let all = repeated (holds e) in
    let count : length (fresh ∷ set) - 1 ≡ length set = omega arith in
    let stepped = rw (count, take-length set) at steps in
    stepped all w ∙ rw (set_ends (left e) all (members set), set_cons (left e) all l w (members set), repeated_cons (holds e) l w)
    (starred (fresh == 1) (some_ends (left e) (members set)) (joined (λ v. holds e (l ∷ v)) all w) (stepped_left l (left e) all (members set) w))
