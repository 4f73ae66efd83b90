-- What rests say of words of letters.
use Rattle.std.proofs.Common.{◌≡◌, ℕ, suc, ◌+◌, ◌*◌, ◌<◌, ◌≤◌, Bool, true, false, not, ◌==◌, if◌then◌else◌, List, [], ◌∷◌, ◌++◌, length}
use Rattle.std.proofs.Common.{map, Some, Result, Ok, Err, append-nil, append_assoc, drop, drop-cons, refl, sym, ap, ap₂, subst, ◌∙◌, arith}
use Rattle.std.specs.List.{slice_get}
use Rattle.std.specs.Result.{IfOk}
use Rattle.std.proofs.Math.ListN.{get_or}
use Rattle.pq_expr.specs.Word.{other_side}
use Rattle.pq_expr.specs.declared.expr.Expr.{Expr}
use Rattle.pq_expr.specs.Expr.{ExprTree, expr_tree, AreLawful, exprs}
use Rattle.pq_expr.specs.Language.{holds}
use Rattle.pq_deriv.specs.Most.{mosts, product}
use Rattle.pq_auto.specs.Exploration.{half_steps, half_steps_from, holding_from, IsExploration}
use Rattle.pq_auto.specs.Machine.{Machine, AllBelow, accepted_at, follow, has_even_length, is_even_at, reached}
use Rattle.pq_auto.specs.Rests.{Rest, after, alone, held, side_of, whole}
use Rattle.pq_auto.specs.Search.{run}
use Rattle.pq_auto.specs.Searched.{IsSearched}
use Rattle.pq_auto.specs.Tables.{holds_at, accepting, accepting_from, begin, steps}
use Rattle.pq_auto.specs.Telling.{IsTable, TellEach, HaveFew}
use Rattle.pq_auto.proofs.Assembled.{even_reached, accepted_reached}
use Rattle.pq_auto.proofs.FewRests.{even_behind}
use Rattle.pq_auto.proofs.Products.{led}

-- sides alternate
other : (b : Bool) → side_of (not b) ≡ other_side (side_of b)
other true = refl
other false = refl

-- what is held after a word
pub behind_word : (alphabet : List (List Bool)) (w : List ℕ) (r : Rest)
    → (run (after alphabet) r w).holds [] ≡ r.holds (half_steps_from (side_of r.even) alphabet w)
behind_word alphabet [] r = refl
behind_word alphabet (l ∷ w) r =
    behind_word alphabet w (after alphabet r l)
    ∙ ap (λ s. r.holds (record { side = side_of r.even; truth = get_or alphabet l [] } ∷ half_steps_from s alphabet w)) (other r.even)

-- the automaton that is found is that of the expression
pub found_explores : (alphabet : List (List Bool)) (e : ExprTree) (keys : List Rest) (t : Machine) → t.letters ≡ length alphabet
    → IsSearched (after alphabet) (whole e) t.letters keys t.rows → length keys ≤ length t.rows
    → t.even ≡ map (λ r. r.even) keys → t.accepted ≡ map held keys → IsExploration (e ∷ []) alphabet t
found_explores alphabet e keys t letters searched all evens accepts = record {
  letters = letters;
  even = λ w below. even_reached (after alphabet) (whole e) t keys searched all (λ r. r.even) held evens accepts w
      (subst (λ n. AllBelow n w) (sym letters) below) ∙ even_behind alphabet w (whole e);
  accepted = λ w below. accepted_reached (after alphabet) (whole e) t keys searched all (λ r. r.even) held evens accepts w
      (subst (λ n. AllBelow n w) (sym letters) below) ∙ ap alone (behind_word alphabet w (whole e));
}

-- what an automaton of one expression says of a state
alone_holds : (b : Bool) → not (length (alone b) == 0) ≡ b
alone_holds true = refl
alone_holds false = refl

-- the places of the automata that hold the word are those of the expressions
pub accepting_holding : (alphabet : List (List Bool)) (w : List ℕ) → AllBelow (length alphabet) w
    → (i : ℕ) (ts : List Machine) (es : List ExprTree) (k : List ℕ) → TellEach alphabet ts es
    → ((j : ℕ) (t : Machine) → slice_get ts j ≡ Some t → get_or k (suc (i + j)) 0 ≡ follow t.rows 0 w)
    → accepting_from i ts k ≡ holding_from i es (half_steps alphabet w)
accepting_holding alphabet w below i [] [] k tell led = refl
accepting_holding alphabet w below i [] (e ∷ es) k tell led = absurd tell
accepting_holding alphabet w below i (t ∷ ts) [] k tell led = absurd tell
accepting_holding alphabet w below i (t ∷ ts) (e ∷ es) k tell led =
    let here : get_or k (suc i) 0 ≡ follow t.rows 0 w = ap (λ n. get_or k (suc n) 0) (plus_zero i) ∙ led 0 t refl in
    let told : holds_at t (get_or k (suc i) 0) ≡ holds e (half_steps alphabet w) = ap (holds_at t) here
    ∙ ap (λ ns. not (length ns == 0)) (tell.0.0.accepted w below) ∙ alone_holds (holds e (half_steps alphabet w)) in
    let rest = accepting_holding alphabet w below (suc i) ts es k tell.1 (λ j u at. ap (λ n. get_or k (suc n) 0) (plus_suc i j) ∙ led (suc j) u at) in
    ap₂ (λ b ns. if b then i ∷ ns else ns) told rest
  where
    plus_zero : (n : ℕ) → n ≡ n + 0
    plus_zero n = omega arith

    plus_suc : (n m : ℕ) → suc n + m ≡ n + suc m
    plus_suc n m = omega arith

-- there is one automaton for each expression
pub one_each : (alphabet : List (List Bool)) (ts : List Machine) (es : List ExprTree) → TellEach alphabet ts es → length ts ≡ length es
one_each alphabet [] [] tell = refl
one_each alphabet [] (e ∷ es) tell = absurd tell
one_each alphabet (t ∷ ts) [] tell = absurd tell
one_each alphabet (t ∷ ts) (e ∷ es) tell = ap suc (one_each alphabet ts es tell.1)

-- the automaton of all of them explores the expressions
pub explores : (alphabet : List (List Bool)) (ts : List Machine) (es : List ExprTree) (a : Machine) → TellEach alphabet ts es → a.letters ≡ length alphabet
    → ((w : List ℕ) → AllBelow (length alphabet) w → is_even_at a (reached a w) ≡ has_even_length w)
    → ((w : List ℕ) → AllBelow (length alphabet) w → accepted_at a (reached a w) ≡ accepting ts (run (steps ts) (begin ts) w)) → IsExploration es alphabet a
explores alphabet ts es a tell letters even accepted = record {
  letters = letters;
  even = even;
  accepted = λ w below. accepted w below
      ∙ accepting_holding alphabet w below 0 ts es (run (steps ts) (begin ts) w) tell
      (λ j t at. ap (λ n. get_or (run (steps ts) (begin ts) w) (suc n) 0) (plus_none j) ∙ led ts j t at w);
}
  where
    plus_none : (n : ℕ) → 0 + n ≡ n
    plus_none n = omega arith

-- no expression is left
pub tell_all : (alphabet : List (List Bool)) (ts : List Machine) (es left : List ExprTree) → left ≡ []
    → ((more : List Machine) → TellEach alphabet more left → TellEach alphabet (ts ++ more) es) → TellEach alphabet ts es
tell_all alphabet ts es left none tell = subst (λ us. TellEach alphabet us es) (append-nil ts) (tell [] (subst (TellEach alphabet []) (sym none) tt))

-- the automaton of all of them, where there is memory for it, explores the expressions
pub explores_ok : {E : Type 0} (alphabet : List (List Bool)) (letters : ℕ) (ts : List Machine) (es : List ExprTree) (r : Result Machine E)
    → TellEach alphabet ts es → letters ≡ length alphabet → IfOk r (λ a. a.letters ≡ letters)
    → IfOk r (λ a. (w : List ℕ) → AllBelow letters w → is_even_at a (reached a w) ≡ has_even_length w)
    → IfOk r (λ a. (w : List ℕ) → AllBelow letters w → accepted_at a (reached a w) ≡ accepting ts (run (steps ts) (begin ts) w))
    → IfOk r (IsExploration es alphabet)
explores_ok alphabet letters ts es (Ok a) tell count long even accepted =
    explores alphabet ts es a tell (long ∙ count) (λ w below. even w (subst (λ n. AllBelow n w) (sym count) below))
    (λ w below. accepted w (subst (λ n. AllBelow n w) (sym count) below))
explores_ok alphabet letters ts es (Err e) tell count long even accepted = tt

-- one expression more
pub tell_more : (alphabet : List (List Bool)) (exprs : List Expr) (i : ℕ) (e : Expr) (ts pushed : List Machine) (t : Machine)
    → i < length exprs → e ≡ get_or exprs i e → pushed ≡ ts ++ t ∷ [] → IsTable alphabet t (expr_tree e)
    → ((more : List Machine) → TellEach alphabet more (map expr_tree (drop i exprs)) → TellEach alphabet (ts ++ more) (map expr_tree exprs))
    → (more : List Machine) → TellEach alphabet more (map expr_tree (drop (i + 1) exprs)) → TellEach alphabet (pushed ++ more) (map expr_tree exprs)
tell_more alphabet exprs i e ts pushed t h is grown own before more tell =
    let place : i + 1 ≡ suc i = omega arith in
    let next : drop i exprs ≡ e ∷ drop (i + 1) exprs = drop-cons exprs i e h ∙ ap (λ u. u ∷ drop (suc i) exprs) (sym is)
    ∙ ap (λ n. e ∷ drop n exprs) (sym place) in
    let whole : TellEach alphabet (t ∷ more) (map expr_tree (drop i exprs)) =
    subst (λ xs. TellEach alphabet (t ∷ more) (map expr_tree xs)) (sym next) (own, tell) in
    subst (λ us. TellEach alphabet us (map expr_tree exprs)) (sym (ap (λ us. us ++ more) grown ∙ append_assoc ts (t ∷ []) more)) (before (t ∷ more) whole)

-- automata of lawful expressions have few states
few_each : (alphabet : List (List Bool)) (ts : List Machine) (es : List ExprTree) → TellEach alphabet ts es → AreLawful (exprs es)
    → HaveFew (length alphabet) ts (mosts (exprs es))
few_each alphabet [] [] tell lawful = tt
few_each alphabet [] (e ∷ es) tell lawful = absurd tell
few_each alphabet (t ∷ ts) [] tell lawful = absurd tell
few_each alphabet (t ∷ ts) (e ∷ es) tell lawful = (tell.0.1 (lawful.0, lawful.1, tt), few_each alphabet ts es tell.1 lawful.2)

-- the automaton of all of them, where there is memory for it, has few states
pub few_ok : {E : Type 0} (alphabet : List (List Bool)) (letters : ℕ) (ts : List Machine) (es : List ExprTree) (r : Result Machine E)
    → TellEach alphabet ts es → letters ≡ length alphabet
    → IfOk r (λ a. (ms : List ℕ) → HaveFew letters ts ms → length a.rows ≤ 2 * product ms)
    → IfOk r (λ a. AreLawful (exprs es) → length a.rows ≤ 2 * product (mosts (exprs es)))
few_ok alphabet letters ts es (Ok a) tell count few =
    λ lawful. few (mosts (exprs es)) (subst (λ n. HaveFew n ts (mosts (exprs es))) (sym count) (few_each alphabet ts es tell lawful))
few_ok alphabet letters ts es (Err e) tell count few = tt
