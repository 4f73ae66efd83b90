-- Sets of rests, and what is after them, at the empty word and after a half step.
use Rattle.std.proofs.Common.{◌≡◌, ℕ, suc, Bool, true, false, ◌&&◌, ◌||◌, List, [], ◌∷◌, refl, ap, ◌∙◌}
use Rattle.std.proofs.Math.Bool.{or-true, and-false, or-false, and-true}
use Rattle.std.specs.List.{list_all}
use Rattle.pq_expr.specs.Word.{HalfStep, Word}
use Rattle.pq_expr.specs.Language.{Language, joined, in_turn}
use Rattle.pq_expr.proofs.Cuts.{joined_cons, joined_empty}
use Rattle.pq_deriv.specs.Parts.{members, spread, first_set, behind_set}
use Rattle.pq_deriv.specs.Left.{Left, set_left, turn_left}
use Rattle.pq_deriv.specs.Stepped.{some_ends, stepped_left}

or_and : (a b c : Bool) → ((a && c) || (b && c)) ≡ ((a || b) && c)
or_and true true c = by c where
  by : (c : Bool) → (c || c) ≡ c
  by true = refl
  by false = refl
or_and true false c = or-false c
or_and false b c = refl

-- languages that hold the same words are one
pub one_language : {P Q : Language} → ((w : Word) → P w ≡ Q w) → P ≡ Q
one_language same = λ i w. same w i

-- a set before the empty word
pub set_ends : (left : Left) (P : Language) (set : List (List ℕ)) → set_left left P set [] ≡ (some_ends left set && P [])
set_ends left P [] = refl
set_ends left P (r ∷ set) = rw (joined_empty (left r) P, set_ends left P set) (or_and (left r []) (some_ends left set) (P []))

-- operands in turn before the empty word
pub turn_ends : (Ps : List Language) → in_turn Ps [] ≡ list_all (λ P. P []) Ps
turn_ends [] = refl
turn_ends (P ∷ Ps) = joined_empty P (in_turn Ps) ∙ ap (λ b. P [] && b) (turn_ends Ps)

mixed : (q a j A J : Bool) → (((a && q) || j) || ((A && q) || J)) ≡ (((a || A) && q) || (j || J))
mixed false a j A J = rw (and-false a, and-false A, and-false (a || A)) refl
mixed true true j A J = refl
mixed true false true A J = rw (and-true A, or-true A) refl
mixed true false false A J = refl

-- a set after a half step
pub set_cons : (left : Left) (P : Language) (l : HalfStep) (w : Word) (set : List (List ℕ))
    → set_left left P set (l ∷ w) ≡ ((some_ends left set && P (l ∷ w)) || stepped_left l left P set w)
set_cons left P l w [] = refl
set_cons left P l w (r ∷ set) =
    rw (joined_cons (left r) P l w, set_cons left P l w set)
    (mixed (P (l ∷ w)) (left r []) (joined (λ v. left r (l ∷ v)) P w) (some_ends left set) (stepped_left l left P set w))

-- the first operand's set, and the later ones
pub turn_front : (P : Language) (Ps : List Language) (left : Left) (lefts : List Left) (n : ℕ) (r : List ℕ) (w : Word) →
    turn_left (P ∷ Ps) (left ∷ lefts) (spread (suc n) r) w
    ≡ (set_left left (in_turn Ps) (members (first_set r)) w || turn_left Ps lefts (spread n (behind_set r)) w)
turn_front P Ps left lefts n r w = refl

-- a set that operands follow, before the empty word
ended : (b p t a u : Bool) → ((((b && p) || a) && t) || u) ≡ ((b && (p && t)) || ((a && t) || u))
ended false p t a u = refl
ended true false t a u = refl
ended true true false a u = rw (and-false a) refl
ended true true true a u = refl

pub turn_passed : (begins : Bool) (P : Language) (Ps : List Language) (left : Left) (set : List (List ℕ)) (u : Bool) →
    ((((begins && P []) || some_ends left set) && in_turn Ps []) || u) ≡ ((begins && in_turn (P ∷ Ps) []) || (set_left left (in_turn Ps) set [] || u))
turn_passed begins P Ps left set u = rw (joined_empty P (in_turn Ps), set_ends left (in_turn Ps) set)
    (ended begins (P []) (in_turn Ps []) (some_ends left set) u)

-- a set that operands follow, after a half step
juggled : (u s q b j a p : Bool) → ((s || (b && j)) || ((((b && p) || a) && q) || u)) ≡ ((b && ((p && q) || j)) || (((a && q) || s) || u))
juggled true s q b j a p = simp or-true refl
juggled false true q b j a p = simp (or-true, or-false) refl
juggled false false false b j a p = simp (and-false, or-false) refl
juggled false false true true true a p = simp (or-true, and-true) refl
juggled false false true true false a p = simp (or-false, and-true) refl
juggled false false true false j a p = simp (or-false, and-true) refl

pub turn_stepped : (begins : Bool) (P : Language) (Ps : List Language) (left : Left) (set : List (List ℕ)) (l : HalfStep) (w : Word) (u : Bool) →
    ((stepped_left l left (in_turn Ps) set w || (begins && joined (λ v. P (l ∷ v)) (in_turn Ps) w)) ||
    ((((begins && P []) || some_ends left set) && in_turn Ps (l ∷ w)) || u))
    ≡ ((begins && in_turn (P ∷ Ps) (l ∷ w)) || (set_left left (in_turn Ps) set (l ∷ w) || u))
turn_stepped begins P Ps left set l w u =
    rw (joined_cons P (in_turn Ps) l w, set_cons left (in_turn Ps) l w set)
    (juggled u (stepped_left l left (in_turn Ps) set w) (in_turn Ps (l ∷ w)) begins (joined (λ v. P (l ∷ v)) (in_turn Ps) w) (some_ends left set) (P []))
