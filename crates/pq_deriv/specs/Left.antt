-- What an expression still accepts (after Brzozowski, Derivatives of Regular Expressions, 1964): its rest, numbers in parts that follow its shape, says which words.
use Rattle.std.specs.Prelude.{ℕ, Bool, false, not, ◌==◌, ◌&&◌, ◌||◌, if◌then◌else◌, List, [], ◌∷◌, length}
use Rattle.std.specs.List.{list_any, list_all}
use Rattle.std.proofs.Math.ListN.{get_or}
use Rattle.pq_expr.specs.declared.side.Side.{Side}
use Rattle.pq_expr.specs.declared.side.Side.TheVariants.{In, Out}
use Rattle.pq_expr.specs.Word.{Word}
use Rattle.pq_expr.specs.Expr.{ExprTop, NoWord, EmptyWord, Enters, Leaves, InTurn, Either, Both, Other, Repeated, Exprs, none, put, ExprTree}
use Rattle.pq_expr.specs.Language.{Language, is_empty, is_step, joined, in_turn, repeated, first, languages}
use Rattle.pq_deriv.specs.Parts.{parts, members, spread}

-- which words a rest still accepts
abbrev pub Left : Type 0
Left = List ℕ → Language

-- nothing was read yet
abbrev pub is_fresh : List ℕ → Bool
is_fresh r = get_or r 0 0 == 1

-- an atom that has not begun, is matched, or is dead
abbrev pub atom_left : Side → ℕ → ℕ → Language
atom_left s p n w = if n == 0 then is_step s p w else (n == 1 && is_empty w)

-- what some rest of the set accepts, and then a word of the language
abbrev pub set_left : Left → Language → List (List ℕ) → Language
set_left left P set w = list_any (λ r. joined (left r) P w) set

-- what the sets of operands that are one after another accept: a member of one set, and then all later operands
abbrev pub turn_left : List Language → List Left → List (List ℕ) → Language
turn_left [] lefts sets w = false
turn_left (P ∷ Ps) [] sets w = false
turn_left (P ∷ Ps) (left ∷ lefts) [] w = false
turn_left (P ∷ Ps) (left ∷ lefts) (set ∷ sets) w = set_left left (in_turn Ps) (members set) w || turn_left Ps lefts sets w

-- whether each rest accepts the word
abbrev pub each_left : List Left → List (List ℕ) → Word → List Bool
each_left [] rests w = []
each_left (left ∷ lefts) [] w = []
each_left (left ∷ lefts) (r ∷ rests) w = left r w ∷ each_left lefts rests w

-- what the first operand's rest accepts
abbrev pub first_left : List Left → Left
first_left [] r w = false
first_left (left ∷ lefts) r w = left r w

-- what a repetition accepts: any number of words where nothing was read, or what a member of the set accepts, and then any number of words
abbrev pub repeated_left : Language → Left → Left
repeated_left P left [] w = false
repeated_left P left (fresh ∷ set) w = (fresh == 1 && repeated P w) || set_left left (repeated P) (members set) w

-- what is accepted with this top, from the words of the operands and what their rests accept
abbrev pub top_left : ExprTop → List Language → List Left → Left
top_left NoWord Ps lefts r w = false
top_left EmptyWord Ps lefts r w = is_fresh r && is_empty w
top_left (Enters p) Ps lefts r w = atom_left In p (get_or r 0 0) w
top_left (Leaves p) Ps lefts r w = atom_left Out p (get_or r 0 0) w
top_left InTurn [] lefts r w = is_fresh r && is_empty w
top_left InTurn (P ∷ Ps) lefts r w = turn_left (P ∷ Ps) lefts (spread (length (P ∷ Ps)) r) w
top_left Either Ps lefts r w = list_any (λ b. b) (each_left lefts (parts (length lefts) r) w)
top_left Both Ps lefts r w = list_all (λ b. b) (each_left lefts (parts (length lefts) r) w)
top_left Other Ps lefts r w = not (first_left lefts r w)
top_left Repeated Ps lefts r w = repeated_left (first Ps) (first_left lefts) r w

-- what a rest of each of the expressions accepts
abbrev pub lefts : Exprs → List Left
lefts none = []
lefts (put top below rest) = top_left top (languages below) (lefts below) ∷ lefts rest

-- which words a rest of the expression accepts
abbrev pub left : ExprTree → Left
left e = top_left e.top (languages e.below) (lefts e.below)
