-- Rests after a half step.
use Rattle.std.specs.Prelude.{◌≡◌, ℕ, Bool, ◌&&◌, ◌||◌, List, [], ◌∷◌, length, map}
use Rattle.std.specs.List.{list_any}
use Rattle.pq_expr.specs.Word.{HalfStep, Word}
use Rattle.pq_expr.specs.Expr.{ExprTree, Exprs}
use Rattle.pq_expr.specs.Language.{Language, joined, in_turn, languages, holds}
use Rattle.pq_deriv.specs.Parts.{parts, spread}
use Rattle.pq_deriv.specs.Left.{Left, left, lefts, set_left, turn_left, each_left}

-- some rest of the set accepts the empty word
abbrev pub some_ends : Left → List (List ℕ) → Bool
some_ends left set = list_any (λ r. left r []) set

-- what the members of the set accept after a half step, and then a word of the language
abbrev pub stepped_left : HalfStep → Left → Language → List (List ℕ) → Language
stepped_left l left P set w = list_any (λ r. joined (λ v. left r (l ∷ v)) P w) set

-- the new set has the members after the half step, and the begun one where one begins
abbrev pub IsSetStepped : HalfStep → ExprTree → Bool → List (List ℕ) → List (List ℕ) → Type 0
IsSetStepped l e begins old new = (P : Language) (w : Word)
    → set_left (left e) P new w ≡ (stepped_left l (left e) P old w || (begins && joined (λ v. holds e (l ∷ v)) P w))

-- each part is a rest that accepts what its expression holds
abbrev pub AreStarts : Exprs → List ℕ → Type 0
AreStarts es r = (w : Word) → each_left (lefts es) (parts (length (lefts es)) r) w ≡ map (λ P. P w) (languages es)

-- each new part is the rest of its expression that accepts what the old one accepts after the half step
abbrev pub AreStepped : HalfStep → Exprs → List ℕ → List ℕ → Type 0
AreStepped l es old new = (w : Word) → each_left (lefts es) (parts (length (lefts es)) new) w ≡ each_left (lefts es) (parts (length (lefts es)) old) (l ∷ w)

-- the new sets accept what the old ones accept after the half step, and what the operands hold after it where they begin
abbrev pub AreSetsStepped : HalfStep → Exprs → Bool → List ℕ → List ℕ → Type 0
AreSetsStepped l es begins old new = (w : Word) →
    turn_left (languages es) (lefts es) (spread (length (languages es)) new) w
    ≡ ((begins && in_turn (languages es) (l ∷ w)) || turn_left (languages es) (lefts es) (spread (length (languages es)) old) (l ∷ w))
