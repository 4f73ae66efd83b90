-- Lists of numbers that ascend.
use Rattle.std.specs.Prelude.{ℕ, ◌<◌, ◌≤◌, List, [], ◌∷◌, length, get_or, suc, zero}
use Rattle.std.proofs.Common.{arith}
use Rattle.pq_model.specs.Lawful.{Ascends}

-- what is after the first ascends
pub rest_ascends : (x : ℕ) (ys : List ℕ) → Ascends (x ∷ ys) → Ascends ys
rest_ascends x [] up = tt
rest_ascends x (y ∷ ys) up = up.1

-- the first is below each that follows
pub first_below : (x : ℕ) (ys : List ℕ) (i d : ℕ) → Ascends (x ∷ ys) → i < length ys → x < get_or ys i d
first_below x [] i d up below = omega (arith, below)
first_below x (y ∷ ys) zero d up below = up.0
first_below x (y ∷ ys) (suc i) d up below = omega (arith, up.0, first_below y ys i d up.1 (omega (arith, below)))

-- none is above a later one
pub rises : (xs : List ℕ) (d : ℕ) → Ascends xs → (i j : ℕ) → i ≤ j → j < length xs → get_or xs i d ≤ get_or xs j d
rises [] d up i j le below = omega (arith, below)
rises (x ∷ xs) d up zero zero le below = omega arith
rises (x ∷ xs) d up zero (suc j) le below = omega (arith, first_below x xs j d up (omega (arith, below)))
rises (x ∷ xs) d up (suc i) zero le below = omega (arith, le)
rises (x ∷ xs) d up (suc i) (suc j) le below = rises xs d (rest_ascends x xs up) i j (omega (arith, le)) (omega (arith, below))
