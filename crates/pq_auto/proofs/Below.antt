-- Numbers below a bound.
use Rattle.std.proofs.Common.{ℕ, zero, suc, ◌<◌, List, [], ◌∷◌, length, arith}
use Rattle.std.proofs.Math.ListN.{get_or}
use Rattle.pq_auto.specs.Machine.{AllBelow}

-- each number of a list below the bound is below it
pub one_below : (n : ℕ) (w : List ℕ) (i d : ℕ) → AllBelow n w → i < length w → get_or w i d < n
one_below n [] i d all short = absurd (omega (arith, short))
one_below n (l ∷ w) zero d all short = all.0
one_below n (l ∷ w) (suc i) d all short = one_below n w i d all.1 (omega (arith, short))
