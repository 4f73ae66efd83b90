-- Words of half steps: what a packet shows as it enters a switch, and as it leaves it.
use Rattle.std.specs.Prelude.{◌≡◌, ℕ, ◌<◌, Bool, true, false, ◌&&◌, List, [], ◌∷◌}
use Rattle.std.proofs.Math.ListN.{get_or}
use Rattle.pq_expr.specs.declared.side.Side.{Side}
use Rattle.pq_expr.specs.declared.side.Side.TheVariants.{In, Out}

-- a half step: its side, and for each predicate of a list whether it holds of the packet
pub record HalfStep : Type 0 where
  pub side : Side
  pub truth : List Bool

-- a word
abbrev pub Word : Type 0
Word = List HalfStep

-- the sides are one
abbrev pub is_side : Side → Side → Bool
is_side In In = true
is_side In Out = false
is_side Out In = false
is_side Out Out = true

-- the side after this one
abbrev pub other_side : Side → Side
other_side In = Out
other_side Out = In

-- the word alternates, and begins with this side where it isn't empty
abbrev pub alternates : Side → Word → Bool
alternates s [] = true
alternates s (l ∷ w) = is_side s l.side && alternates (other_side s) w

-- the words have the same sides, and their truths agree at every place below n
abbrev pub AgreeBelow : ℕ → Word → Word → Type 0
AgreeBelow n [] [] = Unit {0}
AgreeBelow n [] (m ∷ w) = ⊥
AgreeBelow n (l ∷ v) [] = ⊥
AgreeBelow n (l ∷ v) (m ∷ w) = (l.side ≡ m.side) × ((p : ℕ) → p < n → get_or l.truth p false ≡ get_or m.truth p false) × AgreeBelow n v w
