-- The automaton of expressions over letters, each of which says which predicates hold.
use Rattle.std.specs.Prelude.{ℕ, suc, ◌≡◌, Bool, if◌then◌else◌, List, [], ◌∷◌, length}
use Rattle.std.proofs.Math.ListN.{get_or}
use Rattle.pq_expr.specs.declared.side.Side.{Side}
use Rattle.pq_expr.specs.declared.side.Side.TheVariants.{In}
use Rattle.pq_expr.specs.Word.{Word, other_side}
use Rattle.pq_expr.specs.Expr.{ExprTree}
use Rattle.pq_expr.specs.Language.{holds}
use Rattle.pq_auto.specs.Machine.{Machine, AllBelow, reached, is_even_at, accepted_at, has_even_length}

-- the half steps of a word of letters: sides alternate, from this one on
abbrev pub half_steps_from : Side → List (List Bool) → List ℕ → Word
half_steps_from s alphabet [] = []
half_steps_from s alphabet (l ∷ w) = record { side = s; truth = get_or alphabet l [] } ∷ half_steps_from (other_side s) alphabet w

-- the half steps of a word of letters, which begins with In
abbrev pub half_steps : List (List Bool) → List ℕ → Word
half_steps alphabet w = half_steps_from In alphabet w

-- the places of the expressions that hold the word, ascending, counted from this one
abbrev pub holding_from : ℕ → List ExprTree → Word → List ℕ
holding_from i [] w = []
holding_from i (e ∷ es) w = if holds e w then i ∷ holding_from (suc i) es w else holding_from (suc i) es w

-- the places of the expressions that hold the word, ascending
abbrev pub holding : List ExprTree → Word → List ℕ
holding es w = holding_from 0 es w

-- the automaton says of each word over the letters its parity, and which of the expressions hold it
pub record IsExploration (es : List ExprTree) (alphabet : List (List Bool)) (a : Machine) : Type 0 where
  pub letters : a.letters ≡ length alphabet
  pub even : (w : List ℕ) → AllBelow (length alphabet) w → is_even_at a (reached a w) ≡ has_even_length w
  pub accepted : (w : List ℕ) → AllBelow (length alphabet) w → accepted_at a (reached a w) ≡ holding es (half_steps alphabet w)
