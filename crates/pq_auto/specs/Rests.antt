-- What single expressions hold after a word of letters, and the side of the next half step.
use Rattle.std.specs.Prelude.{ℕ, ◌≡◌, Bool, true, not, if◌then◌else◌, Some, List, [], ◌∷◌, map}
use Rattle.std.specs.List.{slice_get}
use Rattle.std.proofs.Math.ListN.{get_or}
use Rattle.pq_expr.specs.declared.side.Side.{Side}
use Rattle.pq_expr.specs.declared.side.Side.TheVariants.{In, Out}
use Rattle.pq_expr.specs.Expr.{ExprTree, expr_tree}
use Rattle.pq_expr.specs.Language.{Language, holds}
use Rattle.pq_deriv.specs.Rests.{IsRest}
use Rattle.pq_deriv.specs.State.{StateValue, accepted}

-- the words that are held from here on, and whether the next half step is In
pub record Rest : Type 0 where
  pub holds : Language
  pub even : Bool

-- what an expression holds, before any letter
abbrev pub whole : ExprTree → Rest
whole e = record { holds = holds e; even = true }

-- whether the empty word is held from here on
abbrev pub accepts_nothing_more : Rest → Bool
accepts_nothing_more r = r.holds []

-- the place of the only expression, where it holds the words that lead here
abbrev pub alone : Bool → List ℕ
alone holds = if holds then 0 ∷ [] else []

abbrev pub held : Rest → List ℕ
held r = alone (accepts_nothing_more r)

-- the next half step is In after words of even length
abbrev pub side_of : Bool → Side
side_of even = if even then In else Out

-- what is held after one half step more, of whose packet these predicates hold
abbrev pub behind : Rest → List Bool → Rest
behind r signature = record { holds = λ w. r.holds (record { side = side_of r.even; truth = signature } ∷ w); even = not r.even }

-- what is held after one letter more
abbrev pub after : List (List Bool) → Rest → ℕ → Rest
after alphabet r l = behind r (get_or alphabet l [])

-- what a state and a parity say
abbrev pub rest_of : StateValue × Bool → Rest
rest_of k = record { holds = accepted k.0; even = k.1 }

abbrev pub rests : List (StateValue × Bool) → List Rest
rests ks = map rest_of ks

-- all states are of one expression
abbrev pub AreAlike : List (StateValue × Bool) → Type 0
AreAlike ks = (i j : ℕ) (k m : StateValue × Bool) → slice_get ks i ≡ Some k → slice_get ks j ≡ Some m → k.0.expr ≡ m.0.expr

-- all states are of this one's expression
abbrev pub AreLike : StateValue × Bool → List (StateValue × Bool) → Type 0
AreLike k ks = (j : ℕ) (m : StateValue × Bool) → slice_get ks j ≡ Some m → m.0.expr ≡ k.0.expr

-- the state is of this expression, and has one of its rests
abbrev pub IsRestOf : ExprTree → StateValue × Bool → Type 0
IsRestOf e k = (expr_tree k.0.expr ≡ e) × IsRest (expr_tree k.0.expr) k.0.rest

-- all states are of this expression, and have rests of it
abbrev pub AreRestsOf : ExprTree → List (StateValue × Bool) → Type 0
AreRestsOf e ks = (j : ℕ) (m : StateValue × Bool) → slice_get ks j ≡ Some m → IsRestOf e m
