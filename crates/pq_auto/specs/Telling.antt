-- Automata that say which words expressions hold, and have few states.
use Rattle.std.specs.Prelude.{ℕ, ◌≡◌, ◌≤◌, Bool, List, [], ◌∷◌, length}
use Rattle.pq_expr.specs.Expr.{ExprTree, IsLawful}
use Rattle.pq_deriv.specs.Choices.{IsOneOf}
use Rattle.pq_deriv.specs.Most.{most}
use Rattle.pq_auto.specs.Exploration.{IsExploration}
use Rattle.pq_auto.specs.Machine.{Machine, AllBelow, follow, has_even_length}

-- words of each parity lead to at most this many states
abbrev pub HasFew : ℕ → Machine → ℕ → Type 0
HasFew letters t m = (b : Bool) → (ns : List ℕ) × (length ns ≤ m) × ((w : List ℕ) → AllBelow letters w → has_even_length w ≡ b → IsOneOf ns (follow t.rows 0 w))

-- words of each parity lead each automaton to at most this many states
abbrev pub HaveFew : ℕ → List Machine → List ℕ → Type 0
HaveFew letters [] [] = Unit {0}
HaveFew letters [] (m ∷ ms) = ⊥
HaveFew letters (t ∷ ts) [] = ⊥
HaveFew letters (t ∷ ts) (m ∷ ms) = HasFew letters t m × HaveFew letters ts ms

-- the automaton is that of the expression alone, and has few states where the expression is lawful
abbrev pub IsTable : List (List Bool) → Machine → ExprTree → Type 0
IsTable alphabet t e = IsExploration (e ∷ []) alphabet t × (IsLawful e → HasFew (length alphabet) t (most e))

-- each automaton says which words its expression holds, and has few states
abbrev pub TellEach : List (List Bool) → List Machine → List ExprTree → Type 0
TellEach alphabet [] [] = Unit {0}
TellEach alphabet [] (e ∷ es) = ⊥
TellEach alphabet (t ∷ ts) [] = ⊥
TellEach alphabet (t ∷ ts) (e ∷ es) = IsTable alphabet t e × TellEach alphabet ts es
