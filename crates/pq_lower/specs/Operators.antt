-- The expressions of atoms and operators. Each holds led words: a word that isn't empty may have an Out before it. In a word
-- that alternates the Out is there just where the operand before ends in an In, so operands are simply put one after another.
use Rattle.std.specs.Prelude.{ℕ, List, [], ◌∷◌}
use Rattle.pq_expr.specs.Expr.{ExprTop, NoWord, EmptyWord, Enters, Leaves, InTurn, Either, Both, Other, Repeated, exprs, ExprTree, leaf}

-- an operator with these operands
abbrev pub operator : ExprTop → List ExprTree → ExprTree
operator top es = record { top = top; below = exprs es }

-- Below, t is the number of the predicate that holds of every packet.

-- nothing, or an Out
abbrev pub optional_out : ℕ → ExprTree
optional_out t = operator Either (leaf EmptyWord ∷ leaf (Leaves t) ∷ [])

-- a half step In
abbrev pub entry : ℕ → ℕ → ExprTree
entry t n = operator InTurn (optional_out t ∷ leaf (Enters n) ∷ [])

-- a half step In, and then an Out
abbrev pub hop : ℕ → ℕ → ℕ → ExprTree
hop t n m = operator InTurn (optional_out t ∷ leaf (Enters n) ∷ leaf (Leaves m) ∷ [])

-- expressions one after another
abbrev pub turn_of : List ExprTree → ExprTree
turn_of [] = leaf EmptyWord
turn_of (e ∷ es) = operator InTurn (e ∷ es)

-- any of the expressions
abbrev pub any_of : List ExprTree → ExprTree
any_of [] = leaf NoWord
any_of (e ∷ es) = operator Either (e ∷ es)

-- what an expression doesn't hold; an Out alone leads no word
abbrev pub other_than : ℕ → ExprTree → ExprTree
other_than t e = operator Other (operator Either (e ∷ leaf (Leaves t) ∷ []) ∷ [])

-- all the expressions
abbrev pub all_of : ℕ → List ExprTree → ExprTree
all_of t [] = other_than t (leaf NoWord)
all_of t (e ∷ es) = operator Both (e ∷ es)

-- any number of words of an expression
abbrev pub repeated : ExprTree → ExprTree
repeated e = operator Repeated (e ∷ [])
