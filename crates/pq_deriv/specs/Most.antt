-- How many rests an expression has at most.
use Rattle.std.specs.Prelude.{ℕ, suc, ◌*◌, ◌^◌, List, [], ◌∷◌, sum}
use Rattle.pq_expr.specs.Expr.{ExprTop, NoWord, EmptyWord, Enters, Leaves, InTurn, Either, Both, Other, Repeated, Exprs, none, put, ExprTree}

-- all the numbers multiplied
abbrev pub product : List ℕ → ℕ
product [] = 1
product (n ∷ ns) = n * product ns

-- the first number
abbrev pub first_number : List ℕ → ℕ
first_number [] = 1
first_number (n ∷ ns) = n

-- how many rests there are at most with this top, from the numbers of the operands
abbrev pub top_most : ExprTop → List ℕ → ℕ
top_most NoWord ns = 1
top_most EmptyWord ns = 2
top_most (Enters p) ns = 3
top_most (Leaves p) ns = 3
top_most InTurn ns = 2 ^ sum ns
top_most Either ns = product ns
top_most Both ns = product ns
top_most Other ns = first_number ns
top_most Repeated ns = 2 ^ suc (first_number ns)

-- how many rests each of the expressions has at most
abbrev pub mosts : Exprs → List ℕ
mosts none = []
mosts (put top below rest) = top_most top (mosts below) ∷ mosts rest

-- how many rests the expression has at most
abbrev pub most : ExprTree → ℕ
most e = top_most e.top (mosts e.below)
