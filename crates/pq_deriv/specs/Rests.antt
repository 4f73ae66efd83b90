-- All rests of an expression.
use Rattle.std.specs.Prelude.{ℕ, List, [], ◌∷◌, ◌++◌, map}
use Rattle.std.specs.List.{AllByRecursion}
use Rattle.std.specs.List.Sorted.{IsStrictlySortedBy}
use Rattle.std.specs.BTreeSet.{insert_key}
use Rattle.std.specs.Ordering.{nat_cmp}
use Rattle.std.specs.Cmp.Lexicographic.{slice_cmp}
use Rattle.pq_expr.specs.Expr.{ExprTop, NoWord, EmptyWord, Enters, Leaves, InTurn, Either, Both, Other, Repeated, Exprs, none, put, ExprTree}
use Rattle.pq_deriv.specs.Parts.{spelled, set_of, packed}
use Rattle.pq_deriv.specs.Choices.{IsOneOf, choices, sublists}

-- the lists in ascending order, each once
abbrev pub ascending : List (List ℕ) → List (List ℕ)
ascending [] = []
ascending (r ∷ rs) = insert_key (slice_cmp nat_cmp) (ascending rs) r

-- the members of a set: they ascend, each is one of the rests and is once
abbrev pub AreMembers : List (List ℕ) → List (List ℕ) → Type 0
AreMembers U set = IsStrictlySortedBy (slice_cmp nat_cmp) set × AllByRecursion (IsOneOf U) set

-- all sets of rests
abbrev pub sets : List (List ℕ) → List (List ℕ)
sets U = map set_of (sublists (ascending U))

-- the rests of the first operand
abbrev pub first_rests : List (List (List ℕ)) → List (List ℕ)
first_rests [] = [] ∷ []
first_rests (U ∷ Us) = U

-- the lists whose parts are one of each list
abbrev pub in_parts : List (List (List ℕ)) → List (List ℕ)
in_parts Us = map spelled (choices Us)

-- the sets that are one of each list, written one after another
abbrev pub in_sets : List (List (List ℕ)) → List (List ℕ)
in_sets Us = map packed (choices Us)

-- all rests with this top, from those of the operands
abbrev pub top_rests : ExprTop → List (List (List ℕ)) → List (List ℕ)
top_rests NoWord Us = [] ∷ []
top_rests EmptyWord Us = (0 ∷ []) ∷ (1 ∷ []) ∷ []
top_rests (Enters p) Us = (0 ∷ []) ∷ (1 ∷ []) ∷ (2 ∷ []) ∷ []
top_rests (Leaves p) Us = (0 ∷ []) ∷ (1 ∷ []) ∷ (2 ∷ []) ∷ []
top_rests InTurn [] = (0 ∷ []) ∷ (1 ∷ []) ∷ []
top_rests InTurn (U ∷ Us) = in_sets (map sets (U ∷ Us))
top_rests Either Us = in_parts Us
top_rests Both Us = in_parts Us
top_rests Other Us = first_rests Us
top_rests Repeated Us = map (λ set. 0 ∷ set) (sets (first_rests Us)) ++ map (λ set. 1 ∷ set) (sets (first_rests Us))

-- all rests of each of the expressions
abbrev pub rests : Exprs → List (List (List ℕ))
rests none = []
rests (put top below rest) = top_rests top (rests below) ∷ rests rest

-- all rests of the expression
abbrev pub all_rests : ExprTree → List (List ℕ)
all_rests e = top_rests e.top (rests e.below)

-- the numbers are a rest of the expression
abbrev pub IsRest : ExprTree → List ℕ → Type 0
IsRest e r = IsOneOf (all_rests e) r
