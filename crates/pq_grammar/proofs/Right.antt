-- The test that the tables are right, and that they are.
use Rattle.std.proofs.Common.{◌≡◌, ℕ, zero, suc, Bool, true, false, not, ◌&&◌, ◌||◌, if◌then◌else◌, List, [], ◌∷◌, refl}
use Rattle.std.specs.Prelude.{nat_lt}
use Rattle.std.specs.List.{list_any, list_all}
use Rattle.pq_grammar.specs.declared.sort.Sort.{Sort}
use Rattle.pq_grammar.specs.declared.sort.Sort.TheVariants.{Document, Switches, PortsMore, LimitOption, Links, Parts, Queries, Edit}
use Rattle.pq_grammar.specs.declared.sort.Sort.TheVariants.{Removed, Pred, PredTail, PredMore, Conj, ConjTail, ConjMore, Literal, Test}
use Rattle.pq_grammar.specs.declared.sort.Sort.TheVariants.{Field, Value, Policy, PolicyTail, PolicyMore, Steps, StepsTail, StepsMore, Step}
use Rattle.pq_grammar.specs.declared.sort.Sort.TheVariants.{Paths, PathsTail, PathsMore, Both, BothTail, BothMore, Chain, ChainTail}
use Rattle.pq_grammar.specs.declared.sort.Sort.TheVariants.{ChainMore, Negation, StarOption, Atom, Groups, GroupsOption, GroupsMore, Group}
use Rattle.pq_grammar.specs.declared.sort.Sort.TheVariants.{ValuesOption, ValuesMore}
use Rattle.pq_grammar.specs.declared.symbol.Symbol.{Symbol}
use Rattle.pq_grammar.specs.declared.symbol.Symbol.TheVariants.{Token, Opening, Leave, Close, Part}
use Rattle.pq_grammar.specs.Grammar.{alternatives}
use Rattle.pq_grammar.specs.Tables.{weight}
use Rattle.pq_grammar.specs.Ahead.{may_begin, follows, is_open, pending}

-- the test passes at each number below n
abbrev pub all_below : ℕ → (ℕ → Bool) → Bool
all_below zero test = true
all_below (suc n) test = test n && all_below n test

-- the second test passes wherever the first does, at whatever comes next
abbrev pub implies : (ℕ → Bool) → (ℕ → Bool) → Bool
implies p q = all_below 48 (λ k. not (p k) || q k)

-- at most one element passes the test
abbrev pub at_most_one : {X : Type 0} → (X → Bool) → List X → Bool
at_most_one test [] = true
at_most_one test (x ∷ xs) = if test x then list_all (λ y. not (test y)) xs else at_most_one test xs

-- whatever the alternative begins with, a phrase of the sort may begin with
abbrev pub is_first : Sort → List Symbol → Bool
is_first sort a = implies (may_begin false a) (may_begin false (Part sort ∷ [])) && implies (may_begin true a) (may_begin true (Part sort ∷ []))

-- what follows each part of an alternative of the sort may follow that part
abbrev pub is_followed : Sort → List Symbol → Bool
is_followed sort [] = true
is_followed sort (Token role class ∷ ss) = is_followed sort ss
is_followed sort (Opening role class ∷ ss) = is_followed sort ss
is_followed sort (Leave ∷ ss) = is_followed sort ss
is_followed sort (Close ∷ ss) = is_followed sort ss
is_followed sort (Part part ∷ ss) = implies (λ k. is_open sort k ss) (follows part) && is_followed sort ss

-- a part weighs less than the bound
abbrev pub is_below : ℕ → Symbol → Bool
is_below bound (Part sort) = nat_lt (weight sort) bound
is_below bound _ = true

-- the tables are right for the sort: they tell at each token which alternative is to be taken, if any, and the weights fall
abbrev pub is_right : Sort → Bool
is_right sort =
    list_all (is_first sort) (alternatives sort)
    && list_all (is_followed sort) (alternatives sort)
    && all_below 48 (λ k. at_most_one (is_open sort k) (alternatives sort))
    && list_all (λ a. nat_lt (pending a) (weight sort)) (alternatives sort)
    && list_any (list_all (is_below (weight sort))) (alternatives sort)

-- each sort passes the test
pub right : (sort : Sort) → is_right sort ≡ true
right Document = refl
right Switches = refl
right PortsMore = refl
right LimitOption = refl
right Links = refl
right Parts = refl
right Queries = refl
right Edit = refl
right Removed = refl
right Pred = refl
right PredTail = refl
right PredMore = refl
right Conj = refl
right ConjTail = refl
right ConjMore = refl
right Literal = refl
right Test = refl
right Field = refl
right Value = refl
right Policy = refl
right PolicyTail = refl
right PolicyMore = refl
right Steps = refl
right StepsTail = refl
right StepsMore = refl
right Step = refl
right Paths = refl
right PathsTail = refl
right PathsMore = refl
right Both = refl
right BothTail = refl
right BothMore = refl
right Chain = refl
right ChainTail = refl
right ChainMore = refl
right Negation = refl
right StarOption = refl
right Atom = refl
right Groups = refl
right GroupsOption = refl
right GroupsMore = refl
right Group = refl
right ValuesOption = refl
right ValuesMore = refl
