-- The query that a tree of a sentence stands for.
use Rattle.std.specs.Prelude.{ℕ, not, ◌==◌, ◌&&◌, if◌then◌else◌, Bool, true, false, List, [], ◌∷◌, ◌++◌, nat_le, Some, None, Ok}
use Rattle.std.specs.List.{list_any}
use Rattle.pq_term.specs.declared.token.Token.{Token}
use Rattle.pq_grammar.specs.declared.class.Class.TheVariants.{InAtom, OutAtom, InOutAtom, EndAtom, InGroup, OutGroup, InOutGroup, Caret}
use Rattle.pq_grammar.specs.declared.class.Class.TheVariants.{Bar, Ampersand, Tilde, Star}
use Rattle.pq_grammar.specs.Tables.{is_class}
use Rattle.pq_tree.specs.Trees.{Forest, nothing, grown, Tree}
use Rattle.pq_tree.specs.Texts.{text_in, class_in_text}
use Rattle.pq_fields.specs.declared.field.Field.{Field}
use Rattle.pq_fields.specs.Packet.{rank, is_wide}
use Rattle.pq_fields.specs.Pred.{PredTree}
use Rattle.pq_model.specs.Topology.{Topology}
use Rattle.pq_topo.specs.declared.fault.NameKind.TheVariants.{BadValue, Doubled, NotListed}
use Rattle.pq_topo.specs.Naming.{Reading, faulty, unless, named, next, gathered}
use Rattle.pq_pred.specs.Values.{field_at, value_of}
use Rattle.pq_pred.specs.Predicates.{pred_of}
use Rattle.pq_query.specs.Groups.{Group}
use Rattle.pq_query.specs.Query.{QueryTop, Enters, Leaves, Passes, Ends, InTurn, Either, Both, Other, Repeated, QueryTree, leaf, queries}

-- Groups.

-- the number of a token, where no earlier one is the same
abbrev pub fresh_at : List ℕ → Token → ℕ → Reading ℕ
fresh_at earlier t n = unless t ((list_any (λ m. n == m) earlier, Doubled) ∷ []) n

-- a value of a list, after earlier ones
abbrev pub value_at : Topology → List ℕ → Field → List ℕ → Token → Reading ℕ
value_at T bytes f earlier t = next (named t (value_of T f (text_in bytes t))) (fresh_at earlier t)

-- the values of a list, in text order, after earlier ones
abbrev pub values_after : Topology → List ℕ → Field → List ℕ → Forest → Reading (List ℕ)
values_after T bytes f earlier nothing = Ok earlier
values_after T bytes f earlier (grown t below rest) = next (value_at T bytes f earlier t) (λ n. values_after T bytes f (earlier ++ n ∷ []) rest)

-- the field is `switch` or `port`, whose values a topology lists
abbrev pub is_listed : Field → Bool
is_listed f = nat_le (rank f) 1

-- the fields are one: they have one place in field order
abbrev pub is_field : Field → Field → Bool
is_field f g = rank f == rank g

-- one of the groups has the field
abbrev pub is_grouped : Field → List Group → Bool
is_grouped f gs = list_any (λ g. is_field f g.field) gs

-- the token of a field has values below it
abbrev pub has_values : Forest → Bool
has_values nothing = false
has_values (grown t below rest) = true

-- the field of a group, after earlier groups of the same brackets; the flag says whether its values are stated
abbrev pub grouped_at : List ℕ → List Group → Bool → Token → Reading Field
grouped_at bytes earlier stated t =
    next (field_at bytes t) (λ f.
    unless t ((is_grouped f earlier, Doubled) ∷ (not stated && not (is_listed f), NotListed) ∷ (is_wide f, NotListed) ∷ []) f)

-- the group of a field without values
abbrev pub unstated : Field → Group
unstated f = record { field = f; values = None }

-- the group of a field with these values
abbrev pub stated : Field → List ℕ → Group
stated f ns = record { field = f; values = Some ns }

-- the group of a field, with the values that are below it
abbrev pub with_values : Topology → List ℕ → Field → Forest → Reading Group
with_values T bytes f nothing = Ok (unstated f)
with_values T bytes f (grown t below rest) = next (values_after T bytes f [] (grown t below rest)) (λ ns. Ok (stated f ns))

-- a group, after earlier ones of the same brackets
abbrev pub group_at : Topology → List ℕ → List Group → Token → Forest → Reading Group
group_at T bytes earlier t below = next (grouped_at bytes earlier (has_values below) t) (λ f. with_values T bytes f below)

-- the groups of brackets, in text order, after earlier ones
abbrev pub groups_after : Topology → List ℕ → List Group → Forest → Reading (List Group)
groups_after T bytes earlier nothing = Ok earlier
groups_after T bytes earlier (grown t below rest) = next (group_at T bytes earlier t below) (λ g. groups_after T bytes (earlier ++ g ∷ []) rest)

-- Atoms.

-- what an atom says of a packet: a predicate, and grouped fields
abbrev pub Side : Type 0
Side = PredTree × List Group

-- the trees after the first
abbrev pub later : Forest → Forest
later nothing = nothing
later (grown t below rest) = rest

-- the predicate that is first
abbrev pub pred_in : Topology → List ℕ → Token → Forest → Reading PredTree
pred_in T bytes head nothing = faulty head BadValue
pred_in T bytes head (grown t below rest) = pred_of T bytes (record { head = t; below = below })

-- the groups of the brackets that are first
abbrev pub groups_in : Topology → List ℕ → Token → Forest → Reading (List Group)
groups_in T bytes head nothing = faulty head BadValue
groups_in T bytes head (grown t below rest) = groups_after T bytes [] below

-- a predicate without grouped fields
abbrev pub bare_in : Topology → List ℕ → Token → Forest → Reading Side
bare_in T bytes head below = next (pred_in T bytes head below) (λ p. Ok (p, []))

-- a predicate, and the brackets after it
abbrev pub grouped_in : Topology → List ℕ → Token → Forest → Reading Side
grouped_in T bytes head below =
    next (pred_in T bytes head below) (λ p.
    next (groups_in T bytes head (later below)) (λ gs. Ok (p, gs)))

-- atoms of one packet and of two
abbrev pub entering : Side → Reading QueryTree
entering s = Ok (leaf (Enters s.0 s.1))

abbrev pub leaving : Side → Reading QueryTree
leaving s = Ok (leaf (Leaves s.0 s.1))

abbrev pub passing : Side → Side → Reading QueryTree
passing s t = Ok (leaf (Passes s.0 s.1 t.0 t.1))

-- an atom of two predicates
abbrev pub hop_of : Topology → List ℕ → Token → Forest → Reading QueryTree
hop_of T bytes head below =
    next (bare_in T bytes head below) (λ s.
    next (bare_in T bytes head (later below)) (passing s))

-- an atom of two predicates, each with brackets
abbrev pub grouped_hop_of : Topology → List ℕ → Token → Forest → Reading QueryTree
grouped_hop_of T bytes head below =
    next (grouped_in T bytes head below) (λ s.
    next (grouped_in T bytes head (later (later below))) (passing s))

-- an atom of a hop that sends nothing
abbrev pub end_of : Topology → List ℕ → Token → Forest → Reading QueryTree
end_of T bytes head below = next (pred_in T bytes head below) (λ p. Ok (leaf (Ends p)))

-- Operators.

-- the one operand under an operator
abbrev pub single : Token → QueryTop → List QueryTree → Reading QueryTree
single head top (q ∷ []) = Ok (record { top = top; below = queries (q ∷ []) })
single head top _ = faulty head BadValue

-- operands under an operator
abbrev pub joined : Token → QueryTop → List QueryTree → Reading QueryTree
joined head top [] = faulty head BadValue
joined head top (q ∷ qs) = Ok (record { top = top; below = queries (q ∷ qs) })

-- the atom of a tree, from its head and its children
abbrev pub atom_of : Topology → List ℕ → Token → Forest → Reading QueryTree
atom_of T bytes head below =
    let class = class_in_text bytes head in
    if is_class class InAtom then next (bare_in T bytes head below) entering
    else if is_class class OutAtom then next (bare_in T bytes head below) leaving
    else if is_class class InOutAtom then hop_of T bytes head below
    else if is_class class EndAtom then end_of T bytes head below
    else if is_class class InGroup then next (grouped_in T bytes head below) entering
    else if is_class class OutGroup then next (grouped_in T bytes head below) leaving
    else if is_class class InOutGroup then grouped_hop_of T bytes head below
    else faulty head BadValue

-- the query of a tree, from its head, its children, and from what these are as queries
abbrev pub query_step : Topology → List ℕ → Token → Forest → List (Reading QueryTree) → Reading QueryTree
query_step T bytes head below operands =
    let class = class_in_text bytes head in
    if is_class class Caret then next (gathered operands) (joined head InTurn)
    else if is_class class Bar then next (gathered operands) (joined head Either)
    else if is_class class Ampersand then next (gathered operands) (joined head Both)
    else if is_class class Tilde then next (gathered operands) (single head Other)
    else if is_class class Star then next (gathered operands) (single head Repeated)
    else atom_of T bytes head below

-- the queries of trees
abbrev pub query_readings : Topology → List ℕ → Forest → List (Reading QueryTree)
query_readings T bytes nothing = []
query_readings T bytes (grown head below rest) = query_step T bytes head below (query_readings T bytes below) ∷ query_readings T bytes rest

-- the query of a tree
abbrev pub query_of : Topology → List ℕ → Tree → Reading QueryTree
query_of T bytes t = query_step T bytes t.head t.below (query_readings T bytes t.below)
