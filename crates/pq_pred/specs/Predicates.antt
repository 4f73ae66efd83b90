-- The predicate that a tree of a sentence stands for.
use Rattle.std.specs.Prelude.{ℕ, if◌then◌else◌, List, [], ◌∷◌, Ok}
use Rattle.pq_term.specs.declared.token.Token.{Token}
use Rattle.pq_grammar.specs.declared.class.Class.TheVariants.{TrueWord, FalseWord, NotWord, AndWord, OrWord}
use Rattle.pq_grammar.specs.Tables.{is_class}
use Rattle.pq_tree.specs.Trees.{Forest, nothing, grown, Tree}
use Rattle.pq_tree.specs.Texts.{text_in, class_in_text}
use Rattle.pq_fields.specs.Pred.{PredTop, Always, Never, Every, Some as SomeHold, Negated, PredTree, preds, leaf}
use Rattle.pq_model.specs.Topology.{Topology}
use Rattle.pq_topo.specs.declared.fault.NameKind.TheVariants.{BadValue}
use Rattle.pq_topo.specs.Naming.{Reading, faulty, named, next, gathered}
use Rattle.pq_pred.specs.Values.{field_at, test_of}

-- the test of a field for a value
abbrev pub test_at : Topology → List ℕ → Token → Token → Reading PredTree
test_at T bytes field value =
    next (field_at bytes field) (λ f.
    named value (test_of T f (text_in bytes value)))

-- the test whose value is below its field; what has no value is not a tree of a sentence
abbrev pub test_below : Topology → List ℕ → Token → Forest → Reading PredTree
test_below T bytes field nothing = faulty field BadValue
test_below T bytes field (grown value x y) = test_at T bytes field value

-- the negation of the one operand
abbrev pub negation : Token → List PredTree → Reading PredTree
negation head (p ∷ []) = Ok (record { top = Negated; below = preds (p ∷ []) })
negation head _ = faulty head BadValue

-- operands under an operator
abbrev pub joined : Token → PredTop → List PredTree → Reading PredTree
joined head top [] = faulty head BadValue
joined head top (p ∷ ps) = Ok (record { top = top; below = preds (p ∷ ps) })

-- the predicate of a tree, from its head, and from what its children are as predicates
abbrev pub pred_step : Topology → List ℕ → Token → Forest → List (Reading PredTree) → Reading PredTree
pred_step T bytes head below operands =
    let class = class_in_text bytes head in
    if is_class class TrueWord then Ok (leaf Always)
    else if is_class class FalseWord then Ok (leaf Never)
    else if is_class class NotWord then next (gathered operands) (negation head)
    else if is_class class AndWord then next (gathered operands) (joined head Every)
    else if is_class class OrWord then next (gathered operands) (joined head SomeHold)
    else test_below T bytes head below

-- the predicates of trees
abbrev pub pred_readings : Topology → List ℕ → Forest → List (Reading PredTree)
pred_readings T bytes nothing = []
pred_readings T bytes (grown head below rest) = pred_step T bytes head below (pred_readings T bytes below) ∷ pred_readings T bytes rest

-- the predicate of a tree
abbrev pub pred_of : Topology → List ℕ → Tree → Reading PredTree
pred_of T bytes t = pred_step T bytes t.head t.below (pred_readings T bytes t.below)
