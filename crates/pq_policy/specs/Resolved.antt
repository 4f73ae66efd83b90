-- The policy that a tree of a sentence stands for.
use Rattle.std.specs.Prelude.{ℕ, not, if◌then◌else◌, List, [], ◌∷◌, Ok}
use Rattle.pq_term.specs.declared.token.Token.{Token}
use Rattle.pq_term.specs.Numbers.{number_of}
use Rattle.pq_grammar.specs.declared.class.Class.TheVariants.{IdentityWord, DropWord, FloodWord, FilterWord, ModWord, FwdWord, IfWord, Plus, Then}
use Rattle.pq_grammar.specs.Tables.{is_class}
use Rattle.pq_tree.specs.Trees.{Forest, nothing, grown, Tree}
use Rattle.pq_tree.specs.Texts.{text_in, class_in_text}
use Rattle.pq_fields.specs.declared.field.Field.{Field}
use Rattle.pq_model.specs.Topology.{Topology}
use Rattle.pq_topo.specs.declared.fault.NameKind.TheVariants.{BadValue, NotWritable}
use Rattle.pq_topo.specs.Naming.{Reading, faulty, unless, named, next, gathered}
use Rattle.pq_pred.specs.Values.{field_at, value_of, within}
use Rattle.pq_pred.specs.Predicates.{pred_of}
use Rattle.pq_policy.specs.Policy.{PolicyTop, Pass, Discard, Spread, Only, Write, Forward, Choose, Either, InTurn, PolicyTree, leaf, policies, is_writable}
use Rattle.pq_model.specs.declared.reserved.TheConstants.{LAST_PORT}

-- the filter by the predicate below it
abbrev pub filter_of : Topology → List ℕ → Token → Forest → Reading PolicyTree
filter_of T bytes head nothing = faulty head BadValue
filter_of T bytes head (grown p below rest) = next (pred_of T bytes (record { head = p; below = below })) (λ p. Ok (leaf (Only p)))

-- the field that a token names, where it may be written
abbrev pub writable_at : List ℕ → Token → Reading Field
writable_at bytes t = next (field_at bytes t) (λ f. unless t ((not (is_writable f), NotWritable) ∷ []) f)

-- the write of a value to a field
abbrev pub write_at : Topology → List ℕ → Token → Token → Reading PolicyTree
write_at T bytes field value =
    next (writable_at bytes field) (λ f.
    next (named value (value_of T f (text_in bytes value))) (λ n. Ok (leaf (Write f n))))

-- the write of the value that is below the field
abbrev pub write_below : Topology → List ℕ → Token → Forest → Reading PolicyTree
write_below T bytes field nothing = faulty field BadValue
write_below T bytes field (grown value x y) = write_at T bytes field value

abbrev pub write_of : Topology → List ℕ → Token → Forest → Reading PolicyTree
write_of T bytes head nothing = faulty head BadValue
write_of T bytes head (grown field below rest) = write_below T bytes field below

-- the port below
abbrev pub forward_of : List ℕ → Token → Forest → Reading PolicyTree
forward_of bytes head nothing = faulty head BadValue
forward_of bytes head (grown port x y) = next (named port (within 1 LAST_PORT (number_of (text_in bytes port)))) (λ n. Ok (leaf (Forward n)))

-- the choice between two policies by the predicate that is the first child; the other two children are the policies
abbrev pub choice_of : Topology → List ℕ → Token → Forest → List (Reading PolicyTree) → Reading PolicyTree
choice_of T bytes head (grown p below rest) (x ∷ a ∷ b ∷ []) =
    next (pred_of T bytes (record { head = p; below = below })) (λ p.
    next a (λ a.
    next b (λ b. Ok (record { top = Choose p; below = policies (a ∷ b ∷ []) }))))
choice_of T bytes head _ _ = faulty head BadValue

-- operands under an operator
abbrev pub joined : Token → PolicyTop → List PolicyTree → Reading PolicyTree
joined head top [] = faulty head BadValue
joined head top (p ∷ ps) = Ok (record { top = top; below = policies (p ∷ ps) })

-- the policy of a tree, from its head, its children, and from what these are as policies
abbrev pub policy_step : Topology → List ℕ → Token → Forest → List (Reading PolicyTree) → Reading PolicyTree
policy_step T bytes head below operands =
    let class = class_in_text bytes head in
    if is_class class IdentityWord then Ok (leaf Pass)
    else if is_class class DropWord then Ok (leaf Discard)
    else if is_class class FloodWord then Ok (leaf Spread)
    else if is_class class FilterWord then filter_of T bytes head below
    else if is_class class ModWord then write_of T bytes head below
    else if is_class class FwdWord then forward_of bytes head below
    else if is_class class IfWord then choice_of T bytes head below operands
    else if is_class class Plus then next (gathered operands) (joined head Either)
    else if is_class class Then then next (gathered operands) (joined head InTurn)
    else faulty head BadValue

-- the policies of trees
abbrev pub policy_readings : Topology → List ℕ → Forest → List (Reading PolicyTree)
policy_readings T bytes nothing = []
policy_readings T bytes (grown head below rest) = policy_step T bytes head below (policy_readings T bytes below) ∷ policy_readings T bytes rest

-- the policy of a tree
abbrev pub policy_of : Topology → List ℕ → Tree → Reading PolicyTree
policy_of T bytes t = policy_step T bytes t.head t.below (policy_readings T bytes t.below)
