-- What `if` reads of its children.
use Rattle.std.proofs.Common.{◌≡◌, ℕ, ◌<◌, ◌≤◌, ◌≢◌, List, [], ◌∷◌, length, slice_index_or, refl, arith, Ok}
use Rattle.pq_term.specs.declared.token.Token.{Token}
use Rattle.pq_term.specs.declared.token.Kind.TheVariants.{Word}
use Rattle.pq_tree.specs.declared.term.Term.{Term}
use Rattle.pq_tree.specs.declared.term.Term.TheViews.{roll-Term}
use Rattle.pq_tree.specs.Trees.{Tree, tree, trees}
use Rattle.pq_model.specs.Topology.{Topology}
use Rattle.pq_topo.specs.declared.fault.NameKind.TheVariants.{BadValue}
use Rattle.pq_topo.specs.Naming.{Reading, faulty, next}
use Rattle.pq_pred.specs.Predicates.{pred_of}
use Rattle.pq_fields.specs.Pred.{PredTree}
use Rattle.pq_policy.specs.Policy.{Choose, PolicyTree, policies}
use Rattle.pq_policy.specs.Resolved.{choice_of, policy_of, policy_readings}

-- the choice by a predicate between two policies, the first of which is read
abbrev pub with_second : Topology → List ℕ → Tree → PredTree → PolicyTree → Reading PolicyTree
with_second T bytes b p a = next (policy_of T bytes b) (λ b. Ok (record { top = Choose p; below = policies (a ∷ b ∷ []) }))

-- the choice by a predicate that is read
abbrev pub with_both : Topology → List ℕ → Tree → Tree → PredTree → Reading PolicyTree
with_both T bytes a b p = next (policy_of T bytes a) (with_second T bytes b p)

-- the choice by a predicate between two policies
abbrev pub choice_among : Topology → List ℕ → Tree → Tree → Tree → Reading PolicyTree
choice_among T bytes p a b = next (pred_of T bytes p) (with_both T bytes a b)

-- a term to be where there is none
abbrev pub blank : Term
blank = roll-Term (record { head = record { kind = Word; at = 0; len = 0 }; children = record { ref_ptr = (0, 0); now = [] } })

-- three children are a predicate and two policies
pub three : (T : Topology) (bytes : List ℕ) (head : Token) (ts : List Term) (d : Term) → 3 ≤ length ts → length ts < 4
    → choice_of T bytes head (trees ts) (policy_readings T bytes (trees ts)) ≡ choice_among T bytes (tree (slice_index_or ts 0 d))
    (tree (slice_index_or ts 1 d)) (tree (slice_index_or ts 2 d))
three T bytes head [] d few many = absurd (omega (arith, few))
three T bytes head (x ∷ []) d few many = absurd (omega (arith, few))
three T bytes head (x ∷ y ∷ []) d few many = absurd (omega (arith, few))
three T bytes head (x ∷ y ∷ z ∷ []) d few many = refl
three T bytes head (x ∷ y ∷ z ∷ w ∷ ts) d few many = absurd (omega (arith, many))

-- other numbers of children are not choice
pub others : (T : Topology) (bytes : List ℕ) (head : Token) (ts : List Term) → length ts ≢ 3
    → choice_of T bytes head (trees ts) (policy_readings T bytes (trees ts)) ≡ faulty head BadValue
others T bytes head [] other = refl
others T bytes head (x ∷ []) other = refl
others T bytes head (x ∷ y ∷ []) other = refl
others T bytes head (x ∷ y ∷ z ∷ []) other = absurd (other refl)
others T bytes head (x ∷ y ∷ z ∷ w ∷ ts) other = refl
