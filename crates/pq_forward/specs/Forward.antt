-- The diagram of a policy, the numbers that it may test and write, and the steps to it.
use Rattle.std.specs.Prelude.{ℕ, suc, ◌+◌, ◌-◌, ◌≡◌, Bool, true, false, List, [], ◌∷◌, All}
use Rattle.pq_fields.specs.declared.field.Field.{Field}
use Rattle.pq_fields.specs.declared.field.Field.TheVariants.{Switch, Port}
use Rattle.pq_fields.specs.Pred.{PredTree, holds}
use Rattle.pq_fields.specs.Writes.{Written}
use Rattle.pq_model.specs.Topology.{Topology}
use Rattle.pq_policy.specs.Policy.{PolicyTop, Pass, Discard, Spread, Only, Write, Forward, Choose, Either, InTurn, Policies, none, put}
use Rattle.pq_policy.specs.Policy.{PolicyTree, policies, Joint, AnyOne, Chained, Yields, yields}
use Rattle.pq_store.specs.Tree.{Tree}
use Rattle.pq_store.specs.Room.{HasRoom, IsAmong, IsCounted}
use Rattle.pq_apply.specs.Predicates.{IsPredWithin, NeedsAmong}
use Rattle.pq_rewrite.specs.Rewriting.{Covers, IsGiving}

-- Numbers.

-- the datapath numbers and the ports of the topology are among these
abbrev pub IsTopologyWithin : (Field → List ℕ) → Topology → Type 0
IsTopologyWithin ns T = All (λ s. IsAmong s.datapath (ns Switch) × All (λ p. IsAmong p (ns Port)) s.ports) T.switches

-- the numbers that a policy states at its top, and those in prerequisites, are among these
abbrev pub IsPolicyTopWithin : (Field → List ℕ) → PolicyTop → Type 0
IsPolicyTopWithin ns Pass = Unit {0}
IsPolicyTopWithin ns Discard = Unit {0}
IsPolicyTopWithin ns Spread = Unit {0}
IsPolicyTopWithin ns (Only p) = IsPredWithin ns p
IsPolicyTopWithin ns (Write f n) = IsCounted ns f n × NeedsAmong ns f
IsPolicyTopWithin ns (Forward n) = IsAmong n (ns Port)
IsPolicyTopWithin ns (Choose p) = IsPredWithin ns p
IsPolicyTopWithin ns Either = Unit {0}
IsPolicyTopWithin ns InTurn = Unit {0}

-- and those of some policies
abbrev pub ArePoliciesWithin : (Field → List ℕ) → Policies → Type 0
ArePoliciesWithin ns none = Unit {0}
ArePoliciesWithin ns (put top below rest) = IsPolicyTopWithin ns top × ArePoliciesWithin ns below × ArePoliciesWithin ns rest

abbrev pub IsPolicyWithin : (Field → List ℕ) → PolicyTree → Type 0
IsPolicyWithin ns p = ArePoliciesWithin ns (policies (p ∷ []))

-- the policies may be one diagram: there is room for their numbers and those of the topology
abbrev pub FitAsForwards : Topology → Policies → Type 0
FitAsForwards T ps = HasRoom (λ ns. IsTopologyWithin ns T × ArePoliciesWithin ns ps)

abbrev pub FitAsForward : Topology → PolicyTree → Type 0
FitAsForward T p = FitAsForwards T (policies (p ∷ []))

-- Diagrams.

-- the tree gives on each packet what the policies give together, and tests and writes only their numbers
pub record IsForwards (T : Topology) (joint : Joint) (ps : Policies) (t : Tree (List Written)) : Type 0 where
  pub giving : IsGiving (λ x y. Yields T ps joint x y) t
  pub covers : (ns : Field → List ℕ) → IsTopologyWithin ns T → ArePoliciesWithin ns ps → Covers ns t

-- the tree gives on each packet what the policy gives on it, and tests and writes only its numbers
pub record IsForward (T : Topology) (p : PolicyTree) (t : Tree (List Written)) : Type 0 where
  pub giving : IsGiving (yields T p) t
  pub covers : (ns : Field → List ℕ) → IsTopologyWithin ns T → IsPolicyWithin ns p → Covers ns t

-- how policies act together
abbrev pub joint : Bool → Joint
joint true = Chained
joint false = AnyOne

-- the tree gives each packet of which the predicate holds, and tests only its numbers and those in prerequisites
pub record IsFiltered (p : PredTree) (t : Tree (List Written)) : Type 0 where
  pub giving : IsGiving (λ x y. (holds p x ≡ true) × (y ≡ x)) t
  pub covers : (ns : Field → List ℕ) → IsPredWithin ns p → Covers ns t

-- a choice by a predicate tests its numbers and those in prerequisites
abbrev pub pred_needs : PredTree → (Field → List ℕ) → Type 0
pred_needs p ns = IsPredWithin ns p

-- Steps.

-- how many policies there are
abbrev pub number_of : Policies → ℕ
number_of none = 0
number_of (put top below rest) = suc (number_of rest)

-- the steps to a policy with this top: one for each operand of a union or a sequence but the first, and those to the operands
abbrev pub top_work : PolicyTop → ℕ → ℕ → ℕ
top_work Pass count operands = 0
top_work Discard count operands = 0
top_work Spread count operands = 0
top_work (Only p) count operands = 0
top_work (Write f n) count operands = 0
top_work (Forward n) count operands = 0
top_work (Choose p) count operands = operands
top_work Either count operands = count - 1 + operands
top_work InTurn count operands = count - 1 + operands

-- the steps to each of the policies together
abbrev pub works : Policies → ℕ
works none = 0
works (put top below rest) = top_work top (number_of below) (works below) + works rest

abbrev pub work : PolicyTree → ℕ
work p = top_work p.top (number_of p.below) (works p.below)

-- the steps to the union or the sequence of some policies
abbrev pub work_of : Policies → ℕ
work_of ps = number_of ps - 1 + works ps
