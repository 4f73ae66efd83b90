-- The numbers that a document states for fields.
use Rattle.std.specs.Prelude.{ℕ, List, [], ◌∷◌, ◌++◌, map, Option, Some, None}
use Rattle.std.specs.List.{flat_map}
use Rattle.pq_fields.specs.declared.field.Field.{Field}
use Rattle.pq_fields.specs.declared.field.Field.TheVariants.{Port}
use Rattle.pq_fields.specs.Pred.{PredTop, Preds, PredTree, preds}
use Rattle.pq_fields.specs.Pred.PredTop.{Always, Never, Equals, Leads, LeadsWide, Every, Some as AnyOf, Negated}
use Rattle.pq_fields.specs.Pred.Preds.{none as no_preds, put as add_pred}
use Rattle.pq_model.specs.Topology.{Topology}
use Rattle.pq_policy.specs.declared.policy.Policy.{Policy}
use Rattle.pq_policy.specs.Policy.{PolicyTop, Pass, Discard, Spread, Only, Write, Forward, Choose, Either, InTurn, Policies}
use Rattle.pq_policy.specs.Policy.{none as no_policies, put as add_policy, PolicyTree, policies, policy_tree}
use Rattle.pq_query.specs.Groups.{Group}
use Rattle.pq_query.specs.Labels.{port_numbers}
use Rattle.pq_query.specs.Query.{QueryTop, Enters, Leaves, Passes, Ends, InTurn as Joined, Either as AnyQuery, Both, Other, Repeated}
use Rattle.pq_query.specs.Query.{Queries, none as no_queries, put as add_query, QueryTree, queries}

-- a number that is stated for a field
abbrev pub Stated : Type 0
Stated = Field × ℕ

-- these numbers of the field
abbrev pub stated_for : Field → List ℕ → List Stated
stated_for f ns = map (λ n. (f, n)) ns

-- Predicates.

-- the number of a test at the top of a predicate; an address with a length states none
abbrev pub in_pred_top : PredTop → List Stated
in_pred_top Always = []
in_pred_top Never = []
in_pred_top (Equals f n) = (f, n) ∷ []
in_pred_top (Leads f n len) = []
in_pred_top (LeadsWide f n len) = []
in_pred_top Every = []
in_pred_top AnyOf = []
in_pred_top Negated = []

-- the numbers of the tests of predicates
abbrev pub in_preds : Preds → List Stated
in_preds no_preds = []
in_preds (add_pred top below rest) = in_pred_top top ++ (in_preds below ++ in_preds rest)

-- those of one predicate
abbrev pub in_pred : PredTree → List Stated
in_pred p = in_preds (preds (p ∷ []))

-- Policies.

-- the numbers at the top of a policy
abbrev pub in_policy_top : PolicyTop → List Stated
in_policy_top Pass = []
in_policy_top Discard = []
in_policy_top Spread = []
in_policy_top (Only p) = in_pred p
in_policy_top (Write f n) = (f, n) ∷ []
in_policy_top (Forward n) = (Port, n) ∷ []
in_policy_top (Choose p) = in_pred p
in_policy_top Either = []
in_policy_top InTurn = []

-- the numbers that policies test and write, and the ports that they send to
abbrev pub in_policies : Policies → List Stated
in_policies no_policies = []
in_policies (add_policy top below rest) = in_policy_top top ++ (in_policies below ++ in_policies rest)

-- those of one policy
abbrev pub in_policy : PolicyTree → List Stated
in_policy p = in_policies (policies (p ∷ []))

-- the policies of parts, without their names
abbrev pub part_trees : List (List ℕ × Policy) → List PolicyTree
part_trees ps = map (λ p. policy_tree p.1) ps

-- Queries.

-- the values of a grouped field, where they are stated
abbrev pub in_group : Group → List Stated
in_group g = by g.values where
  by : Option (List ℕ) → List Stated
  by (Some ns) = stated_for g.field ns
  by None = []

-- those of several grouped fields
abbrev pub in_groups : List Group → List Stated
in_groups gs = flat_map in_group gs

-- the numbers at the top of a query
abbrev pub in_query_top : QueryTop → List Stated
in_query_top (Enters p gs) = in_pred p ++ in_groups gs
in_query_top (Leaves p gs) = in_pred p ++ in_groups gs
in_query_top (Passes p gs q hs) = in_pred p ++ (in_groups gs ++ (in_pred q ++ in_groups hs))
in_query_top (Ends p) = in_pred p
in_query_top Joined = []
in_query_top AnyQuery = []
in_query_top Both = []
in_query_top Other = []
in_query_top Repeated = []

-- the numbers that queries test, and the values that they group by
abbrev pub in_queries : Queries → List Stated
in_queries no_queries = []
in_queries (add_query top below rest) = in_query_top top ++ (in_queries below ++ in_queries rest)

-- those of one query
abbrev pub in_query : QueryTree → List Stated
in_query q = in_queries (queries (q ∷ []))

-- Documents.

-- the ports of the switches
abbrev pub in_topology : Topology → List Stated
in_topology T = stated_for Port (port_numbers T)

-- all numbers that a network, policies and queries state
abbrev pub stated : Topology → List PolicyTree → List QueryTree → List Stated
stated T ps qs = in_topology T ++ (flat_map in_policy ps ++ flat_map in_query qs)
