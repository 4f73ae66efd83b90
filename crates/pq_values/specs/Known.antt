-- Known numbers of fields, each once, and what a document adds to them.
use Rattle.std.specs.Prelude.{ℕ, Bool, ◌==◌, ◌&&◌, if◌then◌else◌, List, [], ◌∷◌, ◌++◌, length, Option, Some, None}
use Rattle.std.specs.List.{list_any}
use Rattle.pq_fields.specs.declared.field.Field.{Field}
use Rattle.pq_fields.specs.declared.field.Field.TheVariants.{Port}
use Rattle.pq_fields.specs.Pred.{PredTop, Preds, PredTree, preds}
use Rattle.pq_fields.specs.Pred.PredTop.{Always, Never, Equals, Leads, LeadsWide, Every, Some as AnyOf, Negated}
use Rattle.pq_fields.specs.Pred.Preds.{none as no_preds, put as add_pred}
use Rattle.pq_model.specs.Topology.{Switch}
use Rattle.pq_policy.specs.Policy.{PolicyTop, Pass, Discard, Spread, Only, Write, Forward, Choose, Either, InTurn, Policies}
use Rattle.pq_policy.specs.Policy.{none as no_policies, put as add_policy, PolicyTree, policies}
use Rattle.pq_query.specs.Groups.{Group}
use Rattle.pq_query.specs.Query.{QueryTop, Enters, Leaves, Passes, Ends, InTurn as Joined, Either as AnyQuery, Both, Other, Repeated}
use Rattle.pq_query.specs.Query.{Queries, none as no_queries, put as add_query, QueryTree, queries}
use Rattle.pq_query.specs.Resolved.{is_field}
use Rattle.pq_values.specs.Limits.{numbers_for}
use Rattle.pq_values.specs.Stated.{Stated}

-- the same number of the same field
abbrev pub is_same : Stated → Stated → Bool
is_same s t = is_field s.0 t.0 && (s.1 == t.1)

-- what is known with one more
abbrev pub with_one : Stated → List Stated → List Stated
with_one s known = if list_any (is_same s) known then known else known ++ s ∷ []

-- what is known after each of these in turn
abbrev pub with_each : {A : Type 0} → (A → List Stated → List Stated) → List A → List Stated → List Stated
with_each step [] known = known
with_each step (x ∷ xs) known = with_each step xs (step x known)

-- with the numbers of the field
abbrev pub with_numbers : Field → List ℕ → List Stated → List Stated
with_numbers f ns known = with_each (λ n. with_one (f, n)) ns known

-- with the number of a test at the top of a predicate
abbrev pub with_pred_top : PredTop → List Stated → List Stated
with_pred_top Always known = known
with_pred_top Never known = known
with_pred_top (Equals f n) known = with_one (f, n) known
with_pred_top (Leads f n len) known = known
with_pred_top (LeadsWide f n len) known = known
with_pred_top Every known = known
with_pred_top AnyOf known = known
with_pred_top Negated known = known

-- with those of predicates
abbrev pub with_preds : Preds → List Stated → List Stated
with_preds no_preds known = known
with_preds (add_pred top below rest) known = with_preds rest (with_preds below (with_pred_top top known))

-- with those of one predicate
abbrev pub with_pred : PredTree → List Stated → List Stated
with_pred p known = with_preds (preds (p ∷ [])) known

-- with the numbers at the top of a policy
abbrev pub with_policy_top : PolicyTop → List Stated → List Stated
with_policy_top Pass known = known
with_policy_top Discard known = known
with_policy_top Spread known = known
with_policy_top (Only p) known = with_pred p known
with_policy_top (Write f n) known = with_one (f, n) known
with_policy_top (Forward n) known = with_one (Port, n) known
with_policy_top (Choose p) known = with_pred p known
with_policy_top Either known = known
with_policy_top InTurn known = known

-- with those of policies
abbrev pub with_policies : Policies → List Stated → List Stated
with_policies no_policies known = known
with_policies (add_policy top below rest) known = with_policies rest (with_policies below (with_policy_top top known))

-- with those of one policy
abbrev pub with_policy : PolicyTree → List Stated → List Stated
with_policy p known = with_policies (policies (p ∷ [])) known

-- with the values of a grouped field, where they are stated
abbrev pub with_group : Group → List Stated → List Stated
with_group g known = by g.values where
  by : Option (List ℕ) → List Stated
  by (Some ns) = with_numbers g.field ns known
  by None = known

-- with those of a predicate and of grouped fields
abbrev pub with_side : PredTree → List Group → List Stated → List Stated
with_side p gs known = with_each with_group gs (with_pred p known)

-- with the numbers at the top of a query
abbrev pub with_query_top : QueryTop → List Stated → List Stated
with_query_top (Enters p gs) known = with_side p gs known
with_query_top (Leaves p gs) known = with_side p gs known
with_query_top (Passes p gs q hs) known = with_side q hs (with_side p gs known)
with_query_top (Ends p) known = with_pred p known
with_query_top Joined known = known
with_query_top AnyQuery known = known
with_query_top Both known = known
with_query_top Other known = known
with_query_top Repeated known = known

-- with those of queries
abbrev pub with_queries : Queries → List Stated → List Stated
with_queries no_queries known = known
with_queries (add_query top below rest) known = with_queries rest (with_queries below (with_query_top top known))

-- with those of one query
abbrev pub with_query : QueryTree → List Stated → List Stated
with_query q known = with_queries (queries (q ∷ [])) known

-- with the ports of a switch
abbrev pub with_switch : Switch → List Stated → List Stated
with_switch s known = with_numbers Port s.ports known

-- how many of the known numbers are the field's
abbrev pub known_count : List Stated → Field → ℕ
known_count known f = length (numbers_for f known)
