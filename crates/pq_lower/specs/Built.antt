-- What the predicates that are added consist of: the predicates of the query, and tests for the values of the label.
use Rattle.std.specs.Prelude.{◌≢◌, ℕ, ◌^◌, ◌<◌, List, [], ◌∷◌, ◌++◌}
use Rattle.pq_fields.specs.declared.field.Field.TheVariants.{Port}
use Rattle.pq_fields.specs.Packet.{width_of}
use Rattle.pq_fields.specs.Pred.{PredTop, Always, Never, Equals, Every, Negated, Preds, none, put, PredTree, preds}
use Rattle.pq_query.specs.Groups.{Group}
use Rattle.pq_query.specs.Labels.{groups_of}
use Rattle.pq_query.specs.Query.{QueryTop, Enters, Leaves, Passes, Ends, InTurn, Either, Both, Other, Repeated, Queries, none as no_queries}
use Rattle.pq_query.specs.Query.{put as add, QueryTree, queries}

-- what can be said of the top of a predicate and its operands
abbrev pub Say : Type 1
Say = PredTop → Preds → Type 0

-- it is true of all tops, in all depths
abbrev pub AreBuilt : Say → Preds → Type 0
AreBuilt P none = Unit {0}
AreBuilt P (put top below rest) = P top below × AreBuilt P below × AreBuilt P rest

abbrev pub IsBuilt : Say → PredTree → Type 0
IsBuilt P p = AreBuilt P (preds (p ∷ []))

-- it is true of what is around the predicates of a query: operators, the test of port 0, and predicates without a test
pub record IsKept (P : Say) : Type 0 where
  pub always : P Always none
  pub never : P Never none
  pub dropped : P (Equals Port 0) none
  pub every : (ps : Preds) → ps ≢ none → P Every ps
  pub negated : (ps : Preds) → ps ≢ none → P Negated ps

-- it is true of the tests of grouped fields for the values of a label
abbrev pub AreTested : Say → List Group → List ℕ → Type 0
AreTested P [] label = Unit {0}
AreTested P (g ∷ gs) [] = Unit {0}
AreTested P (g ∷ gs) (n ∷ label) = P (Equals g.field n) none × AreTested P gs label

-- the predicates that are in queries
abbrev pub top_own : QueryTop → List PredTree
top_own (Enters p gs) = p ∷ []
top_own (Leaves p gs) = p ∷ []
top_own (Passes p gs q hs) = p ∷ q ∷ []
top_own (Ends p) = p ∷ []
top_own InTurn = []
top_own Either = []
top_own Both = []
top_own Other = []
top_own Repeated = []

abbrev pub own_preds : Queries → List PredTree
own_preds no_queries = []
own_preds (add top below rest) = top_own top ++ (own_preds below ++ own_preds rest)

-- it is true of what the query and the label bring
pub record Brings (P : Say) (q : QueryTree) (label : List ℕ) : Type 0 where
  pub own : AreBuilt P (preds (own_preds (queries (q ∷ []))))
  pub tests : AreTested P (groups_of (queries (q ∷ []))) label

-- the values of a label fit the widths of the grouped fields
abbrev pub DoFit : List Group → List ℕ → Type 0
DoFit [] label = Unit {0}
DoFit (g ∷ gs) [] = Unit {0}
DoFit (g ∷ gs) (n ∷ label) = (n < 2 ^ width_of g.field) × DoFit gs label

-- the values of a query's label fit
abbrev pub IsFittingLabel : QueryTree → List ℕ → Type 0
IsFittingLabel q label = DoFit (groups_of (queries (q ∷ []))) label
