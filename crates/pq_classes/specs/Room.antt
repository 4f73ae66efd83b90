-- The numbers that the diagrams of queries test.
use Rattle.std.specs.Prelude.{ℕ, List, [], ◌∷◌, All}
use Rattle.pq_fields.specs.declared.field.Field.{Field}
use Rattle.pq_fields.specs.declared.field.Field.TheVariants.{Port}
use Rattle.pq_model.specs.Topology.{Topology}
use Rattle.pq_query.specs.Groups.{Group}
use Rattle.pq_query.specs.Labels.{group_values, groups_of}
use Rattle.pq_query.specs.Query.{QueryTree, queries}
use Rattle.pq_store.specs.Room.{HasRoom, IsAmong, IsCounted}
use Rattle.pq_apply.specs.Predicates.{IsPredWithin, NeedsAmong}
use Rattle.pq_lower.specs.Built.{own_preds}

-- the values of a grouped field, and the numbers in its prerequisites, are among these
abbrev pub IsGroupWithin : (Field → List ℕ) → Topology → Group → Type 0
IsGroupWithin ns T g = NeedsAmong ns g.field × All (IsCounted ns g.field) (group_values T g)

-- the numbers of a query's predicates and those of its grouped fields are among these
pub record IsQueryWithin (ns : Field → List ℕ) (T : Topology) (q : QueryTree) : Type 0 where
  pub preds : All (IsPredWithin ns) (own_preds (queries (q ∷ [])))
  pub groups : All (IsGroupWithin ns T) (groups_of (queries (q ∷ [])))

-- there is room for the numbers of the queries, and for port 0, which no packet leaves at
abbrev pub FitAsQueries : Topology → List QueryTree → Type 0
FitAsQueries T qs = HasRoom (λ ns. IsAmong 0 (ns Port) × All (IsQueryWithin ns T) qs)
