-- Lawful queries: which numbers may be in predicates and groups, and no list of operands is empty.
use Rattle.std.specs.Prelude.{◌≡◌, ◌≢◌, ℕ, true, false, List, [], ◌∷◌, map, All, nat_eq, Option, Some, None}
use Rattle.std.specs.List.{IsDistinct}
use Rattle.pq_fields.specs.declared.field.Field.{Field}
use Rattle.pq_fields.specs.Packet.{is_wide}
use Rattle.pq_fields.specs.Pred.{FitsField, IsPredOver}
use Rattle.pq_query.specs.Groups.{Group}
use Rattle.pq_query.specs.Query.{QueryTop, Enters, Leaves, Passes, Ends, InTurn, Either, Both, Other, Repeated, Queries, none, put, QueryTree, queries}
use Rattle.pq_query.specs.Resolved.{is_listed, is_field}

-- Groups.

-- values of a grouped field: there is one, each may stand for the field, as V says, and they differ
pub record AreValuesOver (V : Field → ℕ → Type 0) (f : Field) (ns : List ℕ) : Type 0 where
  pub some : ns ≢ []
  pub fit : All (V f) ns
  pub differ : IsDistinct nat_eq ns

-- a group of the field may take these values; where none are stated, the field is `switch` or `port`
abbrev pub MayTake : (Field → ℕ → Type 0) → Field → Option (List ℕ) → Type 0
MayTake V f (Some ns) = AreValuesOver V f ns
MayTake V f None = is_listed f ≡ true

-- the field is not an IPv6 address, and may take the values
abbrev pub IsGroupOver : (Field → ℕ → Type 0) → Group → Type 0
IsGroupOver V g = (is_wide g.field ≡ false) × MayTake V g.field g.values

-- the groups of brackets are so, and their fields differ
pub record AreGroupsOver (V : Field → ℕ → Type 0) (gs : List Group) : Type 0 where
  pub each : All (IsGroupOver V) gs
  pub differ : IsDistinct is_field (map (λ g. g.field) gs)

-- Queries.

-- the numbers of predicates and groups may stand for their fields, as V says, and no list of operands is empty
abbrev pub IsTopOver : (Field → ℕ → Type 0) → QueryTop → Queries → Type 0
IsTopOver V (Enters p gs) below = IsPredOver V p × AreGroupsOver V gs
IsTopOver V (Leaves p gs) below = IsPredOver V p × AreGroupsOver V gs
IsTopOver V (Passes p gs q hs) below = IsPredOver V p × AreGroupsOver V gs × IsPredOver V q × AreGroupsOver V hs
IsTopOver V (Ends p) below = IsPredOver V p
IsTopOver V InTurn below = below ≢ none
IsTopOver V Either below = below ≢ none
IsTopOver V Both below = below ≢ none
IsTopOver V Other below = below ≢ none
IsTopOver V Repeated below = below ≢ none

abbrev pub AreQueriesOver : (Field → ℕ → Type 0) → Queries → Type 0
AreQueriesOver V none = Unit {0}
AreQueriesOver V (put top below rest) = IsTopOver V top below × AreQueriesOver V below × AreQueriesOver V rest

abbrev pub IsQueryOver : (Field → ℕ → Type 0) → QueryTree → Type 0
IsQueryOver V q = AreQueriesOver V (queries (q ∷ []))

-- all numbers fit their fields
abbrev pub AreLawfulGroups : List Group → Type 0
AreLawfulGroups = AreGroupsOver FitsField

abbrev pub IsLawfulTop : QueryTop → Queries → Type 0
IsLawfulTop = IsTopOver FitsField

abbrev pub AreLawfulQueries : Queries → Type 0
AreLawfulQueries = AreQueriesOver FitsField

abbrev pub IsLawfulQuery : QueryTree → Type 0
IsLawfulQuery = IsQueryOver FitsField
