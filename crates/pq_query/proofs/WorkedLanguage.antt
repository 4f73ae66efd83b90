-- Words of worked queries.
use Rattle.std.proofs.Common.{[], ◌∷◌, refl}
use Rattle.pq_fields.specs.Packet.{Numbers}
use Rattle.pq_fields.specs.Pred.{Always, leaf as plain}
use Rattle.pq_model.specs.Word.{In, Out}
use Rattle.pq_query.specs.Query.{Enters, InTurn, Other, Repeated, QueryTree, leaf, queries}
use Rattle.pq_query.specs.Language.{lang}

-- any packet that enters
abbrev enters : QueryTree
enters = leaf (Enters (plain Always) [])

-- two packets that enter, with whatever was sent between them
two_entries : (x y z : Numbers) → lang (record { top = InTurn; below = queries (enters ∷ enters ∷ []) }) [] (In x ∷ Out z ∷ In y ∷ [])
two_entries x y z = (In x ∷ [], In y ∷ [], (z, refl), (x, refl, (refl, refl)), (In y ∷ [], [], refl, (y, refl, (refl, refl)), refl))

-- no word of none
never_again : lang (record { top = Repeated; below = queries (enters ∷ []) }) [] []
never_again = (0, refl)

-- the complement holds the empty word, which no atom holds
nothing_entered : lang (record { top = Other; below = queries (enters ∷ []) }) [] []
nothing_entered = (refl, λ held. cc)
