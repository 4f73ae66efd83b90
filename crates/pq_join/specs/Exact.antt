-- Leaves that compare as equal are the same.
use Rattle.std.specs.Prelude.{◌≡◌, ℕ, Bool, true, ◌==◌, List}
use mathlib.Core.Path.{ap}
use denote.Enum.Bare.{same_true}
use Rattle.std.proofs.Common.{rules}
use Rattle.std.proofs.lemmas.Bool.{eqb-true}
use Rattle.std.proofs.lemmas.Cmp.{lists_equiv}
use Rattle.std.specs.Cmp.{IsPartialEquivalence, IsEquivalence, first_so, second_so, partial_equiv_from_equiv}
use Rattle.std.specs.Cmp.Lexicographic.{pointwise}
use Rattle.std.specs.Hash as fed
use Rattle.pq_fields.specs.Order.{writes_eq}
use Rattle.pq_fields.proofs.Places.{same_writes}
use Rattle.pq_rewrite.specs.Order.{same_items}
use Rattle.pq_join.specs.declared.departure.Departure.{Departure}
use Rattle.pq_join.specs.declared.ports.PortKind.{PortKind}
use Rattle.pq_join.specs.declared.sight.Seen.{Seen}
use Rattle.pq_join.specs.contracts.departure.DeparturePartialEq.TheImpl.{ghosts as departures}
use Rattle.pq_join.specs.contracts.departure.DepartureEq.TheImpl as equivalence
use Rattle.pq_join.specs.contracts.departure.DepartureHash.TheImpl as hashes
use Rattle.pq_join.specs.contracts.ports.PortKind.{the_type}
use Rattle.pq_join.specs.contracts.ports.PortKindPartialEq.TheImpl.{ghosts as kinds}
use Rattle.pq_join.specs.contracts.sight.SeenPartialEq.TheImpl.{ghosts as sights}

-- equal kinds of ports are the same
pub same_port_kind : (a b : PortKind) → kinds.eq a b ≡ true → a ≡ b
same_port_kind = same_true the_type (search rules)

-- what is seen equally is the same
pub same_seen : (a b : Seen) → sights.eq a b ≡ true → a ≡ b
same_seen a b equal =
    let port = kinds.eq a.port b.port in
    let letter_is : a.letter ≡ b.letter = eqb-true a.letter b.letter (first_so (a.letter == b.letter) port equal) in
    let port_is : a.port ≡ b.port = same_port_kind a.port b.port (second_so (a.letter == b.letter) port equal) in
    λ i. record { letter = letter_is i; port = port_is i }

-- equal departures are the same
same_departure : (a b : Departure) → departures.eq a b ≡ true → a ≡ b
same_departure a b equal =
    let seen = sights.eq a.seen b.seen in
    let writes_is : a.writes ≡ b.writes = (same_writes a.writes b.writes).0 (first_so (writes_eq a.writes b.writes) seen equal) in
    let seen_is : a.seen ≡ b.seen = same_seen a.seen b.seen (second_so (writes_eq a.writes b.writes) seen equal) in
    λ i. record { writes = writes_is i; seen = seen_is i }

-- whether two lists of departures are equal
abbrev pub departures_eq : List Departure → List Departure → Bool
departures_eq = pointwise departures.eq

pub departures_equiv : IsEquivalence departures_eq
departures_equiv = lists_equiv equivalence.Laws.laws-law

pub departures_per : IsPartialEquivalence departures_eq
departures_per = partial_equiv_from_equiv departures_equiv

-- equal lists are the same
pub same_departures : (xs ys : List Departure) → departures_eq xs ys ≡ true → xs ≡ ys
same_departures = same_items departures.eq same_departure

-- what `hash` writes of a list of departures
abbrev pub departures_hash : List Departure → List (List ℕ)
departures_hash = fed.slice (hashes.ghosts).hash_input

-- equal lists write the same
pub departures_hashes : (xs ys : List Departure) → departures_eq xs ys ≡ true → departures_hash xs ≡ departures_hash ys
departures_hashes xs ys equal = ap departures_hash (same_departures xs ys equal)
