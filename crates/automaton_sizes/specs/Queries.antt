-- The worked queries as plain data.
use Rattle.std.specs.Prelude.{ℕ, zero, suc, ◌+◌, ◌-◌, ◌*◌, ◌/◌, ◌%◌, List, [], ◌∷◌, ◌++◌, Some}
use Rattle.std.specs.List.{range_with_len}
use Rattle.pq_fields.specs.declared.field.Field.TheVariants.{Switch, Port}
use Rattle.pq_fields.specs.Pred.{PredTree, leaf as pred_leaf}
use Rattle.pq_fields.specs.Pred.PredTop.{Always, Equals}
use Rattle.pq_query.specs.Query.{QueryTree, queries, leaf}
use Rattle.pq_query.specs.Query.QueryTop.{Enters, Leaves, InTurn, Either, Other, Repeated}

-- `true`, `switch=NUMBER` and `port=NUMBER`
abbrev pub anything : PredTree
anything = pred_leaf Always

abbrev pub switch_is : ℕ → PredTree
switch_is n = pred_leaf (Equals Switch n)

abbrev pub port_is : ℕ → PredTree
port_is n = pred_leaf (Equals Port n)

-- `in_atom(PRED)` and `out_atom(PRED)`
abbrev pub entering : PredTree → QueryTree
entering p = leaf (Enters p [])

abbrev pub leaving : PredTree → QueryTree
leaving p = leaf (Leaves p [])

-- queries joined by `^`
abbrev pub in_turn : List QueryTree → QueryTree
in_turn qs = record { top = InTurn; below = queries qs }

-- a query repeated, and all words but those of a query
abbrev pub any_number : QueryTree → QueryTree
any_number q = record { top = Repeated; below = queries (q ∷ []) }

abbrev pub all_but : QueryTree → QueryTree
all_but q = record { top = Other; below = queries (q ∷ []) }

-- a query this many times
abbrev pub times : ℕ → QueryTree → List QueryTree
times zero q = []
times (suc n) q = times n q ++ q ∷ []

-- `in_atom(true)*`
abbrev pub any_packets : QueryTree
any_packets = any_number (entering anything)

-- `in_atom(true)` after this many `~`
abbrev pub turned : ℕ → QueryTree
turned zero = entering anything
turned (suc n) = all_but (turned n)

-- `in_atom(switch=1) ^ in_atom(true)* ^ in_atom(switch=2) ^ in_atom(true)*` and so on, past this many switches
abbrev pub passing : ℕ → List QueryTree
passing zero = []
passing (suc n) = (passing n ++ entering (switch_is (n + 1)) ∷ []) ++ any_packets ∷ []

-- past all switches but the last, and to the last
abbrev pub waypoints : ℕ → QueryTree
waypoints last = in_turn (passing (last - 1) ++ entering (switch_is last) ∷ [])

-- `in_group(true, [port of (1, .., 32)])`
abbrev pub at_many_ports : QueryTree
at_many_ports = leaf (Enters anything (record { field = Port; values = Some (range_with_len 1 32) } ∷ []))

-- a port from 1 to 7 that varies with two numbers
abbrev pub varied_port : ℕ → ℕ → ℕ
varied_port chain place = (chain + chain / 7 * place + place * place) % 7 + 1

-- this many atoms for packets that come in at varied ports
abbrev pub varied_atoms : ℕ → ℕ → List QueryTree
varied_atoms chain zero = []
varied_atoms chain (suc n) = varied_atoms chain n ++ entering (port_is (varied_port chain n)) ∷ []

-- this many chains of ten such atoms
abbrev pub varied_chains : ℕ → List QueryTree
varied_chains zero = []
varied_chains (suc n) = varied_chains n ++ in_turn (varied_atoms n 10) ∷ []

-- any one of these
abbrev pub one_of : List QueryTree → QueryTree
one_of qs = record { top = Either; below = queries qs }
