-- Long unions of routes, whose networks are out of order.
use Rattle.std.specs.Prelude.{ℕ, zero, suc, ◌+◌, ◌*◌, ◌%◌, List, [], ◌∷◌, ◌++◌}
use Rattle.pq_fields.specs.declared.field.Field.TheVariants.{Ipv4Dst}
use Rattle.pq_fields.specs.Pred.{leaf as pred_leaf}
use Rattle.pq_fields.specs.Pred.PredTop.{Leads}
use Rattle.pq_policy.specs.Policy.{Either, Forward, InTurn, Only, PolicyTree, leaf, policies}

-- the network at a place: 10.0.0.0, and this many times 7,919 networks of length 24, modulo 65,536
abbrev pub network : ℕ → ℕ
network place = 0x0a000000 + 256 * (place * 7919 % 65536)

-- the packets to the network at a place
abbrev pub to_network : ℕ → PolicyTree
to_network place = leaf (Only (pred_leaf (Leads Ipv4Dst (network place) 24)))

-- the packet at port 1 or 2, in turn
abbrev pub to_port : ℕ → PolicyTree
to_port place = leaf (Forward (place % 2 + 1))

-- the packets to the network at a place go to its port
abbrev pub route : ℕ → PolicyTree
route place = record { top = InTurn; below = policies (to_network place ∷ to_port place ∷ []) }

-- the routes at the first places, this many
abbrev pub first_routes : ℕ → List PolicyTree
first_routes zero = []
first_routes (suc n) = first_routes n ++ route n ∷ []

-- any one of these policies
abbrev pub any_of : List PolicyTree → PolicyTree
any_of ps = record { top = Either; below = policies ps }
