-- Broadcast packets at a switch with many ports.
use Rattle.std.specs.Prelude.{ℕ, zero, suc, List, [], ◌∷◌, ◌++◌, codes}
use Rattle.pq_fields.specs.declared.field.Field.TheVariants.{EthDst}
use Rattle.pq_fields.specs.Pred.{leaf as pred_leaf}
use Rattle.pq_fields.specs.Pred.PredTop.{Equals}
use Rattle.pq_model.specs.Topology.{Switch, Topology}
use Rattle.pq_policy.specs.Policy.{InTurn, Only, PolicyTree, Spread, leaf, policies}

-- the ports from 1 on, this many
abbrev pub first_ports : ℕ → List ℕ
first_ports zero = []
first_ports (suc n) = first_ports n ++ suc n ∷ []

-- switch 1 with this many ports
abbrev pub switch_of : ℕ → Switch
switch_of count = record { name = codes "s1"; datapath = 1; ports = first_ports count; limit = 16384 }

-- and no other
abbrev pub one_switch : ℕ → Topology
one_switch count = record { switches = switch_of count ∷ []; links = [] }

-- the packets to the broadcast address
abbrev pub to_all : PolicyTree
to_all = leaf (Only (pred_leaf (Equals EthDst 0xffffffffffff)))

-- these go to all other ports
abbrev pub broadcast : PolicyTree
broadcast = record { top = InTurn; below = policies (to_all ∷ leaf Spread ∷ []) }
