-- Labels of worked queries.
use Rattle.std.proofs.Common.{◌≡◌, [], ◌∷◌, refl}
use Rattle.std.specs.declared.option.Option.TheVariants.{None, Some}
use Rattle.pq_fields.specs.declared.field.Field.TheVariants.{Switch, Port, IpProto}
use Rattle.pq_fields.specs.Pred.{PredTree, Always, leaf as plain}
use Rattle.pq_model.specs.Topology.{Topology}
use Rattle.pq_query.specs.Groups.{Group}
use Rattle.pq_query.specs.Query.{Enters, Passes, Ends, InTurn, leaf, queries}
use Rattle.pq_query.specs.Labels.{labels}

-- switches 3 and 7, with ports 1 and 2 and ports 2 and 5
abbrev network : Topology
network = record {
  switches = record { name = []; datapath = 3; ports = 1 ∷ 2 ∷ []; limit = 2000 } ∷ record { name = []; datapath = 7; ports = 2 ∷ 5 ∷ []; limit = 2000 } ∷ [];
  links = [];
}

abbrev any_packet : PredTree
any_packet = plain Always

abbrev by_switch : Group
by_switch = record { field = Switch; values = None }

abbrev by_port : Group
by_port = record { field = Port; values = None }

abbrev by_protocol : Group
by_protocol = record { field = IpProto; values = Some (17 ∷ 6 ∷ []) }

-- without grouped fields the empty list is the one label
none_grouped : labels network (leaf (Ends any_packet)) ≡ [] ∷ []
none_grouped = refl

-- a port number that two switches have is one value
ports_grouped : labels network (leaf (Enters any_packet (by_port ∷ []))) ≡ (1 ∷ []) ∷ (2 ∷ []) ∷ (5 ∷ []) ∷ []
ports_grouped = refl

-- stated values ascend, and the first of the values decides first
two_grouped : labels network (leaf (Passes any_packet (by_switch ∷ []) any_packet (by_protocol ∷ []))) ≡ (3 ∷ 6 ∷ []) ∷ (3 ∷ 17 ∷ []) ∷
    (7 ∷ 6 ∷ []) ∷ (7 ∷ 17 ∷ []) ∷ []
two_grouped = refl

-- the grouped fields of operands are in text order
operands_grouped : labels network (record {
  top = InTurn;
  below = queries (leaf (Enters any_packet (by_protocol ∷ [])) ∷ leaf (Enters any_packet (by_switch ∷ [])) ∷ []);
}) ≡ (6 ∷ 3 ∷ []) ∷ (6 ∷ 7 ∷ []) ∷ (17 ∷ 3 ∷ []) ∷ (17 ∷ 7 ∷ []) ∷ []
operands_grouped = refl
