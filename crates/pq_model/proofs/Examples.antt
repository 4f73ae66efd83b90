-- Small networks, worked out by hand.
use Rattle.std.specs.Prelude.{ℕ, List, [], ◌∷◌, codes}
use Rattle.std.specs.declared.option.Option.{Option}
use Rattle.std.specs.declared.option.Option.TheVariants.{None, Some}
use Rattle.pq_model.specs.declared.action.Action.{Action}
use Rattle.pq_model.specs.declared.action.Action.TheVariants.{Output, PushVlan, PopVlan, SetVlan}
use Rattle.pq_model.specs.declared.flow_mod.FlowCommand.TheVariants.{Add as AddFlow, DeleteAll}
use Rattle.pq_model.specs.declared.group_mod.GroupCommand.TheVariants.{Delete}
use Rattle.pq_model.specs.declared.message.Message.{Message}
use Rattle.pq_model.specs.declared.message.Message.TheVariants.{Flow, Group as Grouping, Barrier}
use Rattle.pq_model.specs.MatchFields.{MatchFields, empty_match}
use Rattle.pq_model.specs.Topology.{Switch, Link, Topology}
use Rattle.pq_model.specs.declared.reserved.TheConstants.{ALL_GROUPS}
use Rattle.pq_model.specs.Install.{Install}

abbrev pub delete_entries : Message
delete_entries = Flow (record { xid = 1; cookie = 0; table = 0xff; command = DeleteAll; priority = 0; matching = empty_match; actions = []; goto = None })

abbrev pub delete_groups : Message
delete_groups = Grouping (record { xid = 2; command = Delete; group = ALL_GROUPS; buckets = [] })

abbrev pub add : ℕ → ℕ → ℕ → MatchFields → List Action → Option ℕ → Message
add xid table priority matching actions goto = Flow (record {
  xid = xid;
  cookie = 0;
  table = table;
  command = AddFlow;
  priority = priority;
  matching = matching;
  actions = actions;
  goto = goto;
})

abbrev pub at_tag : Option ℕ → ℕ → MatchFields
at_tag port word = record empty_match { in_port = port; vlan = Some word }

-- one switch with two ports
abbrev pub pair_topology : Topology
pair_topology = record { switches = record { name = codes "s1"; datapath = 1; ports = 1 ∷ 2 ∷ []; limit = 2000 } ∷ []; links = [] }

abbrev pub tiny_old : Install
tiny_old = record {
  topology = pair_topology;
  queries = [];
  report = [];
  messages = (delete_entries ∷ delete_groups ∷ Barrier 3 ∷ Barrier 4
      ∷ add 5 0 65535 (at_tag (Some 1) 0) (Output 2 ∷ []) None ∷ add 6 0 65534 (at_tag None 0) [] None ∷ Barrier 7 ∷ []) ∷ [];
}

abbrev pub tiny : Install
tiny = record {
  topology = pair_topology;
  queries = [];
  report = [];
  messages = (delete_entries ∷ delete_groups ∷ Barrier 3 ∷ Barrier 4
      ∷ add 5 0 65535 (at_tag (Some 1) 0) (PushVlan ∷ SetVlan 0x1002 ∷ []) (Some 1)
      ∷ add 6 0 65534 (at_tag (Some 2) 0) (PushVlan ∷ SetVlan 0x1002 ∷ []) (Some 1)
      ∷ add 7 0 65533 (at_tag None 0) [] None
      ∷ add 8 1 65535 (at_tag (Some 1) 0x1002) (PopVlan ∷ Output 2 ∷ []) None
      ∷ add 9 1 65534 (at_tag None 0x1002) [] None ∷ Barrier 10 ∷ []) ∷ [];
}

-- switches with ports 1 and 2
abbrev pub two_ports : List ℕ → ℕ → Switch
two_ports name d = record { name = name; datapath = d; ports = 1 ∷ 2 ∷ []; limit = 2000 }

abbrev pub link_on : ℕ → ℕ → Link
link_on d e = record { first = (d, 2); second = (e, 1) }

-- two switches in a row, and three
abbrev pub pair_link : Topology
pair_link = record { switches = two_ports (codes "s1") 1 ∷ two_ports (codes "s2") 2 ∷ []; links = link_on 1 2 ∷ [] }

abbrev pub line : Topology
line = record { switches = two_ports (codes "s1") 1 ∷ two_ports (codes "s2") 2 ∷ two_ports (codes "s3") 3 ∷ []; links = link_on 1 2 ∷ link_on 2 3 ∷ [] }
