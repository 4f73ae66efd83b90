-- What the messages of a switch add.
use Rattle.std.specs.Prelude.{List}
use Rattle.std.specs.List.{filter_map}
use Rattle.std.specs.declared.option.Option.{Option}
use Rattle.std.specs.declared.option.Option.TheVariants.{None, Some}
use Rattle.pq_model.specs.declared.action.Action.{Action}
use Rattle.pq_model.specs.declared.flow_mod.FlowCommand.{FlowCommand}
use Rattle.pq_model.specs.declared.flow_mod.FlowCommand.TheVariants.{Add as AddFlow, DeleteAll, DeleteStrict}
use Rattle.pq_model.specs.declared.group_mod.GroupCommand.{GroupCommand}
use Rattle.pq_model.specs.declared.group_mod.GroupCommand.TheVariants.{Add as AddGroup, Modify, Delete}
use Rattle.pq_model.specs.declared.message.Message.{Message}
use Rattle.pq_model.specs.declared.message.Message.TheVariants.{Flow, Group, Barrier}
use Rattle.pq_model.specs.Mods.{FlowValue, GroupValue}
use Rattle.pq_model.specs.SwitchMachine.{Entry, entry_of}

-- the actions of each bucket of a group
abbrev pub Buckets : Type 0
Buckets = List (List Action)

abbrev pub entry_by : FlowCommand → FlowValue → Option Entry
entry_by AddFlow f = Some (entry_of f)
entry_by DeleteAll f = None
entry_by DeleteStrict f = None

-- the entry of an Add
abbrev pub entry_added : Message → Option Entry
entry_added (Flow f) = entry_by f.command f
entry_added (Group g) = None
entry_added (Barrier xid) = None

-- the entries that the messages add, in order
abbrev pub entries_added : List Message → List Entry
entries_added ms = filter_map entry_added ms

abbrev pub group_by : GroupCommand → GroupValue → Option Buckets
group_by AddGroup g = Some g.buckets
group_by Modify g = None
group_by Delete g = None

-- the buckets of an ADD of a group
abbrev pub group_added : Message → Option Buckets
group_added (Flow f) = None
group_added (Group g) = group_by g.command g
group_added (Barrier xid) = None

-- the groups that the messages add, in order; they are numbered from 1 in this order
abbrev pub groups_added : List Message → List Buckets
groups_added ms = filter_map group_added ms
