-- What changes from one switch's tables to others, and the messages that change it.
use Rattle.std.specs.Prelude.{ℕ, zero, suc, ◌+◌, ◌-◌, List, [], ◌∷◌, ◌++◌, length, map, if◌then◌else◌}
use Rattle.std.specs.declared.option.Option.TheVariants.{None}
use Rattle.pq_model.specs.declared.flow_mod.FlowCommand.TheVariants.{Add as AddFlow, DeleteStrict}
use Rattle.pq_model.specs.declared.group_mod.GroupCommand.{GroupCommand}
use Rattle.pq_model.specs.declared.group_mod.GroupCommand.TheVariants.{Add as AddGroup, Modify, Delete}
use Rattle.pq_model.specs.declared.message.Message.{Message}
use Rattle.pq_model.specs.declared.message.Message.TheVariants.{Flow, Group, Barrier}
use Rattle.pq_model.specs.Mods.{FlowValue, GroupValue}
use Rattle.pq_model.specs.SwitchMachine.{Entry}
use Rattle.pq_delta.specs.Added.{Buckets, entries_added, groups_added}
use Rattle.pq_delta.specs.Equal.{others, same_buckets}

-- a group that gets these buckets: by ADD where its number is new, by MODIFY where it has others
pub record Put : Type 0 where
  pub command : GroupCommand
  pub number : ℕ
  pub buckets : Buckets

-- the groups that get buckets, numbered from here on: those with new numbers, and those whose buckets differ
abbrev pub puts_from : ℕ → List Buckets → List Buckets → List Put
puts_from number olds [] = []
puts_from number [] (b ∷ bs) = record { command = AddGroup; number = number; buckets = b } ∷ puts_from (suc number) [] bs
puts_from number (o ∷ os) (b ∷ bs) = if same_buckets o b then puts_from (suc number) os bs else record {
  command = Modify;
  number =
      number;
  buckets = b;
} ∷ puts_from (suc number) os bs

pub record Changes : Type 0 where
  -- the old entries that aren't among the new ones, in old order
  pub removed : List Entry
  -- how many groups stay, and how many of higher numbers go
  pub kept : ℕ
  pub gone : ℕ
  -- the groups that get buckets, ascending
  pub puts : List Put
  -- the new entries that aren't among the old ones, in new order
  pub added : List Entry

-- what changes from the tables that old messages leave to those that new ones leave
abbrev pub changes : List Message → List Message → Changes
changes old new = record {
  removed = others (entries_added new) (entries_added old);
  kept = length (groups_added new);
  gone = length (groups_added old) - length (groups_added new);
  puts = puts_from 1 (groups_added old) (groups_added new);
  added = others (entries_added old) (entries_added new);
}

-- how much changes
abbrev pub amount : Changes → ℕ
amount c = length c.removed + c.gone + length c.puts + length c.added

-- Messages, with transaction ids from a number on.

abbrev pub delete_of : ℕ → Entry → FlowValue
delete_of xid e = record {
  xid = xid;
  cookie = 0;
  table = e.table;
  command = DeleteStrict;
  priority = e.priority;
  matching = e.matching;
  actions = [];
  goto = None;
}

abbrev pub deletes_from : ℕ → List Entry → List FlowValue
deletes_from xid [] = []
deletes_from xid (e ∷ es) = delete_of xid e ∷ deletes_from (suc xid) es

abbrev pub add_of : ℕ → Entry → FlowValue
add_of xid e = record {
  xid = xid;
  cookie = e.cookie;
  table = e.table;
  command = AddFlow;
  priority = e.priority;
  matching = e.matching;
  actions = e.actions;
  goto = e.goto;
}

abbrev pub adds_from : ℕ → List Entry → List FlowValue
adds_from xid [] = []
adds_from xid (e ∷ es) = add_of xid e ∷ adds_from (suc xid) es

abbrev pub group_delete_of : ℕ → ℕ → GroupValue
group_delete_of xid number = record { xid = xid; command = Delete; group = number; buckets = [] }

-- the DELETEs of this many groups, numbered from here on
abbrev pub group_deletes_from : (xid number : ℕ) → ℕ → List GroupValue
group_deletes_from xid number zero = []
group_deletes_from xid number (suc more) = group_delete_of xid number ∷ group_deletes_from (suc xid) (suc number) more

abbrev pub group_mod_of : ℕ → Put → GroupValue
group_mod_of xid p = record { xid = xid; command = p.command; group = p.number; buckets = p.buckets }

abbrev pub group_mods_from : ℕ → List Put → List GroupValue
group_mods_from xid [] = []
group_mods_from xid (p ∷ ps) = group_mod_of xid p ∷ group_mods_from (suc xid) ps

-- entries and groups go; after a barrier groups come or change; after another entries come; then a barrier
abbrev pub change_messages : Changes → List Message
change_messages c =
    let away = suc (length c.removed) in
    let parted = away + c.gone in
    let grouped = suc parted + length c.puts in
    let filled = suc grouped + length c.added in
    (map Flow (deletes_from 1 c.removed) ++ map Group (group_deletes_from away (suc c.kept) c.gone))
    ++ Barrier parted ∷ (map Group (group_mods_from (suc parted) c.puts)
    ++ Barrier grouped ∷ (map Flow (adds_from (suc grouped) c.added)
    ++ Barrier filled ∷ []))
