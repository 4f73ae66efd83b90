-- Messages that renew a switch's tables: what it held goes, and what they add stays.
use Rattle.std.specs.Prelude.{◌≡◌, ℕ, true, List, [], ◌∷◌, ◌++◌, map, nat_eq}
use Rattle.std.specs.List.{AllByRecursion, IsDistinct, list_all}
use Rattle.std.specs.FinMap.{contains_key, from_entries}
use Rattle.pq_model.specs.declared.flow_mod.FlowCommand.TheVariants.{Add as AddFlow, DeleteAll}
use Rattle.pq_model.specs.declared.group_mod.GroupCommand.TheVariants.{Add as AddGroup, Delete}
use Rattle.pq_model.specs.declared.message.Message.{Message}
use Rattle.pq_model.specs.declared.message.Message.TheVariants.{Flow, Group, Barrier}
use Rattle.pq_model.specs.Mods.{FlowValue, GroupValue}
use Rattle.pq_model.specs.SwitchMachine.{Groups, Tables, entry_of, groups_named}
use Rattle.pq_model.specs.declared.reserved.TheConstants.{ALL_GROUPS}
use Rattle.pq_model.specs.Orders.{HaveOwnPriorities}

-- two deletes, the groups and the entries that are added, and the xids of the barriers after these three
pub record Renewal : Type 0 where
  pub entries_away : FlowValue
  pub groups_away : GroupValue
  pub groups : List GroupValue
  pub entries : List FlowValue
  pub emptied : ℕ
  pub grouped : ℕ
  pub filled : ℕ

abbrev pub renewal_messages : Renewal → List Message
renewal_messages r = Flow r.entries_away ∷ Group r.groups_away ∷ Barrier r.emptied ∷
    (map Group r.groups ++ Barrier r.grouped ∷ (map Flow r.entries ++ Barrier r.filled ∷ []))

-- the groups with their buckets
abbrev pub added_groups : List GroupValue → Groups
added_groups gs = from_entries (map (λ g. (g.group, g.buckets)) gs)

-- the tables with what is added and nothing else
abbrev pub renewed : Renewal → Tables
renewed r = record { entries = map entry_of r.entries; groups = added_groups r.groups }

-- all is deleted; each group has a number of its own, each entry of a table a priority of its own, and the groups that entries name are added
pub record IsRenewing (r : Renewal) : Type 0 where
  pub entries_away : r.entries_away.command ≡ DeleteAll
  pub groups_away : (r.groups_away.command ≡ Delete) × (r.groups_away.group ≡ ALL_GROUPS)
  pub groups : AllByRecursion (λ g. g.command ≡ AddGroup) r.groups
  pub numbers : IsDistinct nat_eq (map (λ g. g.group) r.groups)
  pub entries : AllByRecursion (λ f. f.command ≡ AddFlow) r.entries
  pub named : AllByRecursion (λ f. list_all (contains_key (added_groups r.groups)) (groups_named f.actions) ≡ true) r.entries
  pub priorities : HaveOwnPriorities (map entry_of r.entries)
