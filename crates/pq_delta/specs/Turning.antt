-- What a delta does to tables.
use Rattle.std.specs.Prelude.{◌≡◌, ◌≤◌, ℕ, zero, suc, true, false, List, [], ◌∷◌, length, map}
use Rattle.std.specs.List.{AllByRecursion, list_all, list_any}
use Rattle.std.specs.FinMap.{contains_key}
use Rattle.pq_model.specs.declared.flow_mod.FlowCommand.{FlowCommand}
use Rattle.pq_model.specs.declared.flow_mod.FlowCommand.TheVariants.{Add as AddFlow, DeleteAll, DeleteStrict}
use Rattle.pq_model.specs.declared.group_mod.GroupCommand.{GroupCommand}
use Rattle.pq_model.specs.declared.group_mod.GroupCommand.TheVariants.{Add as AddGroup, Modify, Delete}
use Rattle.pq_model.specs.declared.message.Message.{Message}
use Rattle.pq_model.specs.declared.message.Message.TheVariants.{Flow, Group, Barrier}
use Rattle.pq_model.specs.Mods.{FlowValue, GroupValue}
use Rattle.pq_model.specs.Renewal.{IsRenewing, Renewal}
use Rattle.pq_model.specs.SwitchMachine.{Tables, applies, groups_named, is_placed, is_removed}
use Rattle.pq_delta.specs.Added.{groups_added}
use Rattle.pq_model.specs.declared.reserved.TheConstants.{LAST_PORT}

-- this many numbers from one on
abbrev pub numbers_from : ℕ → ℕ → List ℕ
numbers_from n zero = []
numbers_from n (suc more) = n ∷ numbers_from (suc n) more

-- a renewal whose groups are numbered from 1 in order, as numbers of groups go
pub record IsNumberedRenewal (r : Renewal) : Type 0 where
  pub renewing : IsRenewing r
  pub numbers : map (λ g. g.group) r.groups ≡ numbers_from 1 (length r.groups)
  pub few : length r.groups ≤ LAST_PORT

-- an Add finds its place free and its groups there; a DeleteStrict finds an entry
abbrev pub FitsFlow : FlowCommand → FlowValue → Tables → Type 0
FitsFlow AddFlow f t = (list_any (is_placed f) t.entries ≡ false) × (list_all (contains_key t.groups) (groups_named f.actions) ≡ true)
FitsFlow DeleteAll f t = ⊥
FitsFlow DeleteStrict f t = list_any (is_placed f) t.entries ≡ true

-- an ADD finds its number free; MODIFY and DELETE find a group, and DELETE finds no entry that names it
abbrev pub FitsGroup : GroupCommand → GroupValue → Tables → Type 0
FitsGroup AddGroup g t = contains_key t.groups g.group ≡ false
FitsGroup Modify g t = contains_key t.groups g.group ≡ true
FitsGroup Delete g t = (contains_key t.groups g.group ≡ true)
    × AllByRecursion (λ e. list_any (is_removed t.groups g.group) (groups_named e.actions) ≡ false) t.entries

-- the message does what it says and nothing else
abbrev pub Fits : Tables → Message → Type 0
Fits t (Flow f) = FitsFlow f.command f t
Fits t (Group g) = FitsGroup g.command g t
Fits t (Barrier xid) = Unit {0}

-- each of the messages in this order does so
abbrev pub AllFit : Tables → List Message → Type 0
AllFit t [] = Unit {0}
AllFit t (m ∷ ms) = Fits t m × AllFit (applies t m) ms

-- no more groups than there are numbers of groups
abbrev pub HasFewGroups : List Message → Type 0
HasFewGroups ms = length (groups_added ms) ≤ LAST_PORT
