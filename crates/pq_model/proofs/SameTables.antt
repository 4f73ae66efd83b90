-- A message keeps tables the same that are the same.
use Rattle.std.proofs.Common.{◌≡◌, Bool, true, false, not, if◌then◌else◌, List, [], ◌∷◌, refl, sym, subst, ◌∙◌}
use Rattle.std.specs.List.{list_all, list_any}
use Rattle.std.specs.FinMap.{contains_key}
use Rattle.pq_model.specs.declared.flow_mod.FlowCommand.{FlowCommand}
use Rattle.pq_model.specs.declared.flow_mod.FlowCommand.TheVariants.{Add as AddFlow, DeleteAll, DeleteStrict}
use Rattle.pq_model.specs.declared.group_mod.GroupCommand.{GroupCommand}
use Rattle.pq_model.specs.declared.group_mod.GroupCommand.TheVariants.{Add as AddGroup, Modify, Delete}
use Rattle.pq_model.specs.declared.message.Message.{Message}
use Rattle.pq_model.specs.declared.message.Message.TheVariants.{Flow, Group as Grouping, Barrier}
use Rattle.pq_model.specs.Mods.{FlowValue, GroupValue}
use Rattle.pq_model.specs.SwitchMachine.{Entry, Groups, Tables, entry_of, is_placed, groups_named, is_removed, changes_entries}
use Rattle.pq_model.specs.SwitchMachine.{changes_groups, applies, applies_all}
use Rattle.pq_model.specs.Orders.{IsReordering, AreSame}
use Rattle.pq_model.proofs.Reorderings.{reordering-refl, reordering-sym, reordering-trans, reordering-more, reordering-filter}

pub same-refl : (t : Tables) → AreSame t t
same-refl t = record { entries = reordering-refl t.entries; groups = refl }

pub same-sym : (s t : Tables) → AreSame s t → AreSame t s
same-sym s t h = record { entries = reordering-sym s.entries t.entries h.entries; groups = sym h.groups }

pub same-trans : (s t u : Tables) → AreSame s t → AreSame t u → AreSame s u
same-trans s t u h k = record { entries = reordering-trans s.entries t.entries u.entries h.entries k.entries; groups = h.groups ∙ k.groups }

pub same-equal : (s t : Tables) → s ≡ t → AreSame s t
same-equal s t e = subst (AreSame s) e (same-refl s)

pub same_either : (b : Bool) (s t u v : Tables) → AreSame s u → AreSame t v → AreSame (if b then s else t) (if b then u else v)
same_either true s t u v h k = h
same_either false s t u v h k = k

module _ (xs ys : List Entry) (groups : Groups) (h : IsReordering xs ys) where
  flow_keeps : (c : FlowCommand) (f : FlowValue)
      → AreSame (changes_entries c f (record { entries = xs; groups = groups }))
      (changes_entries c f (record { entries = ys; groups = groups }))
  flow_keeps AddFlow f = same_either (list_all (contains_key groups) (groups_named f.actions)) _ _ _ _
      (record { entries = reordering-more _ _ (entry_of f ∷ []) (reordering-filter (λ e. not (is_placed f e)) xs ys h); groups = refl })
      (record { entries = h; groups = refl })
  flow_keeps DeleteAll f = record { entries = refl; groups = refl }
  flow_keeps DeleteStrict f = record { entries = reordering-filter (λ e. not (is_placed f e)) xs ys h; groups = refl }

  group_keeps : (c : GroupCommand) (g : GroupValue)
      → AreSame (changes_groups c g (record { entries = xs; groups = groups }))
      (changes_groups c g (record { entries = ys; groups = groups }))
  group_keeps AddGroup g = same_either (contains_key groups g.group) _ _ _ _ (record { entries = h; groups = refl }) (record { entries = h; groups = refl })
  group_keeps Modify g = same_either (contains_key groups g.group) _ _ _ _ (record { entries = h; groups = refl }) (record { entries = h; groups = refl })
  group_keeps Delete g = record {
    entries = reordering-filter (λ e. not (list_any (is_removed groups g.group) (groups_named e.actions))) xs ys h;
    groups = refl;
  }

  message_keeps : (m : Message) → AreSame (applies (record { entries = xs; groups = groups }) m) (applies (record { entries = ys; groups = groups }) m)
  message_keeps (Flow f) = flow_keeps f.command f
  message_keeps (Grouping g) = group_keeps g.command g
  message_keeps (Barrier xid) = record { entries = h; groups = refl }

pub same-applies : (s t : Tables) (m : Message) → AreSame s t → AreSame (applies s m) (applies t m)
same-applies s t m h = subst (λ groups. AreSame (applies s m) (applies (record { entries = t.entries; groups = groups }) m)) h.groups
    (message_keeps s.entries t.entries s.groups h.entries m)

pub same-applies_all : (s t : Tables) (ms : List Message) → AreSame s t → AreSame (applies_all s ms) (applies_all t ms)
same-applies_all s t [] h = h
same-applies_all s t (m ∷ ms) h = same-applies_all (applies s m) (applies t m) ms (same-applies s t m h)
