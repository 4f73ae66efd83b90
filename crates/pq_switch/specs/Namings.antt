-- Which entries name which groups.
use Rattle.std.specs.Prelude.{◌≡◌, ◌==◌, ℕ, Bool, true, false, List}
use Rattle.std.specs.BTreeMap.{is_at}
use Rattle.std.specs.List.{AllByRecursion, list_any}
use Rattle.std.specs.List.Sorted.{IsStrictlySortedBy}
use Rattle.std.specs.Map.{keys_of}
use Rattle.std.specs.Ordering.{eq_by_cmp, nat_cmp}
use Rattle.std.specs.Set.{is_member}
use Rattle.std.specs.declared.cmp.Ordering.{Ordering}
use Rattle.std.specs.declared.option.Option.{Option}
use Rattle.std.specs.declared.option.Option.TheVariants.{None, Some}
use Rattle.pq_model.specs.SwitchMachine.{groups_named}
use Rattle.pq_model.specs.declared.action.Action.{Action}
use Rattle.pq_switch.specs.Places.{place_cmp}
use Rattle.pq_switch.specs.declared.entry.Slot.{Slot}
use Rattle.pq_switch.specs.declared.naming.Naming.{Naming}
use Rattle.pq_switch.specs.declared.place.Place.{Place}
use Rattle.pq_switch.specs.contracts.naming.NamingOrd.TheImpl as order

-- how two namings compare
abbrev pub naming_cmp : Naming → Naming → Ordering
naming_cmp = (order.ghosts).cmp

abbrev pub naming : ℕ → Place → Naming
naming group place = record { group = group; place = place }

-- whether it is noted that an entry at the place names the group
abbrev pub is_noted : List Naming → ℕ → Place → Bool
is_noted index group place = list_any (is_at (naming_cmp (naming group place))) index

-- each group that the actions name is noted with the place
abbrev pub AreNoted : List Naming → Place → List Action → Type 0
AreNoted index place actions = AllByRecursion (λ group. is_noted index group place ≡ true) (groups_named actions)

-- what is noted stays so
abbrev pub Grows : List Naming → List Naming → Type 0
Grows old new = (group : ℕ) (place : Place) → is_noted old group place ≡ true → is_noted new group place ≡ true

-- entries in the order of their places, and what they name is noted
pub record AreIndexed (index : List Naming) (es : List (Place × Slot)) : Type 0 where
  pub ordered : IsStrictlySortedBy place_cmp (keys_of es)
  pub noted : AllByRecursion (λ r. AreNoted index r.0 r.1.entry.actions) es

-- whether the actions name the group
abbrev pub names : ℕ → List Action → Bool
names group actions = list_any (λ g. g == group) (groups_named actions)

-- whether the entry, if there is one, names the group
abbrev pub is_naming : ℕ → Option Slot → Bool
is_naming group None = false
is_naming group (Some s) = names group s.entry.actions

-- whether the actions name one of the groups
abbrev pub names_any : List ℕ → List Action → Bool
names_any groups actions = list_any (is_member (eq_by_cmp nat_cmp) groups) (groups_named actions)
