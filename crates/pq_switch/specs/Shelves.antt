-- Entries on shelves: an entry lies on the shelf of its table, and of the arriving port and the VLAN word that its match states.
use Rattle.std.specs.Prelude.{◌≡◌, ℕ, ◌+◌, ◌*◌, ◌%◌, ◌<◌, List, [], ◌∷◌, ◌++◌, length, get_or, slice_get}
use Rattle.std.specs.declared.option.Option.{Option}
use Rattle.std.specs.declared.option.Option.TheVariants.{None, Some}
use Rattle.pq_model.specs.SwitchMachine.{Entry}
use Rattle.pq_switch.specs.Added.{Climbs, in_turn}
use Rattle.pq_switch.specs.Choice.{IsIn}
use Rattle.pq_switch.specs.declared.entry.Slot.{Slot}

-- a number of its own for what is stated, and 0 for what isn't
abbrev pub stated_number : Option ℕ → ℕ
stated_number None = 0
stated_number (Some n) = n + 1

-- the shelf, of this many, of a table, an arriving port and a VLAN word
unfoldable pub shelf_of : ℕ → ℕ → Option ℕ → Option ℕ → ℕ
shelf_of count table port word = (table + 31 * stated_number port + 1009 * stated_number word) % count

abbrev pub shelf_for : ℕ → Entry → ℕ
shelf_for count e = shelf_of count e.table e.matching.in_port e.matching.vlan

abbrev pub found : Option Slot → List Slot
found None = []
found (Some s) = s ∷ []

-- the rows with these numbers
abbrev pub picked : List Slot → List ℕ → List Slot
picked rows [] = []
picked rows (i ∷ is) = found (slice_get rows i) ++ picked rows is

abbrev pub shelf_at : List (List ℕ) → ℕ → List ℕ
shelf_at shelves k = get_or shelves k []

-- each row of these is on its shelf
abbrev pub LieBelow : ℕ → List Slot → List (List ℕ) → Type 0
LieBelow count rows shelves = (i : ℕ) (s : Slot) → i < count → slice_get rows i ≡ Some s → IsIn i (shelf_at shelves (shelf_for (length shelves) s.entry))

-- each row is on its shelf
pub record AreShelved (rows : List Slot) (shelves : List (List ℕ)) : Type 0 where
  pub some : 0 < length shelves
  pub each : LieBelow (length rows) rows shelves

-- and the rows were added by numbers of their own
pub record AreRows (rows : List Slot) (shelves : List (List ℕ)) : Type 0 where
  pub shelved : AreShelved rows shelves
  pub climb : Climbs (in_turn rows)
