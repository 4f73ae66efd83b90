-- Entries under their places, with the numbers by which they were added.
use Rattle.std.specs.Prelude.{◌≡◌, ℕ, ◌<◌, List, [], ◌∷◌, map}
use Rattle.std.specs.declared.cmp.Ordering.TheVariants.{Equal}
use Rattle.std.specs.List.{AllByRecursion}
use Rattle.std.specs.Map.{values_of}
use Rattle.pq_model.specs.Sorting.{sort_by}
use Rattle.pq_model.specs.SwitchMachine.{Entry}
use Rattle.pq_switch.specs.Places.{place_cmp, place_of}
use Rattle.pq_switch.specs.declared.entry.Slot.{Slot}
use Rattle.pq_switch.specs.declared.place.Place.{Place}

-- an entry's number, as a key
abbrev pub turn : Slot → List ℕ
turn s = s.sequence ∷ []

-- in the order in which they were added
abbrev pub in_turn : List Slot → List Slot
in_turn slots = sort_by turn slots

abbrev pub entries_of : List Slot → List Entry
entries_of slots = map (λ s. s.entry) slots

-- each number is below those after it
abbrev pub Climbs : List Slot → Type 0
Climbs [] = Unit {0}
Climbs (s ∷ slots) = AllByRecursion (λ t. s.sequence < t.sequence) slots × Climbs slots

-- the place of an entry
abbrev pub place_in : Entry → Place
place_in e = place_of e.table e.matching e.priority

-- an entry under its place, added before the next number
pub record IsKept (next : ℕ) (r : Place × Slot) : Type 0 where
  pub place : place_cmp (place_in r.1.entry) r.0 ≡ Equal
  pub priority : r.1.entry.priority < 0x10000
  pub early : r.1.sequence < next

-- entries under their places, each added by a number of its own
pub record AreKept (next : ℕ) (es : List (Place × Slot)) : Type 0 where
  pub each : AllByRecursion (IsKept next) es
  pub climb : Climbs (in_turn (values_of es))
