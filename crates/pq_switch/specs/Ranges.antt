-- The ranges of places in which a packet is looked up.
use Rattle.std.specs.Prelude.{ℕ, List}
use Rattle.std.specs.declared.ops.Bound.TheVariants.{Included, Excluded, Unbounded}
use Rattle.std.specs.BTreeMap.Range.{entries_between}
use Rattle.std.specs.Map.{values_of}
use Rattle.pq_switch.specs.Places.{place_at, place_cmp}
use Rattle.pq_switch.specs.declared.entry.Slot.{Slot}
use Rattle.pq_switch.specs.declared.pattern.Pattern.{Pattern}
use Rattle.pq_switch.specs.declared.place.Place.{Place}

-- the entries of a table whose matches state this pattern
abbrev pub range_of : ℕ → Pattern → List (Place × Slot) → List Slot
range_of table pattern es = values_of (entries_between place_cmp (Included (place_at table pattern 0)) (Excluded (place_at table pattern 0x10001)) es)

-- the entries from a place on
abbrev pub onward : Place → List (Place × Slot) → List (Place × Slot)
onward from es = entries_between place_cmp (Included from) Unbounded es
