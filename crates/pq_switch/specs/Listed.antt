-- Entries that no longer change.
use Rattle.std.specs.Prelude.{List}
use Rattle.pq_model.specs.SwitchMachine.{Entry}
use Rattle.pq_switch.specs.declared.listing.Listing.{Listing}
use Rattle.pq_switch.specs.declared.listing.Listing.TheVariants.{Shelved, Placed}

-- the entries in the order in which they were added
abbrev pub listed : Listing → List Entry
listed (Shelved entries) = entries
listed (Placed entries) = entries
