use Rattle.std.proofs.Common.{◌≡◌, filter, length}
use Rattle.pq_switch.specs.Namings.{AreIndexed}
use Rattle.pq_switch.proofs.Noted.{other}
use Rattle.pq_switch.proofs.entries.take_naming.Given as goal

-- the entries that don't name the group are all there
abbrev pub invariant-places : goal.invariant-places
invariant-places l = record {
  indexed : AreIndexed l.index.keys l.slots.entries;
  rows : filter (other l.group) l.slots.entries ≡ filter (other l.group) l.initial.slots.entries;
}

-- how much the index has
abbrev pub decreases-places : goal.decreases-places
decreases-places l = length l.index.keys
