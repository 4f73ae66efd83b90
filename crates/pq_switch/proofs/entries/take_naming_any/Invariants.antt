use Rattle.std.proofs.Common.{◌≡◌, filter}
use Rattle.pq_model.specs.declared.reserved.TheConstants.{ALL_GROUPS}
use Rattle.pq_switch.specs.Namings.{AreIndexed}
use Rattle.pq_switch.proofs.Noted.{free, left}
use Rattle.pq_switch.proofs.entries.take_naming_any.Given as goal

-- the entries that name none of the groups left are those that stay
abbrev pub invariant-loop-group : goal.invariant-loop-group
invariant-loop-group l = record {
  indexed : AreIndexed l.index.keys l.slots.entries;
  rows : filter (free l.group-iterator) l.slots.entries ≡ filter (λ r. left l.groups ALL_GROUPS r.1.entry) l.initial.slots.entries;
}
