use Rattle.std.proofs.Common.{◌<◌, length, map}
use Rattle.pq_switch.specs.Shelves.{LieBelow}
use Rattle.pq_switch.proofs.shelves.shelves_of.Given as goal

-- the rows so far are on their shelves
abbrev pub invariant-loop-row : goal.invariant-loop-row
invariant-loop-row l = record {
  some : 0 < length l.shelves.items;
  lie : LieBelow l.row l.rows (map (λ v. v.items) l.shelves.items);
}
