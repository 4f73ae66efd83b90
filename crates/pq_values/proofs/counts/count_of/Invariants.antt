use Rattle.std.proofs.Common.{◌≡◌, ◌+◌, ◌≤◌, drop}
use Rattle.pq_values.specs.Known.{known_count}
use Rattle.pq_values.proofs.counts.count_of.Given as goal

-- what is counted and what is left make the whole
abbrev pub invariant-loop-stated : goal.invariant-loop-stated
invariant-loop-stated l = record {
  few : l.count ≤ l.stated-index;
  whole : l.count + known_count (drop l.stated-index l.known) l.field ≡ known_count l.known l.field;
}
