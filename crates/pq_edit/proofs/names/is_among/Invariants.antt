use Rattle.std.proofs.Common.{◌≡◌, map, drop}
use Rattle.pq_edit.specs.Reading.{is_among}
use Rattle.pq_edit.proofs.names.is_among.Given as goal

-- those that are left tell it
abbrev pub invariant-loop-entry : goal.invariant-loop-entry
invariant-loop-entry g l = is_among l.name (map (λ n. n.0) (drop l.entry-index l.named)) ≡ is_among l.name (map (λ n. n.0) l.named)
