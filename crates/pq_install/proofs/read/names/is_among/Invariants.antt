use Rattle.std.proofs.Common.{◌≡◌, drop}
use Rattle.std.specs.Prelude.{bytes_eq}
use Rattle.std.specs.List.{list_any}
use Rattle.pq_install.proofs.read.names.is_among.Given as goal

-- the names that are left tell the answer
abbrev pub invariant-loop-other : goal.invariant-loop-other
invariant-loop-other l = list_any (λ other. bytes_eq other l.name) (drop l.other-index l.names) ≡ list_any (λ other. bytes_eq other l.name) l.names
