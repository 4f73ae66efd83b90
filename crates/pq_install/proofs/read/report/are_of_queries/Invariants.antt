use Rattle.std.proofs.Common.{◌≡◌, drop}
use Rattle.std.specs.Prelude.{nat_lt}
use Rattle.std.specs.List.{list_all}
use Rattle.pq_install.proofs.read.report.are_of_queries.Given as goal

-- the instances that are left tell the answer
abbrev pub invariant-loop-pair : goal.invariant-loop-pair
invariant-loop-pair l = list_all (λ i. nat_lt i.query l.queries) (drop l.pair-index l.pairs) ≡ list_all (λ i. nat_lt i.query l.queries) l.pairs
