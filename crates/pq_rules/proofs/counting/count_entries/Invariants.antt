use Rattle.std.proofs.Common.{◌≡◌, ◌==◌, ◌+◌, drop, length}
use Rattle.pq_apply.specs.Memo.{Remembers}
use Rattle.pq_rules.specs.Counts.{CountsAt, capped}
use Rattle.pq_rules.specs.Found.{matches_of, trees_with}
use Rattle.pq_rules.proofs.counting.count_entries.Given as goal

abbrev pub invariant-loop-root : goal.invariant-loop-root
invariant-loop-root g l =
    (capped (l.count + length (matches_of (trees_with l.store (drop l.root-index l.roots)))) ≡ capped (length (matches_of (trees_with l.store l.roots))))
    × Remembers (λ x y. x == y) (CountsAt l.store) l.counts
    × (l.count ≡ capped l.count)
