use Rattle.std.proofs.Common.{◌≡◌, ◌+◌, map, drop}
use Rattle.pq_engine.specs.Places.{place_in}
use Rattle.pq_engine.proofs.named.place_of.Given as goal

abbrev pub invariant-loop-place : goal.invariant-loop-place
invariant-loop-place g l = place_in l.fn.name (map (λ n. n.0) l.fn.named) ≡ l.place + place_in l.fn.name (map (λ n. n.0) (drop l.place l.fn.named))
