use Rattle.std.proofs.Common.{◌≡◌, ◌++◌, drop, map}
use Rattle.pq_delta.specs.Delta.{AreShort, deltas}
use Rattle.pq_delta.proofs.install.deltas.Given as goal

-- the switches so far, and those that are left
abbrev pub invariant-loop-index : goal.invariant-loop-index
invariant-loop-index l =
    (map (λ p. (p.0, p.1.items)) l.changed.items ++ deltas (drop l.index l.switches) (drop l.index (map (λ ms. ms.items) l.olds))
    (drop l.index (map (λ ms. ms.items) l.news))
    ≡ deltas l.switches (map (λ ms. ms.items) l.olds) (map (λ ms. ms.items) l.news))
    × AreShort (map (λ p. (p.0, p.1.items)) l.changed.items)
