use Rattle.std.proofs.Common.{◌≡◌, ◌++◌, drop, map}
use Rattle.pq_net.proofs.collecting.add_entries.Given as goal

-- the entries so far, with those of the instances left, are those of all
abbrev pub invariant-loop-pair : goal.invariant-loop-pair
invariant-loop-pair l = l.entries.items ++ map (λ i. record { pair = i; packet = l.packet }) (drop l.pair-index l.pairs)
    ≡ l.initial.entries.items ++ map (λ i. record { pair = i; packet = l.packet }) l.pairs
