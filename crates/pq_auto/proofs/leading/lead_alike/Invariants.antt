use Rattle.std.proofs.Common.{◌≡◌, drop, map, nat_eq}
use Rattle.std.specs.Cmp.Lexicographic.{pointwise}
use Rattle.pq_auto.specs.Leading.{leader_in}
use Rattle.pq_auto.proofs.leading.lead_alike.Given as goal

abbrev pub invariant-loop-letter : goal.invariant-loop-letter
invariant-loop-letter l =
    pointwise nat_eq (map (leader_in l.classes) (drop l.letter l.row)) (map (leader_in l.classes) (drop l.letter l.other))
    ≡ pointwise nat_eq (map (leader_in l.classes) l.row) (map (leader_in l.classes) l.other)
