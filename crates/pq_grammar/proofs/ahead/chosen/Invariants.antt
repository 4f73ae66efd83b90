use Rattle.std.proofs.Common.{◌≡◌, drop, map}
use Rattle.std.specs.List.{find}
use Rattle.pq_grammar.specs.Ahead.{ahead, is_open, chosen}
use Rattle.pq_grammar.proofs.ahead.chosen.Given as goal

-- the rest of the alternatives tells what all of them do
abbrev pub invariant-loop-alternative : goal.invariant-loop-alternative
invariant-loop-alternative l = find (is_open l.sort (ahead l.next)) (map (λ a. a.now) (drop l.alternative-index l.alternative-items))
    ≡ chosen l.sort (ahead l.next)
