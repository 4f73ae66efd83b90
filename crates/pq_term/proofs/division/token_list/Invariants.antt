use Rattle.std.proofs.Common.{◌-◌, length}
use Rattle.pq_term.proofs.Ends.{IsDividedBefore}
use Rattle.pq_term.proofs.division.token_list.Given as goal

-- the text so far is these tokens
abbrev pub invariant-loop-token : goal.invariant-loop-token
invariant-loop-token l = IsDividedBefore l.bytes l.at l.tokens.items

-- each turn takes a byte
abbrev pub decreases-loop-token : goal.decreases-loop-token
decreases-loop-token l = length l.bytes - l.at
