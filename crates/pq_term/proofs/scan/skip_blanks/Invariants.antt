use Rattle.std.proofs.Common.{◌≡◌, drop, false}
use Rattle.pq_term.specs.Tokens.{after_blanks}
use Rattle.pq_term.proofs.scan.skip_blanks.Given as goal

-- what was seen are blanks and comments
abbrev pub invariant-loop-place : goal.invariant-loop-place
invariant-loop-place l = after_blanks l.inside (drop l.place l.bytes) ≡ after_blanks false (drop l.at l.bytes)
