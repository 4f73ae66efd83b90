use Rattle.pq_term.proofs.Within.{within_rest}
use Rattle.pq_term.proofs.Formed.{formed_rest}
use Rattle.pq_term.proofs.scan.token_at.Goals as goal

-- the rest of the text ends where the text does
pub returns-clause-within : goal.returns-clause-within
returns-clause-within c = let skipped = c.skip_blanks-place.ensures in within_rest _ _ _ _ skipped.after skipped.within c.first_token.ensures

-- the rest of the text begins with the token's bytes
pub returns-clause-form : goal.returns-clause-form
returns-clause-form c = formed_rest _ _ _ c.first_token.ensures
