use Rattle.std.proofs.Common.{length}
use Rattle.pq_join.proofs.overwriting.+with_headers.Given as goal

abbrev pub decreases-with_headers : goal.decreases-with_headers
decreases-with_headers g l = length l.fields.now
