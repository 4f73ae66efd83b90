use Rattle.std.proofs.Common.{ap}
use Rattle.pq_speaker.specs.Speaking.{Heard}
use Rattle.pq_speaker.proofs.Pieces.{heard-append}
use Rattle.pq_speaker.proofs.laws.pieces_are_heard_as_one.Goals as goal

pub returns : goal.returns
returns c s first second = (ap (λ (h : Heard). h.state) (heard-append s first second), ap (λ (h : Heard). h.replies) (heard-append s first second))
