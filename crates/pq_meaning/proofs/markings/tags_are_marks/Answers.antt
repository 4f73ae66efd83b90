use Rattle.pq_query.specs.Languages.{IsHeld}
use Rattle.pq_meaning.proofs.Fewest.{tags_mark}
use Rattle.pq_meaning.proofs.markings.tags_are_marks.Goals as goal

pub returns : goal.returns
returns c = λ qs is g tagging. (tags_mark (IsHeld qs is) g tagging, λ w path. (tagging.tagged w path).within)
