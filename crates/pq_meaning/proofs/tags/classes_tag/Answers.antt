use Rattle.pq_query.specs.Languages.{IsHeld}
use Rattle.pq_meaning.proofs.ClassTags.{classes_tag}
use Rattle.pq_meaning.proofs.tags.classes_tag.Goals as goal

pub returns : goal.returns
returns c = λ qs is a m classes. classes_tag a m (IsHeld qs is) classes
