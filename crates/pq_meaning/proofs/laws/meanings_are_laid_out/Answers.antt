use Rattle.pq_meaning.proofs.Meant.{laid_out}
use Rattle.pq_meaning.proofs.laws.meanings_are_laid_out.Goals as goal

pub returns : goal.returns
returns c = λ T ps qs m g writes lawful meaning laid. laid_out T ps qs m meaning lawful g writes laid
