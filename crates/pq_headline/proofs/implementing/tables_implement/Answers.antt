use Rattle.pq_headline.proofs.Implemented.{implemented}
use Rattle.pq_headline.proofs.implementing.tables_implement.Goals as goal

pub returns : goal.returns
returns g c = λ T m tagging writes names i laid emission send. implemented T m g.L.Held.languages tagging writes names i laid emission send
