use Rattle.pq_headline.proofs.Simulated.{simulated}
use Rattle.pq_headline.proofs.simulating.laid_out_tables_simulate.Goals as goal

pub returns : goal.returns
returns g c = λ T m tagging writes send laid sends. simulated T m g.L.Held.languages tagging writes send laid sends
