use Rattle.pq_model.proofs.Schedules.{agreement}
use Rattle.pq_layout.specs.Emission.{report_of}
use Rattle.pq_headline.specs.LaidOut.{Matches}
use Rattle.pq_headline.proofs.Simulated.{simulated}
use Rattle.pq_headline.proofs.simulating.laid_out_tables_agree.Goals as goal

pub returns : goal.returns
returns g c = λ T m tagging writes send laid sends events fits.
    agreement m (report_of tagging m.instances) send (Matches T tagging) (simulated T m g.L.Held.languages tagging writes send laid sends) events fits
