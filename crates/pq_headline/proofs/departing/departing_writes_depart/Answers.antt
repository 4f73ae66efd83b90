use Rattle.pq_headline.proofs.LeavingPackets.{departing_writes}
use Rattle.pq_headline.proofs.departing.departing_writes_depart.Goals as goal

pub returns : goal.returns
returns g c = λ T m writes at_ports given. departing_writes g.Y.Yielded.yields T m writes at_ports given
