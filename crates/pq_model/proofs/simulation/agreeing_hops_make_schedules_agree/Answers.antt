use Rattle.pq_model.proofs.Schedules.{agreement}
use Rattle.pq_model.proofs.simulation.agreeing_hops_make_schedules_agree.Goals as goal

pub returns : goal.returns
returns g c = λ m report send simulates events fits. agreement m report send g.C.Correspondence.matches simulates events fits
