use Rattle.pq_fields.specs.Pred.{FitsField}
use Rattle.pq_pred.specs.Named.{MayStand}
use Rattle.pq_compile.proofs.Fits.{reads_fitting, reads_standing}
use Rattle.pq_compile.proofs.LawfulPreds.{pred_over}
use Rattle.pq_compile.proofs.lawful.predicates_that_are_read_are_lawful.Goals as goal

pub returns-clause-lawful : goal.returns-clause-lawful
returns-clause-lawful c = λ T network. pred_over T FitsField (reads_fitting T network)

pub returns-clause-named : goal.returns-clause-named
returns-clause-named c = λ T. pred_over T (MayStand T) (reads_standing T)
