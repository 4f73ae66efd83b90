use Rattle.pq_fields.specs.Pred.{FitsField}
use Rattle.pq_pred.specs.Named.{MayStand}
use Rattle.pq_compile.proofs.Fits.{reads_fitting, reads_standing}
use Rattle.pq_compile.proofs.LawfulQueries.{query_over}
use Rattle.pq_compile.proofs.lawful.queries_that_are_read_are_lawful.Goals as goal

pub returns-clause-lawful : goal.returns-clause-lawful
returns-clause-lawful c = λ T network. query_over T FitsField (reads_fitting T network)

pub returns-clause-named : goal.returns-clause-named
returns-clause-named c = λ T. query_over T (MayStand T) (reads_standing T)
