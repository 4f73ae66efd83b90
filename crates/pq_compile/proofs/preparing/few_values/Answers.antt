use Rattle.std.proofs.Common.{sym, ◌∙◌}
use Rattle.pq_compile.proofs.preparing.few_values.Goals as goal

pub returns-in-Ok-None-clause-few : goal.returns-in-Ok-None-clause-few
returns-in-Ok-None-clause-few c = sym c.in-Ok-None.ensures ∙ c.in-Ok-None.field-0-is

pub returns-in-Ok-Some-clause-cause : goal.returns-in-Ok-Some-clause-cause
returns-in-Ok-Some-clause-cause c = sym c.in-Ok-Some.ensures ∙ c.in-Ok-Some.field-0-is
