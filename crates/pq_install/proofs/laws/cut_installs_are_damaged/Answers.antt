use Rattle.pq_install.proofs.CutUnits.{new_units, old_units, new_damaged, old_damaged}
use Rattle.pq_install.proofs.laws.cut_installs_are_damaged.Goals as goal

pub returns-clause-units : goal.returns-clause-units
returns-clause-units c i = (new_units i, old_units i)

pub returns-clause-new : goal.returns-clause-new
returns-clause-new c i n lawful below = new_damaged i n lawful below

pub returns-clause-old : goal.returns-clause-old
returns-clause-old c i n lawful old below = old_damaged i n lawful old below
