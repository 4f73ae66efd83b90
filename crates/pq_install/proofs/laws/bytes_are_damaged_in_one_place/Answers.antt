use Rattle.pq_install.proofs.CutUnits.{new_damaged, old_damaged}
use Rattle.pq_install.proofs.OneDamage.{one_damage}
use Rattle.pq_install.proofs.laws.bytes_are_damaged_in_one_place.Goals as goal

pub returns-clause-one : goal.returns-clause-one
returns-clause-one c bytes at other here there = one_damage bytes at other here there

pub returns-clause-cut_new : goal.returns-clause-cut_new
returns-clause-cut_new c i n at lawful below damaged = one_damage _ at _ damaged (new_damaged i n lawful below)

pub returns-clause-cut_old : goal.returns-clause-cut_old
returns-clause-cut_old c i n at lawful old below damaged = one_damage _ at _ damaged (old_damaged i n lawful old below)
