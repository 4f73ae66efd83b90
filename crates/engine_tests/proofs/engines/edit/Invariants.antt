use Rattle.engine_tests.proofs.engines.edit.Given as goal

abbrev pub ghosts-counted_edit-L-Ledger : goal.ghosts-counted_edit-L-Ledger
ghosts-counted_edit-L-Ledger a = record { name = a.unions.name; parts = a.unions.parts }

abbrev pub ghosts-counted_edit-M-Ledger : goal.ghosts-counted_edit-M-Ledger
ghosts-counted_edit-M-Ledger a = record { name = a.derivations.name; parts = a.derivations.parts }
