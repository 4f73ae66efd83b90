use Rattle.engine_tests.proofs.emission.compiled_bytes.Given as goal

abbrev pub ghosts-compiled : goal.ghosts-compiled
ghosts-compiled a = record { name = a.blank.name; parts = a.blank.parts }
