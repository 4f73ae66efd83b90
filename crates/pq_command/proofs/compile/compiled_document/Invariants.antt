use Rattle.pq_command.proofs.compile.compiled_document.Given as goal

abbrev pub ghosts-compiled : goal.ghosts-compiled
ghosts-compiled a = record { name = a.blank.name; parts = a.blank.parts }
