use Rattle.call_tests.proofs.rewriting.either.Given as goal

abbrev pub ghosts-counted_union : goal.ghosts-counted_union
ghosts-counted_union a = record { name = a.blank.name; parts = a.blank.parts }
