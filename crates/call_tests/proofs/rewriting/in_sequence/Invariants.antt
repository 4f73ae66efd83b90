use Rattle.call_tests.proofs.rewriting.in_sequence.Given as goal

abbrev pub ghosts-counted_sequence : goal.ghosts-counted_sequence
ghosts-counted_sequence a = record { name = a.blank.name; parts = a.blank.parts }
