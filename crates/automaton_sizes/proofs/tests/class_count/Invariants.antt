use Rattle.automaton_sizes.proofs.tests.class_count.Given as goal

abbrev pub ghosts-automaton_of : goal.ghosts-automaton_of
ghosts-automaton_of a = record { name = a.blank.name; parts = a.blank.parts }
