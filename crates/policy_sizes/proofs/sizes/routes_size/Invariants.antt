use Rattle.policy_sizes.proofs.sizes.routes_size.Given as goal

abbrev pub ghosts-size_of : goal.ghosts-size_of
ghosts-size_of a = record { name = a.blank.name; parts = a.blank.parts }
