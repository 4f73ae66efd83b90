use Rattle.std.proofs.Common.{◌≡◌}
use Rattle.automaton_sizes.specs.Places.{at_first_places}
use Rattle.automaton_sizes.proofs.letters.at_places.Given as goal

-- the packets so far are those at the first places
abbrev pub invariant-loop-number : goal.invariant-loop-number
invariant-loop-number l = l.packets.items ≡ at_first_places l.ports l.number
