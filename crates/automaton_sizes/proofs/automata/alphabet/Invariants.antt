use Rattle.std.proofs.Common.{◌≡◌, length}
use Rattle.automaton_sizes.proofs.automata.alphabet.Given as goal

-- there is a letter for each packet so far
abbrev pub invariant-loop-packet : goal.invariant-loop-packet
invariant-loop-packet l = length l.letters.items ≡ l.packet-index
