use Rattle.std.proofs.Common.{◌≡◌, ◌++◌, map, drop, length}
use Rattle.pq_classes.proofs.letters.alphabet.Given as goal

abbrev pub invariant-loop-letter : goal.invariant-loop-letter
invariant-loop-letter l = record {
  made : map (λ v. v.items) l.all.items ++ drop l.letter l.letters.signatures ≡ l.letters.signatures;
  signed : length l.letters.signatures ≡ length l.letters.least;
}
