-- What the paths of a tree ask of the matches on them.
use Rattle.pq_model.specs.MatchFields.{MatchFields, IsLawfulMatch}
use Rattle.pq_store.specs.Test.{IsLawful}
use Rattle.pq_store.specs.Tree.{Tree}
use Rattle.pq_store.specs.Tree.Tree.{Tip, Fork}
use Rattle.pq_layout.specs.Entries.{failing, passing}

-- with each test of a path the match stays lawful
abbrev pub StaysLawful : {L : Type 0} → MatchFields → Tree L → Type 0
StaysLawful m (Tip l) = Unit {0}
StaysLawful m (Fork t y n) = IsLawful t × IsLawfulMatch (passing t m) × IsLawfulMatch (failing t m) × StaysLawful (passing t m) y × StaysLawful (failing t m) n
