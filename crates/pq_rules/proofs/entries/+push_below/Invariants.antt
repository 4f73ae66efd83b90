use Rattle.std.proofs.Common.{◌≡◌, ◌<◌, ◌≤◌, Some, length}
use Rattle.std.specs.Prelude.{slice_get}
use Rattle.pq_store.specs.Tree.{Tree}
use Rattle.pq_rules.specs.Paths.{StaysLawful}
use Rattle.pq_rules.proofs.FoundLemmas.{CompletesBelow}
use Rattle.pq_rules.proofs.entries.+push_below.Given as goal

abbrev pub decreases-push_below : goal.decreases-push_below
decreases-push_below g l = l.node

abbrev pub decreases-loop-found : goal.decreases-loop-found
decreases-loop-found g l = l.at

abbrev pub invariant-loop-found : goal.invariant-loop-found
invariant-loop-found g l =
    (l.at ≤ l.initial.at) × (l.at < length l.store) × ((t : Tree _) → slice_get l.store l.at ≡ Some t → StaysLawful l.below t)
    × CompletesBelow l.store l.initial.at l.at l.initial.below l.below l.initial.found.items l.found.items
