use Rattle.std.proofs.Common.{◌≡◌, ◌==◌, [], drop}
use Rattle.pq_apply.specs.Memo.{Remembers}
use Rattle.pq_rules.specs.Grouping.{IsNoted, resolved, with_groups}
use Rattle.pq_rules.proofs.GroupingLemmas.{PlacesComplete}
use Rattle.pq_rules.proofs.grouping.grouped.Given as goal

abbrev pub invariant-loop-entry : goal.invariant-loop-entry
invariant-loop-entry l =
    (with_groups l.groups.keys (resolved [] l.store (drop l.entry-index l.entries)) ≡ with_groups [] (resolved [] l.store l.entries))
    × PlacesComplete l.groups.keys (resolved [] l.store l.entries) (resolved [] l.store (drop l.entry-index l.entries)) l.places.items
    × Remembers (λ x y. x == y) (IsNoted l.groups.keys l.store) l.known
