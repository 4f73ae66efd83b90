-- The trees of the second table.
use Rattle.std.specs.Prelude.{ℕ, suc, ◌≡◌, ◌-◌, not, List, [], ◌∷◌, ◌++◌, length, if◌then◌else◌}
use Rattle.std.specs.declared.option.Option.TheVariants.{None, Some}
use Rattle.std.specs.List.{AllZip, filter, flat_map}
use Rattle.pq_fields.specs.Writes.{Written}
use Rattle.pq_auto.specs.Machine.{Machine, is_even_at}
use Rattle.pq_layout.specs.Tagging.{up_to}
use Rattle.pq_rewrite.specs.declared.outgoing.OutKind.TheVariants.{Send, CaptureOut}
use Rattle.pq_rewrite.specs.declared.outgoing.Outgoing.{Outgoing}
use Rattle.pq_store.specs.Tree.{Tree}
use Rattle.pq_join.specs.declared.departure.Departure.{Departure}
use Rattle.pq_join.specs.declared.ports.PortKind.{PortKind}
use Rattle.pq_join.specs.declared.ports.PortKind.TheVariants.{Missing, Edge, Linked}
use Rattle.pq_join.specs.Arriving.{MakesAt}
use Rattle.pq_join.specs.Tags.{captures_at, next_class}

-- the copy that leaves at such a port: with the tag over a link, without one at the edge, and none of a packet that is dropped
abbrev pub sent_at : PortKind → Written → ℕ → List Outgoing
sent_at Missing w tag = []
sent_at Edge w tag = record { writes = w; tag = None; kind = Send } ∷ []
sent_at Linked w tag = record { writes = w; tag = Some tag; kind = Send } ∷ []

abbrev pub sent_by : Departure → ℕ → List Outgoing
sent_by d tag = sent_at d.seen.port d.writes tag

-- the copy to the collector, where an instance holds the words of the class
abbrev pub captured_by : Machine → Departure → ℕ → List Outgoing
captured_by m d c = if captures_at m c then record { writes = d.writes; tag = Some (suc c); kind = CaptureOut } ∷ [] else []

-- the copies of a departure after words of the class
abbrev pub copies_by : Machine → ℕ → Departure → List Outgoing
copies_by m c d = sent_by d (suc (next_class m c d.seen.letter)) ++ captured_by m d (next_class m c d.seen.letter)

abbrev pub copies_at : Machine → ℕ → List Departure → List Outgoing
copies_at m c ds = flat_map (copies_by m c) ds

abbrev pub CopiesAt : Machine → ℕ → List (Tree (List Departure)) → ℕ → List (Tree (List Outgoing)) → ℕ → Type 0
CopiesAt m c from node into id = MakesAt (copies_at m c) from node into id

-- the tags of the first classes, those with words of odd length
abbrev pub odd_to : Machine → ℕ → List ℕ
odd_to m c = filter (λ t. not (is_even_at m (t - 1))) (up_to c)

-- the trees at these ids are those of these tags
abbrev pub LeavesTo : Machine → ℕ → List (Tree (List Departure)) → ℕ → List (Tree (List Outgoing)) → List (ℕ × ℕ) → Type 0
LeavesTo m c from node into trees = AllZip (λ t p. (p.0 ≡ t) × MakesAt (copies_at m (t - 1)) from node into p.1) (odd_to m c) trees

abbrev pub LeavesAt : Machine → List (Tree (List Departure)) → ℕ → List (Tree (List Outgoing)) → List (ℕ × ℕ) → Type 0
LeavesAt m from node into trees = LeavesTo m (length m.rows) from node into trees
