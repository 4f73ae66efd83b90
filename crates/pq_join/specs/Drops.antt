-- Departures, with a drop of the packets that have none.
use Rattle.std.specs.Prelude.{ℕ, ◌≡◌, ◌⊎◌, List, [], ◌∷◌, Some, slice_get}
use Rattle.pq_fields.specs.Packet.{Numbers}
use Rattle.pq_fields.specs.Writes.{Written, no_writes}
use Rattle.pq_store.specs.declared.test.Test.{Test}
use Rattle.pq_store.specs.Tree.{Tree, value, IsTested}
use Rattle.pq_store.specs.Store.{HasAt}
use Rattle.pq_join.specs.declared.departure.Departure.{Departure}
use Rattle.pq_join.specs.declared.sight.Seen.{Seen}
use Rattle.pq_join.specs.Departing.{departures_of}

-- the departures, or a drop where there are none
abbrev pub or_drop : List Departure → Seen → List Departure
or_drop [] s = record { writes = no_writes; seen = s } ∷ []
or_drop (d ∷ ds) s = d ∷ ds

-- the tree has of each packet its departures, or a drop of which the sight tells
pub record IsWithDrops (t : Tree (List Departure)) (s : Tree Seen) (r : Tree (List Departure)) : Type 0 where
  pub gives : (x : Numbers) → value r x ≡ or_drop (value t x) (value s x)
  pub tests : (q : Test) → IsTested q r → IsTested q t ⊎ IsTested q s

abbrev pub DropsAt : List (Tree (List Departure)) → ℕ → List (Tree Seen) → ℕ → List (Tree (List Departure)) → ℕ → Type 0
DropsAt ts i ss j into id =
    (t : Tree (List Departure)) (s : Tree Seen) → slice_get ts i ≡ Some t → slice_get ss j ≡ Some s → HasAt (IsWithDrops t s) into id

-- the departures of a packet by some writes, or its drop at port 0
abbrev pub departures_or_drop : Tree Seen → Numbers → List Written → List Departure
departures_or_drop t x ws = or_drop (departures_of t x ws) (value t (record x { port = 0 }))

-- the tree has of each packet the departures by the writes of another tree, or its drop
pub record IsDepartingOrDropping (t : Tree Seen) (u : Tree (List Written)) (r : Tree (List Departure)) : Type 0 where
  pub gives : (x : Numbers) → value r x ≡ departures_or_drop t x (value u x)
  pub tests : (s : Test) → IsTested s r → IsTested s t ⊎ IsTested s u

abbrev pub DepartsOrDropsAt : List (Tree Seen) → ℕ → List (Tree (List Written)) → ℕ → List (Tree (List Departure)) → ℕ → Type 0
DepartsOrDropsAt ts root us node into id =
    (t : Tree Seen) (u : Tree (List Written)) → slice_get ts root ≡ Some t → slice_get us node ≡ Some u → HasAt (IsDepartingOrDropping t u) into id
