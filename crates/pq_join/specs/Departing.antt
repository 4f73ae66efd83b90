-- The departures of packets at a switch, by the writes of a policy.
use Rattle.std.specs.Prelude.{ℕ, ◌≡◌, ◌⊎◌, List, [], ◌∷◌, ◌++◌, Some, slice_get}
use Rattle.std.specs.List.{flat_map}
use Rattle.pq_fields.specs.Packet.{Numbers}
use Rattle.pq_fields.specs.Writes.{Written}
use Rattle.pq_store.specs.declared.test.Test.{Test}
use Rattle.pq_store.specs.Tree.{Tree, value, IsTested}
use Rattle.pq_store.specs.Store.{HasAt}
use Rattle.pq_join.specs.declared.departure.Departure.{Departure}
use Rattle.pq_join.specs.declared.ports.PortKind.{PortKind}
use Rattle.pq_join.specs.declared.ports.PortKind.TheVariants.{Missing, Edge, Linked}
use Rattle.pq_join.specs.declared.sight.Seen.{Seen}
use Rattle.pq_join.specs.Overwriting.{put}

-- a departure, where the port is one of the switch
abbrev pub departs_at : PortKind → Departure → List Departure
departs_at Missing d = []
departs_at Edge d = d ∷ []
departs_at Linked d = d ∷ []

-- the departure by writes of a packet of which this is seen once it is written
abbrev pub departures_by : Written → Seen → List Departure
departures_by w s = departs_at s.port (record { writes = w; seen = s })

-- the departures of a packet by some writes, in their order
abbrev pub departures_of : Tree Seen → Numbers → List Written → List Departure
departures_of t x ws = flat_map (λ w. departures_by w (value t (put w x))) ws

-- the tree has of each packet the departures by the writes of another tree, and tests only what that and the sight test
pub record IsDeparting (t : Tree Seen) (u : Tree (List Written)) (r : Tree (List Departure)) : Type 0 where
  pub gives : (x : Numbers) → value r x ≡ departures_of t x (value u x)
  pub tests : (s : Test) → IsTested s r → IsTested s t ⊎ IsTested s u

-- such a tree is at a place, and the sight at a place of its own
pub record DepartsAt (u : Tree (List Written)) (ts : List (Tree Seen)) (root : ℕ) (into : List (Tree (List Departure))) (id : ℕ) : Type 0 where
  pub seen : Tree Seen
  pub made : Tree (List Departure)
  pub seen_is : slice_get ts root ≡ Some seen
  pub made_is : slice_get into id ≡ Some made
  pub departs : IsDeparting seen u made

-- so for the writes of the tree at a place
abbrev pub DepartsFromAt : List (Tree (List Written)) → ℕ → List (Tree Seen) → ℕ → List (Tree (List Departure)) → ℕ → Type 0
DepartsFromAt us node ts root into id = (u : Tree (List Written)) → slice_get us node ≡ Some u → DepartsAt u ts root into id

-- the tree has of each packet the departures of both trees, and tests only what they test
pub record IsAppended (t u r : Tree (List Departure)) : Type 0 where
  pub gives : (x : Numbers) → value r x ≡ value t x ++ value u x
  pub tests : (s : Test) → IsTested s r → IsTested s t ⊎ IsTested s u

abbrev pub AppendsAt : List (Tree (List Departure)) → ℕ → ℕ → List (Tree (List Departure)) → ℕ → Type 0
AppendsAt old i j new id =
    (t u : Tree (List Departure)) → slice_get old i ≡ Some t → slice_get old j ≡ Some u → HasAt (IsAppended t u) new id
