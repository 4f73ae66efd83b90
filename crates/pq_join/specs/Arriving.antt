-- The trees of the first table.
use Rattle.std.specs.Prelude.{ℕ, ◌≡◌, ◌-◌, Bool, true, false, not, List, ◌∷◌, map, length, if◌then◌else◌, slice_get}
use Rattle.std.specs.declared.option.Option.{Option}
use Rattle.std.specs.declared.option.Option.TheVariants.{None, Some}
use Rattle.std.specs.List.{AllZip, filter}
use Rattle.pq_fields.specs.Packet.{Numbers}
use Rattle.pq_auto.specs.Machine.{Machine, is_even_at}
use Rattle.pq_layout.specs.Tagging.{up_to}
use Rattle.pq_rewrite.specs.declared.trees.Arrive.{Arrive}
use Rattle.pq_rewrite.specs.declared.trees.Key.{Key}
use Rattle.pq_rewrite.specs.declared.trees.Key.TheVariants.{Plain, Tag}
use Rattle.pq_store.specs.declared.test.Test.{Test}
use Rattle.pq_store.specs.Diagram.{IsDiagram}
use Rattle.pq_store.specs.Tree.{Tree, IsTested, value}
use Rattle.pq_store.specs.Store.{HasAt}
use Rattle.pq_join.specs.declared.ports.PortKind.{PortKind}
use Rattle.pq_join.specs.declared.ports.PortKind.TheVariants.{Missing, Edge, Linked}
use Rattle.pq_join.specs.declared.sight.Seen.{Seen}
use Rattle.pq_join.specs.Tags.{arrive_at}

-- a packet at such a port comes in over a link, or else at the edge
abbrev pub comes_in : PortKind → Bool → Bool
comes_in Missing over_link = false
comes_in Edge over_link = not over_link
comes_in Linked over_link = over_link

-- what is made of a packet that comes in so, after words of the class
abbrev pub arrival_by : Machine → ℕ → Bool → Seen → Option Arrive
arrival_by m c over_link s = if comes_in s.port over_link then Some (arrive_at m c s.letter) else None

-- so for a key
abbrev pub arrival_of : Machine → Key → Seen → Option Arrive
arrival_of m Plain s = arrival_by m 0 false s
arrival_of m (Tag t) s = arrival_by m (t - 1) true s

-- the diagram has on each packet what a function makes of another's leaf, and tests only what the other tests
pub record IsMadeOf {A C : Type 0} (make : A → C) (t : Tree A) (r : Tree C) : Type 0 where
  pub gives : (x : Numbers) → value r x ≡ make (value t x)
  pub tests : (s : Test) → IsTested s r → IsTested s t
  pub diagram : IsDiagram r

abbrev pub MakesAt : {A C : Type 0} → (A → C) → List (Tree A) → ℕ → List (Tree C) → ℕ → Type 0
MakesAt {A} make from k into id = (t : Tree A) → slice_get from k ≡ Some t → HasAt (IsMadeOf make t) into id

abbrev pub ArrivesByAt : Machine → ℕ → Bool → List (Tree Seen) → ℕ → List (Tree (Option Arrive)) → ℕ → Type 0
ArrivesByAt m c over_link seen root into id = MakesAt (arrival_by m c over_link) seen root into id

-- the trees at these ids are those of the keys
abbrev pub AreOfKeys : Machine → List Key → List (Tree Seen) → ℕ → List (Tree (Option Arrive)) → List (Key × ℕ) → Type 0
AreOfKeys m keys seen root into trees = AllZip (λ k p. (p.0 ≡ k) × MakesAt (arrival_of m k) seen root into p.1) keys trees

-- the tags of the first classes, those with words of even length
abbrev pub even_to : Machine → ℕ → List ℕ
even_to m c = filter (λ t. is_even_at m (t - 1)) (up_to c)

-- the trees for packets without a tag and for those with these tags
abbrev pub ArrivesTo : Machine → ℕ → List (Tree Seen) → ℕ → List (Tree (Option Arrive)) → List (Key × ℕ) → Type 0
ArrivesTo m c seen root into trees = AreOfKeys m (Plain ∷ map Tag (even_to m c)) seen root into trees

abbrev pub ArrivesAt : Machine → List (Tree Seen) → ℕ → List (Tree (Option Arrive)) → List (Key × ℕ) → Type 0
ArrivesAt m seen root into trees = ArrivesTo m (length m.rows) seen root into trees
