-- The trees of a switch's tables.
use Rattle.std.specs.Prelude.{◌≡◌, ℕ, List, ◌∷◌, map}
use Rattle.std.specs.declared.option.Option.{Option}
use Rattle.std.specs.List.{AllZip}
use Rattle.pq_fields.specs.Packet.{Numbers, Fit}
use Rattle.pq_model.specs.Topology.{Topology}
use Rattle.pq_rewrite.specs.declared.outgoing.Outgoing.{Outgoing}
use Rattle.pq_rewrite.specs.declared.trees.Arrive.{Arrive}
use Rattle.pq_rewrite.specs.declared.trees.Key.{Key}
use Rattle.pq_rewrite.specs.declared.trees.Key.TheVariants.{Plain, Tag}
use Rattle.pq_store.specs.Diagram.{IsDiagram}
use Rattle.pq_store.specs.Store.{HasAt}
use Rattle.pq_store.specs.Tree.{Tree, value}
use Rattle.pq_layout.specs.Leaves.{Departures, arrival, at_switch, leaving}
use Rattle.pq_layout.specs.Tagging.{Tagging, even_tags, odd_tags}

-- the one tree of a function from packets
pub record IsTreeOf {L : Type 0} (F : Numbers → L) (t : Tree L) : Type 0 where
  pub gives : (x : Numbers) → Fit x → value t x ≡ F x
  pub diagram : IsDiagram t

-- the keys of the trees of table 0, ascending
abbrev pub keys_of : Tagging → List Key
keys_of g = Plain ∷ map Tag (even_tags g)

-- the tree of a key at a switch, and that of an odd tag
abbrev pub IsArriving : Topology → Tagging → ℕ → Key → Tree (Option Arrive) → Type 0
IsArriving T g d k t = IsTreeOf (λ x. arrival T g k (at_switch d x)) t

abbrev pub IsLeaving : Topology → Tagging → Departures → ℕ → ℕ → Tree (List Outgoing) → Type 0
IsLeaving T g writes d a t = IsTreeOf (λ x. leaving T g writes a (at_switch d x)) t

-- ids of a store for the trees of all keys, and for those of all odd tags
abbrev pub AreArriving : Topology → Tagging → ℕ → List (Tree (Option Arrive)) → List (Key × ℕ) → Type 0
AreArriving T g d store trees = AllZip (λ k p. (p.0 ≡ k) × HasAt (IsArriving T g d k) store p.1) (keys_of g) trees

abbrev pub AreLeaving : Topology → Tagging → Departures → ℕ → List (Tree (List Outgoing)) → List (ℕ × ℕ) → Type 0
AreLeaving T g writes d store trees = AllZip (λ a p. (p.0 ≡ a) × HasAt (IsLeaving T g writes d a) store p.1) (odd_tags g) trees
