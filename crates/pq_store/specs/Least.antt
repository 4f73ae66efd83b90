-- The least packet that reaches each leaf under a node.
use Rattle.std.specs.Prelude.{ℕ, ◌≡◌, Bool, true, false, List, Some, slice_get}
use Rattle.std.specs.List.{All, Any, AllPairs}
use Rattle.pq_fields.specs.Packet.{Numbers, Fit, numbers, is_before}
use Rattle.pq_store.specs.declared.least.Least.{Least}
use Rattle.pq_store.specs.Tree.{Tree}
use Rattle.pq_store.specs.Tree.Tree.{Tip}
use Rattle.pq_store.specs.Store.{value_at}

-- the first packet is before the second, in packet order
abbrev pub precedes : Numbers → Numbers → Bool
precedes x y = is_before (numbers x) (numbers y)

module _ {L : Type 0} where
  -- the packet reaches the leaf with this id
  abbrev pub Reaches : List (Tree L) → ℕ → Numbers → ℕ → Type 0
  Reaches ts k x leaf = (l : L) × (value_at ts k x ≡ Some l) × (slice_get ts leaf ≡ Some (Tip l))

  -- the packet reaches the leaf, and none before it does
  pub record IsLeast (ts : List (Tree L)) (k : ℕ) (e : Least) : Type 0 where
    pub fit : Fit e.packet
    pub reaches : Reaches ts k e.packet e.leaf
    pub least : (x : Numbers) → Fit x → Reaches ts k x e.leaf → precedes x e.packet ≡ false

  -- each leaf that a packet reaches, once, with its least packet, by ascending packets
  pub record AreLeast (ts : List (Tree L)) (k : ℕ) (found : List Least) : Type 0 where
    pub each : All (IsLeast ts k) found
    pub whole : (x : Numbers) → Fit x → Any (λ e. Reaches ts k x e.leaf) found
    pub ascending : AllPairs (λ d e. precedes d.packet e.packet ≡ true) found
