-- Which of several entries a packet takes.
use Rattle.std.specs.Prelude.{◌≡◌, ◌⊎◌, ℕ, Bool, true, false, List, [], ◌∷◌, nat_lt, ◌-◌, ◌==◌, ◌&&◌, ◌||◌, if◌then◌else◌}
use Rattle.std.specs.declared.option.Option.{Option}
use Rattle.std.specs.declared.option.Option.TheVariants.{None, Some}
use Rattle.std.specs.Map.{values_of}
use Rattle.std.specs.Ordering.{is_eq}
use Rattle.pq_model.specs.MatchFields.{covers}
use Rattle.pq_model.specs.Tagged.{TaggedPacket}
use Rattle.pq_switch.specs.declared.entry.Slot.{Slot}
use Rattle.pq_switch.specs.Places.{block_cmp}
use Rattle.pq_switch.specs.declared.place.Block.{Block}
use Rattle.pq_switch.specs.declared.place.Place.{Place}

-- whether the entry is in the table and covers the packet
abbrev pub counts : ℕ → TaggedPacket → Slot → Bool
counts n x s = (s.entry.table == n) && covers s.entry.matching x

-- whether the first has the higher priority, or the same and was added earlier
abbrev pub comes_before : Slot → Slot → Bool
comes_before s t = nat_lt t.entry.priority s.entry.priority || ((t.entry.priority == s.entry.priority) && nat_lt s.sequence t.sequence)

-- whether the best so far has a higher priority than the entry
abbrev pub is_beaten : Slot → Option Slot → Bool
is_beaten s None = false
is_beaten s (Some best) = nat_lt s.entry.priority best.entry.priority

-- the better one of an entry and the best so far
abbrev pub preferred : ℕ → TaggedPacket → Slot → Option Slot → Option Slot
preferred n x s None = if counts n x s then Some s else None
preferred n x s (Some best) = if counts n x s && comes_before s best then Some s else Some best

-- the best of entries and the best so far
abbrev pub best_of : ℕ → TaggedPacket → List Slot → Option Slot → Option Slot
best_of n x [] best = best
best_of n x (s ∷ slots) best = best_of n x slots (preferred n x s best)

-- the best of this many entries of the block and the best so far; and the place of the next entry of the block, if there is one
abbrev pub best_of_few : ℕ → Block → ℕ → TaggedPacket → List (Place × Slot) → Option Slot → Option Slot × Option Place
best_of_few k b n x [] best = (best, None)
best_of_few k b n x (e ∷ es) best =
    if is_eq (block_cmp e.0.block b)
    then if k == 0 then (best, Some e.0) else best_of_few (k - 1) b n x es (preferred n x e.1 best)
    else (best, None)

module _ {A : Type 0} where
  -- one of these
  abbrev pub IsIn : A → List A → Type 0
  IsIn x [] = ⊥
  IsIn x (y ∷ ys) = (x ≡ y) ⊎ IsIn x ys

module _ (n : ℕ) (x : TaggedPacket) where
  -- the best of these
  abbrev pub IsBest : List Slot → Option Slot → Type 0
  IsBest slots None = (t : Slot) → IsIn t slots → counts n x t ≡ false
  IsBest slots (Some s) = IsIn s slots × (counts n x s ≡ true) × ((t : Slot) → IsIn t slots → counts n x t ≡ true → comes_before t s ≡ false)

  module _ (es : List (Place × Slot)) where
    -- the best of some entries, of which are all these and all of the block that count
    pub record IsBestOfMore (start : List Slot) (b : Block) (best : Option Slot) : Type 0 where
      pub some : List Slot
      pub is_best : IsBest some best
      pub inside : (t : Slot) → IsIn t some → IsIn t (values_of es)
      pub has : (t : Slot) → IsIn t start → IsIn t some
      pub all : (e : Place × Slot) → IsIn e es → e.0.block ≡ b → counts n x e.1 ≡ true → IsIn e.1 some

    -- what the first is the best of, the second is the best of too, with the entries of the block
    abbrev pub IsBestWith : Block → Option Slot → Option Slot → Type 0
    IsBestWith b before best = (start : List Slot) → ((t : Slot) → IsIn t start → IsIn t (values_of es)) → IsBest start before → IsBestOfMore start b best
