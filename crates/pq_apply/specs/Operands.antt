-- The diagrams of predicates one after another.
use Rattle.std.specs.Prelude.{ℕ, ◌≡◌, Bool, List, [], ◌∷◌}
use Rattle.pq_fields.specs.declared.field.Field.{Field}
use Rattle.pq_fields.specs.Packet.{Numbers, Fit}
use Rattle.pq_fields.specs.Pred.{Preds, truths}
use Rattle.pq_fields.specs.Pred.Preds.{none, put}
use Rattle.pq_store.specs.Tree.{Tree, value}
use Rattle.pq_store.specs.Room.{HasRoom, Within}
use Rattle.pq_store.specs.Store.{HasAt}
use Rattle.pq_apply.specs.Junction.{joined}
use Rattle.pq_apply.specs.Predicates.{ArePredsWithin, HoldsAt}

-- the predicates may come together in one diagram: there is room for their numbers and those in prerequisites
abbrev pub FitAsNodes : Preds → Type 0
FitAsNodes ps = HasRoom (λ ns. ArePredsWithin ns ps)

-- the trees at these places are those of the predicates, one by one
abbrev pub HoldAt : Preds → List (Tree Bool) → List ℕ → Type 0
HoldAt none ts [] = Unit {0}
HoldAt none ts (id ∷ ids) = ⊥
HoldAt (put top below rest) ts [] = ⊥
HoldAt (put top below rest) ts (id ∷ ids) = HoldsAt (record { top = top; below = below }) ts id × HoldAt rest ts ids

-- the tree says of each packet whether all of the predicates hold, or one does, and tests only their numbers
pub record IsPredsTree (every : Bool) (ps : Preds) (t : Tree Bool) : Type 0 where
  pub gives : (x : Numbers) → Fit x → value t x ≡ joined every (truths ps x)
  pub tests : (ns : Field → List ℕ) → ArePredsWithin ns ps → Within ns t

-- a place has such a tree
abbrev pub JoinedAt : Bool → Preds → List (Tree Bool) → ℕ → Type 0
JoinedAt every ps ts id = HasAt (IsPredsTree every ps) ts id
