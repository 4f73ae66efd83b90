-- The predicates of examples, and their diagrams.
use Rattle.std.specs.Prelude.{ℕ, Bool, List, [], ◌∷◌}
use Rattle.pq_fields.specs.Pred.{PredTree, IsLawfulPred}
use Rattle.pq_store.specs.Tree.{Tree}
use Rattle.pq_store.specs.Room.{Within}
use Rattle.pq_store.specs.Store.{HasAt}
use Rattle.pq_apply.specs.Predicates.{IsPredWithin}

-- their numbers: those in prerequisites, ports, and a transport port
abbrev pub example_numbers : List ℕ
example_numbers = 0x0800 ∷ 0x86dd ∷ 6 ∷ 17 ∷ 1 ∷ 2 ∷ 3 ∷ 80 ∷ []

-- a lawful predicate with only these numbers
pub record IsExample (p : PredTree) : Type 0 where
  pub lawful : IsLawfulPred p
  pub within : IsPredWithin (λ f. example_numbers) p

-- a place has a tree with only these
abbrev pub IsExampleAt : List (Tree Bool) → ℕ → Type 0
IsExampleAt ts id = HasAt (Within (λ f. example_numbers)) ts id
