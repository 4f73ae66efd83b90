-- Disjunctions of many tests, and the numbers that they name.
use Rattle.std.specs.Prelude.{ℕ, ◌-◌, ◌/◌, ◌^◌, ◌≤◌, ◌≡◌, List, [], ◌∷◌, ◌==◌, if◌then◌else◌}
use Rattle.std.specs.List.{range_with_len}
use Rattle.pq_fields.specs.declared.field.Field.{Field}
use Rattle.pq_fields.specs.Packet.{rank, width_of}
use Rattle.pq_fields.specs.Pred.{AreLawful, IsLawfulPred, PredTree, Preds}
use Rattle.pq_apply.specs.Predicates.{ArePredsWithin, IsPredWithin, protocols_before, types_before}
use Rattle.diagram_sizes.specs.declared.sizes.Sizes.{Sizes}
use Rattle.diagram_sizes.specs.Sizes.{AreSizes}
use Rattle.diagram_sizes.specs.declared.disjunctions.Tested.{Tested}
use Rattle.diagram_sizes.specs.declared.disjunctions.Tested.TheVariants.{Numbers, Networks}

-- the numbers in the prerequisites of fields
abbrev pub prerequisites : List ℕ
prerequisites = 0x0800 ∷ 0x86dd ∷ 6 ∷ 17 ∷ []

-- the numbers of each field that this many tests name, and those in prerequisites
abbrev pub numbers_of : Tested → ℕ → Field → List ℕ
numbers_of (Numbers tested) count f = if rank f == rank tested then range_with_len 1 count else prerequisites
numbers_of Networks count f = prerequisites

-- a field without prerequisites, and at most half of its numbers minus one; or networks that lie within 32 bits
abbrev pub IsTestable : Tested → ℕ → Type 0
IsTestable (Numbers f) count = (count ≤ 2 ^ width_of f / 2 - 1) × (types_before f ≡ []) × (protocols_before f ≡ [])
IsTestable Networks count = count ≤ 2 ^ 16

-- a lawful predicate with only these numbers
pub record NamesOnly (ns : Field → List ℕ) (p : PredTree) : Type 0 where
  pub lawful : IsLawfulPred p
  pub within : IsPredWithin ns p

-- lawful predicates with only these numbers
pub record NameOnly (ns : Field → List ℕ) (ps : Preds) : Type 0 where
  pub lawful : AreLawful ps
  pub within : ArePredsWithin ns ps

-- the sizes are those of such a predicate's diagram
abbrev pub AreSizesNaming : (Field → List ℕ) → Sizes → Type 0
AreSizesNaming ns sizes = (p : PredTree) × NamesOnly ns p × AreSizes p sizes
