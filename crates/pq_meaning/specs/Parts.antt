-- The diagram of what the parts of a document forward.
use Rattle.std.specs.Prelude.{ℕ, ◌+◌, ◌-◌, List, length, map, All, sum_by}
use Rattle.std.specs.List.{Any}
use Rattle.pq_fields.specs.declared.field.Field.{Field}
use Rattle.pq_fields.specs.Packet.{Numbers}
use Rattle.pq_fields.specs.Writes.{Written}
use Rattle.pq_model.specs.Topology.{Topology}
use Rattle.pq_policy.specs.declared.policy.Policy.{Policy}
use Rattle.pq_policy.specs.Policy.{IsLawfulPolicy, PolicyTree, policy_tree, yields}
use Rattle.pq_store.specs.Room.{HasRoom}
use Rattle.pq_store.specs.Tree.{Tree}
use Rattle.pq_rewrite.specs.Rewriting.{Covers, IsGiving}
use Rattle.pq_forward.specs.Forward.{IsPolicyWithin, IsTopologyWithin, work}

-- the policies of parts, without their names
abbrev pub part_trees : List (List ℕ × Policy) → List PolicyTree
part_trees parts = map (λ part. policy_tree part.1) parts

-- each part is lawful
abbrev pub AreLawful : List PolicyTree → Type 0
AreLawful ps = All IsLawfulPolicy ps

-- there is room for the numbers of the topology and those of all parts
abbrev pub FitAsParts : Topology → List PolicyTree → Type 0
FitAsParts T ps = HasRoom (λ ns. IsTopologyWithin ns T × All (IsPolicyWithin ns) ps)

-- some part yields the second packet on the first
abbrev pub any_yields : Topology → List PolicyTree → Numbers → Numbers → Type 0
any_yields T ps x y = Any (λ p. yields T p x y) ps

-- the tree gives on each packet what some part yields on it, and tests and writes only numbers of the topology and of the parts
pub record IsUnionOfParts (T : Topology) (ps : List PolicyTree) (t : Tree (List Written)) : Type 0 where
  pub giving : IsGiving (any_yields T ps) t
  pub covers : (ns : Field → List ℕ) → IsTopologyWithin ns T → All (IsPolicyWithin ns) ps → Covers ns t

-- the most steps to the diagram: those of each part, and one less than there are parts
abbrev pub work_of_parts : List PolicyTree → ℕ
work_of_parts ps = length ps - 1 + sum_by work ps
