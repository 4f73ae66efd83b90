-- The policies of examples, and the topology on which they act.
use Rattle.std.specs.Prelude.{ℕ, List, [], ◌∷◌, codes}
use Rattle.pq_model.specs.Topology.{Switch, Topology}
use Rattle.pq_policy.specs.Policy.{PolicyTree, IsLawfulPolicy}
use Rattle.pq_forward.specs.Forward.{IsPolicyWithin}

-- their numbers: those in prerequisites, ports, an address, and a transport port
abbrev pub example_numbers : List ℕ
example_numbers = 0x0800 ∷ 0x86dd ∷ 6 ∷ 17 ∷ 1 ∷ 2 ∷ 3 ∷ 10 ∷ 80 ∷ []

-- a lawful policy with only these numbers
pub record IsExamplePolicy (p : PolicyTree) : Type 0 where
  pub lawful : IsLawfulPolicy p
  pub within : IsPolicyWithin (λ f. example_numbers) p

-- switch 1 with ports 1, 2 and 3
abbrev pub example_switch : Switch
example_switch = record { name = codes "s1"; datapath = 1; ports = 1 ∷ 2 ∷ 3 ∷ []; limit = 2000 }

-- and no other
abbrev pub example_topology : Topology
example_topology = record { switches = example_switch ∷ []; links = [] }
