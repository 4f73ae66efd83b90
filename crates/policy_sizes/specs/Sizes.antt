-- The size of a store in which the diagram of a policy was built.
use Rattle.std.specs.Prelude.{ℕ, ◌≡◌, List, [], length}
use Rattle.pq_fields.specs.Writes.{Written}
use Rattle.pq_model.specs.Topology.{Topology}
use Rattle.pq_policy.specs.Policy.{PolicyTree}
use Rattle.pq_store.specs.Tree.{Tree}
use Rattle.pq_store.specs.Store.{HasAt}
use Rattle.pq_forward.specs.Forward.{IsForward}

-- the topology without switches
abbrev pub nowhere : Topology
nowhere = record { switches = []; links = [] }

-- the size of a store that has the policy's diagram over the topology
pub record IsStoreSize (T : Topology) (p : PolicyTree) (size : ℕ) : Type 0 where
  pub store : List (Tree (List Written))
  pub root : ℕ
  pub has : HasAt (IsForward T p) store root
  pub size_is : size ≡ length store
