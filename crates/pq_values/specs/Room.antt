-- Room for all numbers of a document.
use Rattle.std.specs.Prelude.{ℕ, ◌≤◌, List, All}
use Rattle.pq_fields.specs.declared.field.Field.{Field}
use Rattle.pq_fields.specs.declared.field.Field.TheVariants.{Port, EthType, IpProto}
use Rattle.pq_model.specs.Topology.{Topology}
use Rattle.pq_topo.specs.Named.{IsNamedTopology}
use Rattle.pq_pred.specs.Named.{MayStand}
use Rattle.pq_policy.specs.Policy.{PolicyTree, IsPolicyOver}
use Rattle.pq_query.specs.Lawful.{IsQueryOver}
use Rattle.pq_query.specs.Query.{QueryTree}
use Rattle.pq_store.specs.Room.{HasRoom, IsAmong}
use Rattle.pq_forward.specs.Forward.{IsPolicyWithin, IsTopologyWithin}
use Rattle.pq_classes.specs.Room.{IsQueryWithin}
use Rattle.pq_values.specs.Limits.{count_for, limits}
use Rattle.pq_values.specs.Stated.{Stated}

-- the numbers of the network, of the policies and of the queries, those in prerequisites, and port 0 are among these
pub record AreWithin (T : Topology) (ps : List PolicyTree) (qs : List QueryTree) (ns : Field → List ℕ) : Type 0 where
  pub topology : IsTopologyWithin ns T
  pub policies : All (IsPolicyWithin ns) ps
  pub queries : All (IsQueryWithin ns T) qs
  pub dropped : IsAmong 0 (ns Port)
  pub ipv4 : IsAmong 0x0800 (ns EthType)
  pub ipv6 : IsAmong 0x86dd (ns EthType)
  pub tcp : IsAmong 6 (ns IpProto)
  pub udp : IsAmong 17 (ns IpProto)

-- there is room for all of them together
abbrev pub HaveRoom : Topology → List PolicyTree → List QueryTree → Type 0
HaveRoom T ps qs = HasRoom (AreWithin T ps qs)

-- no field is above its limit
abbrev pub AreFewStated : List Stated → Type 0
AreFewStated ss = All (λ l. count_for l.0 ss ≤ l.1) limits

-- the network is lawful, and the numbers of policies and queries may be in a document about it
pub record AreOver (T : Topology) (ps : List PolicyTree) (qs : List QueryTree) : Type 0 where
  pub topology : IsNamedTopology T
  pub policies : All (IsPolicyOver (MayStand T)) ps
  pub queries : All (IsQueryOver (MayStand T)) qs
