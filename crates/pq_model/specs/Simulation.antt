-- When one hop of the two machines agrees, whatever way the switches send.
use Rattle.std.specs.Prelude.{◌≡◌, List, [], ◌∷◌, map, IsTrue}
use Rattle.pq_model.specs.Tagged.{TaggedPacket}
use Rattle.pq_model.specs.Topology.{is_edge}
use Rattle.pq_model.specs.Events.{IsTagged}
use Rattle.pq_model.specs.Meaning.{Meaning, Item, item_packet, flown, dropped_off, captured, entered_as}
use Rattle.pq_model.specs.SwitchMachine.{to_ports, to_controller}
use Rattle.pq_model.specs.TablesMachine.{Report, Sender, carried_all, delivered_of, collected}
use Rattle.pq_model.specs.Headline.{plain}

-- values at the same places are related, and there are as many of them
abbrev pub Pairwise : {A B : Type 0} → (A → B → Type 0) → List A → List B → Type 0
Pairwise R [] [] = Unit {0}
Pairwise R [] (y ∷ ys) = ⊥
Pairwise R (x ∷ xs) [] = ⊥
Pairwise R (x ∷ xs) (y ∷ ys) = R x y × Pairwise R xs ys

-- what a hop of the item and one of the packet add corresponds
pub record HopAgrees (m : Meaning) (report : Report) (send : Sender) (Matches : Item → TaggedPacket → Type 0) (i : Item) (x : TaggedPacket) : Type 0 where
  pub flight : Pairwise Matches (flown m i) (carried_all m.topology (to_ports (send x)))
  pub delivered : delivered_of m.topology (to_ports (send x)) ≡ map plain (dropped_off m i)
  pub buckets : collected report (to_controller (send x)) ≡ captured m i

-- a correspondence of items in flight: their packets are equal, what enters corresponds, and one hop of what corresponds agrees
pub record Simulates (m : Meaning) (report : Report) (send : Sender) (Matches : Item → TaggedPacket → Type 0) : Type 0 where
  pub packets : (i : Item) (x : TaggedPacket) → Matches i x → x.packet ≡ item_packet i
  pub enters : (x : TaggedPacket) → IsTagged x → IsTrue (is_edge m.topology x.packet.switch x.packet.port) → Matches (entered_as x x.vlan) x
  pub hops : (i : Item) (x : TaggedPacket) → Matches i x → HopAgrees m report send Matches i x
