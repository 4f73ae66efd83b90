-- What tables send that say of each packet what their trees say.
use Rattle.std.specs.Prelude.{◌≡◌, ◌≢◌, ◌≤◌, ℕ, true, false, List, [], ◌∷◌, ◌++◌, map, if◌then◌else◌, ◌==◌}
use Rattle.std.specs.declared.option.Option.{Option}
use Rattle.std.specs.declared.option.Option.TheVariants.{None, Some}
use Rattle.pq_fields.specs.Packet.{Numbers, Fit}
use Rattle.pq_fields.specs.Writes.{on}
use Rattle.pq_model.specs.declared.tagged.Sent.{Sent}
use Rattle.pq_model.specs.declared.tagged.Sent.TheVariants.{Port, Controller}
use Rattle.pq_model.specs.MatchFields.{vlan_word}
use Rattle.pq_model.specs.Tagged.{TaggedPacket}
use Rattle.pq_rewrite.specs.declared.outgoing.OutKind.{OutKind}
use Rattle.pq_rewrite.specs.declared.outgoing.OutKind.TheVariants.{Send, CaptureOut}
use Rattle.pq_rewrite.specs.declared.outgoing.Outgoing.{Outgoing}
use Rattle.pq_rewrite.specs.declared.trees.Arrive.{Arrive}
use Rattle.pq_store.specs.Tree.{Tree, value}
use Rattle.pq_model.specs.Events.{IsTagged}
use Rattle.pq_model.specs.SwitchMachine.{in_order}
use Rattle.pq_model.specs.TablesMachine.{Sender}
use Rattle.pq_model.specs.Topology.{Topology, is_edge, is_port}
use Rattle.pq_rewrite.specs.declared.trees.Key.TheVariants.{Plain, Tag}
use Rattle.pq_layout.specs.Actions.{tag_word}
use Rattle.pq_layout.specs.Leaves.{Departures, arrival, leaving}
use Rattle.pq_layout.specs.Tagging.{Tagging}

-- a copy of the packet: one that leaves is at the port that is written, one to the collector at the arriving port
abbrev pub sent_as : OutKind → Numbers → Outgoing → Sent
sent_as Send x c = Port (record { packet = on c.writes x; vlan = c.tag })
sent_as CaptureOut x c = Controller (record { packet = record (on c.writes x) { port = x.port }; vlan = c.tag })

abbrev pub copy_sent : Numbers → Outgoing → Sent
copy_sent x c = sent_as c.kind x c

-- the copy of an arrival that is captured
abbrev pub arrival_sent : Numbers → Arrive → List Sent
arrival_sent x a = if a.capture then Controller (record { packet = x; vlan = Some a.tag }) ∷ [] else []

-- what is sent for a packet of which table 0 says this, and then table 1, by the VLAN_VID word, that
abbrev pub sent_after : (ℕ → Numbers → List Outgoing) → Numbers → Option Arrive → List Sent
sent_after second x None = []
sent_after second x (Some a) = arrival_sent x a ++ map (copy_sent x) (second (tag_word a.tag) x)

abbrev pub sent_by : (ℕ → Numbers → Option Arrive) → (ℕ → Numbers → List Outgoing) → TaggedPacket → List Sent
sent_by first second x = sent_after second x.packet (first (vlan_word x.vlan) x.packet)

-- what the tree with a VLAN_VID word says; the default where there is none
abbrev pub said_by : {L : Type 0} → List (ℕ × Tree L) → L → ℕ → Numbers → L
said_by [] default word x = default
said_by (p ∷ ps) default word x = if p.0 == word then value p.1 x else said_by ps default word x

-- the switches send as the trees of their keys and odd tags say; a packet at an edge port that has a VLAN header meets no tree that takes it
pub record SendsAs (T : Topology) (g : Tagging) (writes : Departures) (send : Sender) : Type 0 where
  pub first : ℕ → Numbers → Option Arrive
  pub second : ℕ → Numbers → List Outgoing
  pub sends : (x : TaggedPacket) → IsTagged x → is_port T x.packet.switch x.packet.port ≡ true → send x ≡ in_order (sent_by first second x)
  pub plain : (x : Numbers) → Fit x → first 0 x ≡ arrival T g Plain x
  pub tagged : (x : Numbers) → Fit x → (t : ℕ) → 1 ≤ t → t ≤ g.count → g.is_even t ≡ true → first (tag_word t) x ≡ arrival T g (Tag t) x
  pub strange : (x : Numbers) → Fit x → is_edge T x.switch x.port ≡ true → (word : ℕ) → word ≢ 0 → first word x ≡ None
  pub leaves : (x : Numbers) → Fit x → (a : ℕ) → 1 ≤ a → a ≤ g.count → g.is_even a ≡ false → second (tag_word a) x ≡ leaving T g writes a x
