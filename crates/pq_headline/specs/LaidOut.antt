-- Switches that send as the tables layout says, and what is in flight among them.
use Rattle.std.specs.Prelude.{◌≡◌, ◌↔◌, ◌⊎◌, ◌^◌, ◌<◌, ◌≤◌, ℕ, true, List, [], IsTrue, Some, None, slice_get}
use Rattle.std.specs.List.{Contains}
use Rattle.pq_fields.specs.Packet.{Numbers, Fit, numbers}
use Rattle.pq_model.specs.declared.event.Event.{Event}
use Rattle.pq_model.specs.Buckets.{Instance, instance_numbers}
use Rattle.pq_model.specs.Classes.{Languages, IsPath, has_even_length}
use Rattle.pq_model.specs.Install.{AscendsBy, IsLawfulTopology}
use Rattle.pq_model.specs.TablesMachine.{Sender, nothing_sent, run_sending}
use Rattle.pq_model.specs.Events.{IsSchedule}
use Rattle.pq_model.specs.Headline.{Agree}
use Rattle.pq_model.specs.Meaning.{Meaning, Item, Traced, Stranger, at_rest, run}
use Rattle.pq_model.specs.Simulation.{Simulates}
use Rattle.pq_model.specs.Tagged.{TaggedPacket}
use Rattle.pq_model.specs.Topology.{Topology, is_edge, is_linked, is_port}
use Rattle.pq_model.specs.Word.{Word}
use Rattle.pq_layout.specs.Emission.{report_of}
use Rattle.pq_layout.specs.Leaves.{AreDepartures, Departures, departing}
use Rattle.pq_layout.specs.Sending.{SendsAs}
use Rattle.pq_layout.specs.Tagging.{Tagging, IsTagging, tag_of}

-- the departures of a packet are in packet order, each once, and each leaves at a port of the packet's switch
pub record DepartsInOrder (T : Topology) (m : Meaning) (x : Numbers) : Type 0 where
  pub ascend : AscendsBy numbers (m.departs x)
  pub ports : (y : Numbers) → Contains (m.departs x) y → IsTrue (is_port T x.switch y.port)

-- the instance of this number accepts the word
abbrev pub IsAccepted : Meaning → ℕ → Word → Type 0
IsAccepted m i w = (inst : Instance) × (slice_get m.instances i ≡ Some inst) × (m.accepts inst w ≡ true)

-- a meaning over a lawful topology, with languages of its instances, tags of their words, and departures as writes
pub record IsLaidOut (T : Topology) (m : Meaning) (Ls : Languages) (g : Tagging) (writes : Departures) : Type 0 where
  pub topology : m.topology ≡ T
  pub lawful : IsLawfulTopology T
  pub departs : (x : Numbers) → Fit x → DepartsInOrder T m x
  pub departures : AreDepartures (λ x y. Contains (m.departs x) y) writes
  pub languages : (i : ℕ) (w : Word) → IsPath w → Ls i w ↔ IsAccepted m i w
  pub instances : AscendsBy instance_numbers m.instances
  pub tagging : IsTagging Ls g
  pub few : g.count ≤ 4094

-- a packet without a header comes in at an edge port; over a link one comes with the tag of its path
abbrev pub HasTagOf : Topology → Tagging → Word → TaggedPacket → Type 0
HasTagOf T g w y =
    ((w ≡ []) × (is_edge T y.packet.switch y.packet.port ≡ true) × (y.vlan ≡ None))
    ⊎ ((is_linked T y.packet.switch y.packet.port ≡ true) × (y.vlan ≡ Some (tag_of g w)))

-- the packet in flight stands for the item's, whose path so far is a word of hops
pub record IsTraced (T : Topology) (g : Tagging) (w : Word) (x : Numbers) (y : TaggedPacket) : Type 0 where
  pub packet : y.packet ≡ x
  pub fit : Fit x
  pub path : IsPath w
  pub even : has_even_length w ≡ true
  pub port : is_port T x.switch x.port ≡ true
  pub tag : HasTagOf T g w y

-- a packet that came in with a header, at an edge port
pub record IsStranger (T : Topology) (x : Numbers) (y : TaggedPacket) : Type 0 where
  pub packet : y.packet ≡ x
  pub fit : Fit x
  pub edge : is_edge T x.switch x.port ≡ true
  pub number : ℕ
  pub header : y.vlan ≡ Some number
  pub short : number < 2 ^ 12

-- what is in flight by the meaning, and by the tables
abbrev pub Matches : Topology → Tagging → Item → TaggedPacket → Type 0
Matches T g (Traced w x) y = IsTraced T g w x y
Matches T g (Stranger x) y = IsStranger T x y

-- one hop of each packet in flight adds what the meaning adds, where switches send as the layout says
abbrev pub LaidOutTablesSimulate : Languages → Type 0
LaidOutTablesSimulate Ls =
    (T : Topology) (m : Meaning) (g : Tagging) (writes : Departures) (send : Sender) → IsLaidOut T m Ls g writes → SendsAs T g writes send
    → Simulates m (report_of g m.instances) send (Matches T g)

-- of what a relation yields, the meaning's departures are what leaves at a port of the packet's switch
abbrev pub DepartsAtPorts : (Numbers → Numbers → Type 0) → Topology → Meaning → Type 0
DepartsAtPorts yields T m = (x y : Numbers) → Fit x → Contains (m.departs x) y ↔ (yields x y × IsTrue (is_port T x.switch y.port))

-- of the writes of what is yielded, those that leave are the writes of the departures
abbrev pub DepartingWritesDepart : (Numbers → Numbers → Type 0) → Type 0
DepartingWritesDepart yields =
    (T : Topology) (m : Meaning) (writes : Departures) → DepartsAtPorts yields T m → AreDepartures yields writes
    → AreDepartures (λ x y. Contains (m.departs x) y) (departing T writes)

-- and every schedule leaves the flights, the deliveries and the buckets that the meaning leaves
abbrev pub LaidOutTablesAgree : Languages → Type 0
LaidOutTablesAgree Ls =
    (T : Topology) (m : Meaning) (g : Tagging) (writes : Departures) (send : Sender) → IsLaidOut T m Ls g writes → SendsAs T g writes send
    → (events : List Event) → IsSchedule events → Agree (run m at_rest events) (run_sending m.topology (report_of g m.instances) send nothing_sent events)
