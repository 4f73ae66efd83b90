-- Installs whose switches send as their trees say.
use Rattle.std.specs.Prelude.{◌≡◌, ℕ, List, [], None}
use Rattle.std.specs.List.{AllZip}
use Rattle.pq_model.specs.declared.message.Message.{Message}
use Rattle.pq_model.specs.Classes.{Languages}
use Rattle.pq_model.specs.Events.{IsTagged}
use Rattle.pq_model.specs.Headline.{Implements}
use Rattle.pq_model.specs.Install.{Install}
use Rattle.pq_model.specs.Meaning.{Meaning}
use Rattle.pq_model.specs.Orders.{IsLawfulOrder}
use Rattle.pq_model.specs.SwitchMachine.{Tables, applies_all, in_order, sends}
use Rattle.pq_model.specs.Tagged.{TaggedPacket}
use Rattle.pq_model.specs.Topology.{Topology}
use Rattle.pq_layout.specs.Emission.{AreMessages, IsEmission}
use Rattle.pq_layout.specs.Leaves.{Departures}
use Rattle.pq_layout.specs.Messages.{ArrivingTrees, LeavingTrees}
use Rattle.pq_layout.specs.Sending.{said_by, sent_by}
use Rattle.pq_layout.specs.Tagging.{Tagging}
use Rattle.pq_headline.specs.LaidOut.{IsLaidOut}

-- whatever the tables of a switch held, once it has processed the messages in a lawful order it sends as the trees say
abbrev pub SendAsTrees : List Message → ArrivingTrees → LeavingTrees → Type 0
SendAsTrees ms first second =
    (before : Tables) (order : List Message) → IsLawfulOrder ms order → (x : TaggedPacket) → IsTagged x
    → sends (applies_all before order) x ≡ in_order (sent_by (said_by first None) (said_by second []) x)

-- the messages of a switch, with trees that it then sends by
pub record AreSending (T : Topology) (g : Tagging) (writes : Departures) (d : ℕ) (ms : List Message) : Type 0 where
  pub messages : AreMessages T g writes d ms
  pub send : SendAsTrees ms messages.first messages.second

-- those of all switches, in the topology's order
abbrev pub AllSend : Topology → Tagging → Departures → List (List Message) → Type 0
AllSend T g writes lists = AllZip (λ s ms. AreSending T g writes s.datapath ms) T.switches lists

-- the install of a meaning's departures and tags implements the meaning, where its switches send as their trees say
abbrev pub TablesImplement : Languages → Type 0
TablesImplement Ls =
    (T : Topology) (m : Meaning) (g : Tagging) (writes : Departures) (names : List (List ℕ)) (i : Install)
    → IsLaidOut T m Ls g writes → IsEmission T names writes g m.instances i → AllSend T g writes i.messages → Implements i m
