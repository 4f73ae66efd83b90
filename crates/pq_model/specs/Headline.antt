-- The headline: installed tables move and capture packets as a document's meaning says, and in no other way.
use Rattle.std.specs.Prelude.{◌≡◌, ℕ, List, map}
use Rattle.std.specs.declared.option.Option.TheVariants.{None}
use Rattle.pq_fields.specs.Packet.{Numbers}
use Rattle.pq_model.specs.declared.event.Event.{Event}
use Rattle.pq_model.specs.declared.message.Message.{Message}
use Rattle.pq_model.specs.Tagged.{TaggedPacket}
use Rattle.pq_model.specs.Events.{IsSchedule}
use Rattle.pq_model.specs.Meaning.{Meaning, MeaningState, at_rest, item_packet, run}
use Rattle.pq_model.specs.SwitchMachine.{Tables, applies_all}
use Rattle.pq_model.specs.TablesMachine.{TablesState, nothing_sent, run_sending, sends_by}
use Rattle.pq_model.specs.Orders.{IsLawfulOrder}
use Rattle.pq_model.specs.Install.{Install, messages_of}

-- a packet without a VLAN header
abbrev pub plain : Numbers → TaggedPacket
plain x = record { packet = x; vlan = None }

-- the flights have the same packets, tags forgotten; the deliveries are equal, and none has a VLAN header; the buckets are equal
pub record Agree (m : MeaningState) (t : TablesState) : Type 0 where
  pub flight : map (λ x. x.packet) t.flight ≡ map item_packet m.flight
  pub delivered : t.delivered ≡ map plain m.delivered
  pub buckets : t.buckets ≡ m.buckets

-- the tables of each switch once it has processed its messages
abbrev pub installed : (ℕ → Tables) → (ℕ → List Message) → ℕ → Tables
installed before order d = applies_all (before d) (order d)

-- whatever the tables held, in whatever lawful order each switch processes its messages, every schedule leaves both machines in agreement
abbrev pub Implements : Install → Meaning → Type 0
Implements i m =
    (before : ℕ → Tables) (order : ℕ → List Message) → ((d : ℕ) → IsLawfulOrder (messages_of i d) (order d)) →
    (events : List Event) → IsSchedule events →
    Agree (run m at_rest events) (run_sending i.topology i.report (sends_by (installed before order)) nothing_sent events)
