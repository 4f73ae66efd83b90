-- A speaker and its switch: the messages on their way to the switch, the switch's tables, and the bytes on their way back.
use Rattle.std.specs.Prelude.{◌≡◌, ℕ, Bool, true, false, not, All, List, [], ◌∷◌, ◌++◌, length, take, drop, nat_lt, ◌==◌, ◌&&◌, ◌||◌, if◌then◌else◌}
use Rattle.std.specs.declared.option.Option.{Option}
use Rattle.std.specs.declared.option.Option.TheVariants.{None, Some}
use Rattle.std.specs.List.{flat_map, list_any}
use Rattle.pq_model.specs.declared.message.Message.{Message}
use Rattle.pq_model.specs.declared.message.Message.TheVariants.{Flow, Group, Barrier}
use Rattle.pq_model.specs.Lawful.{IsLawfulMessage}
use Rattle.pq_model.specs.Orders.{AreSame, IsLawfulOrder}
use Rattle.pq_model.specs.Renewal.{Renewal, IsRenewing, renewal_messages}
use Rattle.pq_model.specs.Spelling.{with_header}
use Rattle.pq_model.specs.SwitchMachine.{Tables, applies, applies_all, no_tables}
use Rattle.pq_speaker.specs.declared.talk.Talk.TheVariants.{Installed}
use Rattle.pq_speaker.specs.Division.{header_of, is_whole}
use Rattle.pq_speaker.specs.Rules.{Session, Reply, FeaturesRequest, EchoReply, Install, barrier_reply}
use Rattle.pq_speaker.specs.Speaking.{State, EndsWithOwnBarrier, heard, opened}

-- the speaker's state, the switch's tables, the install messages that were sent and not processed, and the bytes that were not heard
pub record World : Type 0 where
  pub speaker : State
  pub tables : Tables
  pub coming : List Message
  pub unheard : List ℕ

-- the switch processes the message at a place, or sends a message of its own; the speaker hears this many bytes
pub data Event : Type 0 where
  Take : (place : ℕ) → Event
  Send : (message : List ℕ) → Event
  Hear : (count : ℕ) → Event

-- Take.

abbrev pub is_barrier : Message → Bool
is_barrier (Flow f) = false
is_barrier (Group g) = false
is_barrier (Barrier xid) = true

-- a message, and the others without it
pub record Taken : Type 0 where
  pub message : Message
  pub others : List Message

-- the first message after others may be processed before them if none of them is a barrier, and a barrier only if there are none
abbrev pub taken_after : List Message → List Message → Option Taken
taken_after front [] = None
taken_after front (m ∷ back) =
    if list_any is_barrier front || (is_barrier m && nat_lt 0 (length front))
    then None
    else Some (record { message = m; others = front ++ back })

-- the message at a place, if the switch may process it
abbrev pub taken_at : ℕ → List Message → Option Taken
taken_at place ms = taken_after (take place ms) (drop place ms)

-- a barrier is answered with its xid
abbrev pub answer_to : Message → List ℕ
answer_to (Flow f) = []
answer_to (Group g) = []
answer_to (Barrier xid) = with_header barrier_reply xid []

abbrev pub processes : World → Option Taken → World
processes w None = w
processes w (Some t) = record {
  speaker = w.speaker;
  tables = applies w.tables t.message;
  coming = t.others;
  unheard = w.unheard ++ answer_to t.message;
}

-- Send and Hear.

-- a whole message that is not a BARRIER_REPLY
abbrev pub is_own : List ℕ → Bool
is_own m = is_whole m && not ((header_of m).kind == barrier_reply)

abbrev pub sends_own : World → List ℕ → World
sends_own w m = if is_own m then record w { unheard = w.unheard ++ m } else w

-- the install messages among what the speaker sends
abbrev pub installed_by : List Message → Reply → List Message
installed_by messages FeaturesRequest = []
installed_by messages (EchoReply xid body) = []
installed_by messages Install = messages

abbrev pub hears : World → ℕ → World
hears w count =
    let h = heard w.speaker (take count w.unheard) in
    record {
      speaker = h.state;
      tables = w.tables;
      coming = w.coming ++ flat_map (installed_by w.speaker.session.messages) h.replies;
      unheard = drop count w.unheard;
    }

-- Runs.

-- what an event makes of the world; one that names no message that may be processed, or what the switch may not send, changes nothing
abbrev pub next : World → Event → World
next w (Take place) = processes w (taken_at place w.coming)
next w (Send m) = sends_own w m
next w (Hear count) = hears w count

abbrev pub run : World → List Event → World
run w [] = w
run w (e ∷ es) = run (next w e) es

-- a new speaker and a switch with any tables
abbrev pub start : Session → Tables → World
start session tables = record { speaker = opened session; tables = tables; coming = []; unheard = [] }

abbrev pub message_taken : Option Taken → List Message
message_taken None = []
message_taken (Some t) = t.message ∷ []

-- the message that the switch processes in an event
abbrev pub processed_in : World → Event → List Message
processed_in w (Take place) = message_taken (taken_at place w.coming)
processed_in w (Send m) = []
processed_in w (Hear count) = []

-- the messages that the switch processes, in this order
abbrev pub processed : World → List Event → List Message
processed w [] = []
processed w (e ∷ es) = processed_in w e ++ processed (next w e) es

-- Laws.

-- where the speaker says Installed, the switch has processed all the messages, in a lawful order
abbrev pub InstalledMeansProcessed : Type 0
InstalledMeansProcessed =
    (s : Session) → All IsLawfulMessage s.messages → EndsWithOwnBarrier s.messages
    → (before : Tables) (events : List Event) → (run (start s before) events).speaker.talk ≡ Installed
    → IsLawfulOrder s.messages (processed (start s before) events)
    × ((run (start s before) events).tables ≡ applies_all before (processed (start s before) events))

-- if the messages renew tables, the switch's are then those that the messages leave in empty tables, whatever it held before
abbrev pub RenewalsAreInstalled : Type 0
RenewalsAreInstalled =
    (s : Session) (r : Renewal) → All IsLawfulMessage s.messages → EndsWithOwnBarrier s.messages
    → s.messages ≡ renewal_messages r → IsRenewing r
    → (before : Tables) (events : List Event) → (run (start s before) events).speaker.talk ≡ Installed
    → AreSame (applies_all no_tables s.messages) (run (start s before) events).tables
