-- The rules of a control session: what each message of the switch makes of it, and what is sent
-- (OpenFlow 1.3.5, sections 7.1, 7.3.1, 7.3.8, 7.4.4 and 7.5).
use Rattle.std.specs.Prelude.{ℕ, ◌-◌, Bool, true, false, not, List, [], ◌∷◌, length, drop, take, slice_get, nat_lt, ◌==◌, ◌&&◌, ◌||◌, if◌then◌else◌}
use Rattle.std.specs.declared.option.Option.{Option}
use Rattle.std.specs.declared.option.Option.TheVariants.{None, Some}
use Rattle.std.specs.Int.{w16, w64, from_be_bytes}
use Rattle.std.specs.List.{flat_map}
use Rattle.pq_model.specs.declared.message.Message.{Message}
use Rattle.pq_model.specs.declared.message.Message.TheVariants.{Flow, Group, Barrier}
use Rattle.pq_model.specs.Spelling.{message_bytes, with_header}
use Rattle.pq_speaker.specs.declared.talk.Talk.{Talk}
use Rattle.pq_speaker.specs.declared.talk.Talk.TheVariants.{Greeting, Asking, Installing, Installed, Failed}
use Rattle.pq_speaker.specs.declared.talk.Reason.{Reason}
use Rattle.pq_speaker.specs.declared.talk.Reason.TheVariants.{BadVersion, BadLength, OtherSwitch, SwitchError}
use Rattle.pq_speaker.specs.declared.header.Header.{Header}
use Rattle.pq_speaker.specs.Division.{header_of}

-- Types of messages.

abbrev pub hello : ℕ
hello = 0

abbrev pub error : ℕ
error = 1

abbrev pub echo_request : ℕ
echo_request = 2

abbrev pub echo_reply : ℕ
echo_reply = 3

abbrev pub features_request : ℕ
features_request = 5

abbrev pub features_reply : ℕ
features_reply = 6

abbrev pub barrier_reply : ℕ
barrier_reply = 21

-- the version of OpenFlow 1.3
abbrev pub version_spoken : ℕ
version_spoken = 4

-- How far a session is.

abbrev pub is_greeting : Talk → Bool
is_greeting Greeting = true
is_greeting Asking = false
is_greeting Installing = false
is_greeting Installed = false
is_greeting (Failed r) = false

abbrev pub is_asking : Talk → Bool
is_asking Greeting = false
is_asking Asking = true
is_asking Installing = false
is_asking Installed = false
is_asking (Failed r) = false

abbrev pub is_installing : Talk → Bool
is_installing Greeting = false
is_installing Asking = false
is_installing Installing = true
is_installing Installed = false
is_installing (Failed r) = false

abbrev pub is_before_installed : Talk → Bool
is_before_installed Greeting = true
is_before_installed Asking = true
is_before_installed Installing = true
is_before_installed Installed = false
is_before_installed (Failed r) = false

abbrev pub has_failed : Talk → Bool
has_failed Greeting = false
has_failed Asking = false
has_failed Installing = false
has_failed Installed = false
has_failed (Failed r) = true

-- What is sent.

-- what the speaker sends after its HELLO: a question, an answer with this xid and body, or all messages of the install
pub data Reply : Type 0 where
  FeaturesRequest : Reply
  EchoReply : (xid : ℕ) (body : List ℕ) → Reply
  Install : Reply

abbrev pub reply_bytes : List Message → Reply → List ℕ
reply_bytes messages FeaturesRequest = with_header features_request 0 []
reply_bytes messages (EchoReply xid body) = with_header echo_reply xid body
reply_bytes messages Install = flat_map message_bytes messages

abbrev pub replies_bytes : List Message → List Reply → List ℕ
replies_bytes messages replies = flat_map (reply_bytes messages) replies

-- The rules.

-- the datapath number of the switch that is waited for, and the messages that install
pub record Session : Type 0 where
  pub datapath : ℕ
  pub messages : List Message

-- how far the session is after a message, and what is sent
pub record Effect : Type 0 where
  pub talk : Talk
  pub replies : List Reply

abbrev pub leads_to : Talk → Effect
leads_to talk = record { talk = talk; replies = [] }

abbrev pub fails : Reason → Effect
fails reason = leads_to (Failed reason)

-- a length below a header's, an ERROR without its type and code, and an answer to the question that isn't 32 bytes long
abbrev pub has_bad_length : Talk → Header → Bool
has_bad_length talk h =
    nat_lt h.length 8
    || (h.kind == error) && nat_lt h.length 12
    || (h.kind == features_reply) && is_asking talk && not (h.length == 32)

-- a HELLO counts once; what follows its header is passed over
abbrev pub greeted : Talk → ℕ → Effect
greeted talk version =
    if not (is_greeting talk) then leads_to talk
    else if nat_lt version version_spoken then fails (BadVersion version)
    else record { talk = Asking; replies = FeaturesRequest ∷ [] }

-- an ERROR counts before all is installed: type and code follow the header
abbrev pub refused : List ℕ → Effect
refused m = fails (SwitchError (from_be_bytes w16 (take 2 (drop 8 m))) (from_be_bytes w16 (take 2 (drop 10 m))))

-- the switch tells its datapath number
abbrev pub identified : Session → ℕ → Effect
identified s datapath =
    if not (datapath == s.datapath) then fails (OtherSwitch datapath)
    else record { talk = Installing; replies = Install ∷ [] }

abbrev pub is_barrier_of : ℕ → Message → Bool
is_barrier_of xid (Flow f) = false
is_barrier_of xid (Group g) = false
is_barrier_of xid (Barrier x) = x == xid

abbrev pub is_some_barrier_of : ℕ → Option Message → Bool
is_some_barrier_of xid None = false
is_some_barrier_of xid (Some m) = is_barrier_of xid m

-- whether the last message is the barrier with this xid
abbrev pub ends_with_barrier : ℕ → List Message → Bool
ends_with_barrier xid messages = is_some_barrier_of xid (slice_get messages (length messages - 1))

-- what a message of the spoken version does that is not a HELLO
abbrev pub spoken : Session → Talk → Header → List ℕ → Effect
spoken s talk h m =
    if h.kind == echo_request then record { talk = talk; replies = EchoReply h.xid (drop 8 m) ∷ [] }
    else if (h.kind == error) && is_before_installed talk then refused m
    else if (h.kind == features_reply) && is_asking talk then identified s (from_be_bytes w64 (take 8 (drop 8 m)))
    else if (h.kind == barrier_reply) && is_installing talk && ends_with_barrier h.xid s.messages then leads_to Installed
    else leads_to talk

-- what a message of the switch does: the first rule that fits counts, and a session that has failed does nothing more
abbrev pub effect : Session → Talk → List ℕ → Effect
effect s talk m =
    let h = header_of m in
    if has_failed talk then leads_to talk
    else if has_bad_length talk h then fails (BadLength h.length)
    else if h.kind == hello then greeted talk h.version
    else if not (h.version == version_spoken) then fails (BadVersion h.version)
    else spoken s talk h m
