-- The speaker: its state, and what it makes of the bytes of a switch, in whatever pieces they come.
use Rattle.std.specs.Prelude.{◌≡◌, ℕ, Bool, true, false, not, List, [], ◌∷◌, ◌++◌, length, nat_le, ◌==◌, ◌&&◌, if◌then◌else◌}
use Rattle.std.specs.List.{list_any}
use Rattle.pq_model.specs.declared.message.Message.{Message}
use Rattle.pq_model.specs.declared.message.Message.TheVariants.{Flow, Group, Barrier}
use Rattle.pq_model.specs.Spelling.{with_header}
use Rattle.pq_speaker.specs.declared.talk.Talk.{Talk}
use Rattle.pq_speaker.specs.declared.talk.Talk.TheVariants.{Greeting, Failed}
use Rattle.pq_speaker.specs.declared.talk.Reason.TheVariants.{BadLength}
use Rattle.pq_speaker.specs.Division.{Division, divided, header_of, uncut}
use Rattle.pq_speaker.specs.Rules.{Session, Effect, Reply, effect, has_bad_length, has_failed, hello}

-- a session, how far it is, and the bytes that wait since they are not whole message
pub record State : Type 0 where
  pub session : Session
  pub talk : Talk
  pub waiting : List ℕ

-- the state of a new speaker, and the HELLO that it sends first
abbrev pub opened : Session → State
opened session = record { session = session; talk = Greeting; waiting = [] }

abbrev pub hello_bytes : List ℕ
hello_bytes = with_header hello 0 []

-- messages in turn
abbrev pub effects : Session → Talk → List (List ℕ) → Effect
effects s talk [] = record { talk = talk; replies = [] }
effects s talk (m ∷ ms) =
    let first = effect s talk m in
    let others = effects s first.talk ms in
    record { talk = others.talk; replies = first.replies ++ others.replies }

-- a bad length counts as soon as the header is there
abbrev pub foreseen : Talk → List ℕ → Talk
foreseen talk rest =
    if not (has_failed talk) && nat_le 8 (length rest) && has_bad_length talk (header_of rest)
    then Failed (BadLength (header_of rest).length)
    else talk

-- after a failure no byte waits
abbrev pub kept : Talk → List ℕ → List ℕ
kept talk rest = if has_failed talk then [] else rest

pub record Heard : Type 0 where
  pub state : State
  pub replies : List Reply

abbrev pub heard_of : Session → Talk → Division → Heard
heard_of s talk d =
    let after = effects s talk d.messages in
    let last = foreseen after.talk d.rest in
    record { state = record { session = s; talk = last; waiting = kept last d.rest }; replies = after.replies }

-- what the speaker makes of more bytes
abbrev pub heard : State → List ℕ → Heard
heard s bytes = heard_of s.session s.talk (divided s.waiting bytes)

-- Conditions.

abbrev pub xid_of : Message → ℕ
xid_of (Flow f) = f.xid
xid_of (Group g) = g.xid
xid_of (Barrier xid) = xid

abbrev pub has_xid : ℕ → Message → Bool
has_xid xid m = xid_of m == xid

-- the last message is a barrier whose xid no other has
pub record EndsWithOwnBarrier (messages : List Message) : Type 0 where
  pub front : List Message
  pub xid : ℕ
  pub ended : messages ≡ front ++ Barrier xid ∷ []
  pub own : list_any (has_xid xid) front ≡ false

-- of each speaker: no whole message waits, and after a failure nothing does
pub record IsState (s : State) : Type 0 where
  pub cut : divided [] s.waiting ≡ uncut s.waiting
  pub failed : has_failed s.talk ≡ true → s.waiting ≡ []

-- Laws.

abbrev pub PiecesAreHeardAsOne : Type 0
PiecesAreHeardAsOne =
    (s : State) (first second : List ℕ)
    → ((heard s (first ++ second)).state ≡ (heard (heard s first).state second).state)
    × ((heard s (first ++ second)).replies ≡ (heard s first).replies ++ (heard (heard s first).state second).replies)
