-- What `speak` reads, and what it writes for that. Its text is a line with a length, an install of this many bytes, and what the switch sent.
use Rattle.std.specs.Prelude.{◌≡◌, ◌≢◌, ℕ, ◌+◌, ◌<◌, ◌≤◌, ◌⊎◌, Bool, true, false, List, [], ◌++◌, length, take, drop, position, nat_lt}
use Rattle.std.specs.Prelude.{is_none, ◌==◌, ◌&&◌, Option, Some, None}
use Rattle.std.specs.List.{list_any}
use Rattle.std.specs.Io.KnownBytes.{Appends, Consumes, IsAtEnd}
use Rattle.pq_io.specs.Pieces.{AppendsPart}
use Rattle.pq_term.specs.Numbers.{decimal_of}
use Rattle.pq_model.specs.declared.message.Message.{Message}
use Rattle.pq_model.specs.Install.{Install, IsSpelled, IsSpelledOld, messages_of}
use Rattle.pq_install.specs.Damage.{IsDamagedAt}
use Rattle.pq_install.specs.Reading.{IsInstallIn}
use Rattle.pq_speaker.specs.declared.talk.Talk.{Talk}
use Rattle.pq_speaker.specs.declared.talk.Talk.TheVariants as talk
use Rattle.pq_speaker.specs.Rules.{Session, has_failed, replies_bytes}
use Rattle.pq_speaker.specs.Speaking.{EndsWithOwnBarrier, State, heard, hello_bytes, opened}
use Rattle.pq_command.specs.declared.outcome.Outcome.{Outcome}
use Rattle.pq_command.specs.declared.outcome.Outcome.TheVariants.{Done, ReadFault, TooLong, Syntax, Damaged, NoSwitch, NoBarrier, Speaking, WriteFault, Memory}
use Rattle.pq_command.specs.declared.reading.Unread.{Unread}
use Rattle.pq_command.specs.declared.reading.Unread.TheVariants as unread
use Rattle.pq_command.specs.Answers.{Reads, Streams}
use Rattle.pq_command.specs.Reading.{install_limit, piece_size}

-- The line.

-- the place of a line feed among the first ten bytes
abbrev pub line_end : List ℕ → Option ℕ
line_end text = position (λ b. b == 10) (take 10 text)

-- the length that a line states, and what follows the line
pub record Stated : Type 0 where
  pub size : ℕ
  pub rest : List ℕ

abbrev pub stated_before : List ℕ → Option ℕ → Option Stated
stated_before rest None = None
stated_before rest (Some size) = Some (record { size = size; rest = rest })

abbrev pub stated_to : List ℕ → Option ℕ → Option Stated
stated_to text None = None
stated_to text (Some end) = stated_before (drop (end + 1) text) (decimal_of 999999999 (take end text))

-- a length of one to nine decimal digits without leading zeros, with a line feed after it, and what follows
abbrev pub stated : List ℕ → Option Stated
stated text = stated_to text (line_end text)

abbrev pub is_cut : List ℕ → Option Stated → Bool
is_cut text None = is_none (line_end text) && nat_lt (length text) 10
is_cut text (Some s) = nat_lt (length s.rest) s.size

-- the line has no line feed and fewer than ten bytes, or the install has fewer bytes than it states
abbrev pub needs_more : List ℕ → Bool
needs_more text = is_cut text (stated text)

-- The install.

-- the bytes are the install's spelling, or its old one
abbrev pub IsSpelling : Install → List ℕ → Type 0
IsSpelling i bytes = IsSpelled i bytes ⊎ IsSpelledOld i bytes

-- the install has a switch of this number
abbrev pub has_switch : ℕ → Install → Bool
has_switch datapath i = list_any (λ s. s.datapath == datapath) i.topology.switches

-- bytes that were to be an install of this length are damaged at the place, or a shorter install ends there
abbrev pub IsDamagedIn : ℕ → List ℕ → ℕ → Type 0
IsDamagedIn size bytes at = IsDamagedAt bytes at ⊎ ((i : Install) × IsInstallIn bytes i at × (at < size))

abbrev pub IsDamagedFor : ℕ → List ℕ → Outcome → Type 0
IsDamagedFor size bytes (Damaged at) = IsDamagedIn size bytes at
IsDamagedFor size bytes Memory = Unit {0}
IsDamagedFor size bytes outcome = ⊥

-- the switch that is waited for, and what is installed there
abbrev pub session_of : ℕ → List Message → Session
session_of datapath messages = record { datapath = datapath; messages = messages }

-- the text is a line with a length, an install of this length that has the switch, and what the switch sent; the messages to the switch end
-- with a barrier whose xid no other has
pub record IsOpened (datapath : ℕ) (text : List ℕ) (session : Session) (came : List ℕ) : Type 0 where
  pub install : Install
  pub bytes : List ℕ
  pub line : stated text ≡ Some (record { size = length bytes; rest = bytes ++ came })
  pub spelled : IsSpelling install bytes
  pub named : has_switch datapath install ≡ true
  pub messages : session ≡ session_of datapath (messages_of install datapath)
  pub ended : EndsWithOwnBarrier session.messages

-- the text begins with a line, after which there are these bytes in place of an install, as many as stated or all
abbrev pub Begins : List ℕ → (ℕ → List ℕ → Type 0) → Type 0
Begins text P = (s : Stated) × (stated text ≡ Some s) × P s.size (take s.size s.rest)

-- and these bytes are an install with this property
abbrev pub BeginsInstall : List ℕ → (Install → Type 0) → Type 0
BeginsInstall text P = Begins text (λ size bytes. (length bytes ≡ size) × (i : Install) × IsSpelling i bytes × P i)

-- why nothing is installed for a text
abbrev pub Bars : ℕ → Outcome → List ℕ → Type 0
Bars datapath (Syntax at) text = (at ≡ 0) × (stated text ≡ None)
Bars datapath (Damaged at) text = Begins text (λ size bytes. IsDamagedIn size bytes at)
Bars datapath NoSwitch text = BeginsInstall text (λ i. has_switch datapath i ≡ false)
Bars datapath NoBarrier text = BeginsInstall text (λ i. (has_switch datapath i ≡ true) × (EndsWithOwnBarrier (messages_of i datapath) → ⊥))
Bars datapath Memory text = Unit {0}
Bars datapath outcome text = ⊥

-- The session.

-- the speaker after what came from the switch, however it was cut
abbrev pub state_after : Session → List ℕ → State
state_after session came = (heard (opened session) came).state

abbrev pub talk_after : Session → List ℕ → Talk
talk_after session came = (state_after session came).talk

-- what a speaker sends for bytes
abbrev pub sends : State → List ℕ → List ℕ
sends s bytes = replies_bytes s.session.messages (heard s bytes).replies

-- all that is sent for what came: the HELLO, and the answers
abbrev pub said : Session → List ℕ → List ℕ
said session came = hello_bytes ++ sends (opened session) came

-- What was read.

-- a text, but for a last piece at the most, has this property
abbrev pub ButLast : List ℕ → (List ℕ → Type 0) → Type 0
ButLast text P = (before : List ℕ) × (last : List ℕ) × (text ≡ before ++ last) × (length last ≤ piece_size) × P before

-- no more was read than is needed for the line and the install: the last piece was needed, and it was enough or the input has ended
pub record IsReadEnough (rest : Option (List ℕ)) (text : List ℕ) : Type 0 where
  pub needed : ButLast text (λ before. needs_more before ≡ true)
  pub enough : (needs_more text ≡ false) ⊎ IsAtEnd rest

-- what was read of a line and an install, where reading stopped
abbrev pub IsUnread : Unread → List ℕ → Type 0
IsUnread unread.Failed text = (length text ≤ install_limit) × (needs_more text ≡ true)
IsUnread unread.TooLong text = (install_limit < length text) × ButLast text (λ before. (length before ≤ install_limit) × (needs_more before ≡ true))
IsUnread unread.Memory text = length text ≤ install_limit + piece_size

abbrev pub unread_outcome : Unread → Outcome
unread_outcome unread.Failed = ReadFault
unread_outcome unread.TooLong = TooLong
unread_outcome unread.Memory = Memory

-- What was put.

abbrev pub SaysNothing : Streams → Type 0
SaysNothing s = Appends s.before s.after []

-- all that is to be said for what came
abbrev pub SaysAll : Streams → Session → List ℕ → Type 0
SaysAll s session came = Appends s.before s.after (said session came)

-- a part of it: all but what is to be said for a last piece, and a part of that; or, where nothing came before this piece, a part of all
pub record SaysPart (s : Streams) (session : Session) (came : List ℕ) : Type 0 where
  pub before : List ℕ
  pub last : List ℕ
  pub count : ℕ
  pub pieces : came ≡ before ++ last
  pub short : length last ≤ piece_size
  pub put : Appends s.before s.after (take count (said session came))
  pub answered : (before ≡ []) ⊎ (length (said session before) ≤ count)

-- the text was read and more is to be read: its line or its install isn't whole and nothing was put, or all was put that is to be said for it
abbrev pub GoesOn : ℕ → Streams → List ℕ → Type 0
GoesOn datapath s text =
    ((needs_more text ≡ true) × SaysNothing s)
    ⊎ ((session : Session) × (came : List ℕ) × IsOpened datapath text session came × (has_failed (talk_after session came) ≡ false) × SaysAll s session came)

-- a session was opened with the text that was read, and has this property
abbrev pub Hears : ℕ → Streams → (Session → List ℕ → Type 0) → Type 0
Hears datapath s P = Reads s (λ text. (length text ≤ install_limit) × (session : Session) × (came : List ℕ)
    × IsOpened datapath text session came × P session came)

-- the input has ended, or the session failed with the last piece
abbrev pub IsLast : Option (List ℕ) → Session → List ℕ → Type 0
IsLast rest session came =
    (IsAtEnd rest × (has_failed (talk_after session came) ≡ false))
    ⊎ ((has_failed (talk_after session came) ≡ true) × ButLast came (λ before. has_failed (talk_after session before) ≡ false))

-- what each outcome says of the text that was read, and of what was put
abbrev pub IsSpeakAnswer : ℕ → Outcome → Streams → Type 0
IsSpeakAnswer datapath Done s = Hears datapath s (λ session came. IsAtEnd s.rest × (talk_after session came ≡ talk.Installed) × SaysAll s session came)
IsSpeakAnswer datapath (Speaking t) s =
    Hears datapath s (λ session came. IsLast s.rest session came × (t ≡ talk_after session came) × (t ≢ talk.Installed) × SaysAll s session came)
IsSpeakAnswer datapath WriteFault s = Hears datapath s (SaysPart s)
IsSpeakAnswer datapath Memory s = Reads s (λ text. (length text ≤ install_limit + piece_size) × SaysNothing s) ⊎ Hears datapath s (SaysPart s)
IsSpeakAnswer datapath ReadFault s = Reads s (λ text. (length text ≤ install_limit) × GoesOn datapath s text)
IsSpeakAnswer datapath TooLong s =
    Reads s (λ text. (install_limit < length text) × ButLast text (λ before. (length before ≤ install_limit) × GoesOn datapath s before))
IsSpeakAnswer datapath outcome s = Reads s (λ text. (length text ≤ install_limit) × IsReadEnough s.rest text × Bars datapath outcome text)

-- In the middle of a session.

-- the text was read, all was put that is to be said for it, and the session goes on
pub record IsUnderWay (datapath : ℕ) (s : Streams) (speaker : State) (text : List ℕ) : Type 0 where
  pub session : Session
  pub came : List ℕ
  pub read : Consumes s.left s.rest text
  pub opened : IsOpened datapath text session came
  pub state : speaker ≡ state_after session came
  pub put : SaysAll s session came
  pub going : has_failed speaker.talk ≡ false

-- a piece ends the session: it couldn't be answered as a whole, or the session has failed with it
abbrev pub IsTurnEnd : Talk → List ℕ → Outcome → Option (List ℕ) → Option (List ℕ) → Type 0
IsTurnEnd t sent WriteFault before after = AppendsPart before after sent
IsTurnEnd t sent Memory before after = AppendsPart before after sent
IsTurnEnd t sent (Speaking u) before after = (u ≡ t) × (has_failed u ≡ true) × Appends before after sent
IsTurnEnd t sent outcome before after = ⊥

-- how a session ends with its input
abbrev pub end_outcome : Talk → Outcome
end_outcome talk.Installed = Done
end_outcome t = Speaking t

-- Completeness.

-- the text opens a session, and the switch has then carried out what is installed
abbrev pub IsSpokenThrough : ℕ → List ℕ → Type 0
IsSpokenThrough datapath text = (session : Session) × (came : List ℕ) × IsOpened datapath text session came × (talk_after session came ≡ talk.Installed)
