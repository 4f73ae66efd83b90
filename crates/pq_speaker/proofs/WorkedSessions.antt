-- Sessions that were worked out by hand, compared with the definitions.
use Rattle.std.proofs.Common.{◌≡◌, ℕ, List, [], ◌∷◌, ◌++◌, replicate, refl}
use Rattle.pq_model.specs.declared.message.Message.TheVariants.{Barrier}
use Rattle.pq_model.specs.Spelling.{message_bytes, with_header}
use Rattle.pq_model.specs.SwitchMachine.{no_tables}
use Rattle.pq_speaker.specs.declared.talk.Talk.{Talk}
use Rattle.pq_speaker.specs.declared.talk.Talk.TheVariants.{Asking, Installing, Installed, Failed}
use Rattle.pq_speaker.specs.declared.talk.Reason.TheVariants.{BadVersion, BadLength, OtherSwitch, SwitchError}
use Rattle.pq_speaker.specs.Rules.{Session, replies_bytes}
use Rattle.pq_speaker.specs.Speaking.{Heard, heard, hello_bytes, opened}
use Rattle.pq_speaker.specs.World.{Event, Hear, Send, Take, World, run, start}

-- two barriers for the switch with datapath number 1
abbrev session : Session
session = record { datapath = 1; messages = Barrier 9 ∷ Barrier 10 ∷ [] }

abbrev after : List ℕ → Heard
after bytes = heard (opened session) bytes

abbrev talk_after : List ℕ → Talk
talk_after bytes = (after bytes).state.talk

abbrev waiting_after : List ℕ → List ℕ
waiting_after bytes = (after bytes).state.waiting

abbrev sent_after : List ℕ → List ℕ
sent_after bytes = replies_bytes session.messages (after bytes).replies

-- a header whose length and xid are below 256
abbrev header : (version kind length xid : ℕ) → List ℕ
header version kind length xid = version ∷ kind ∷ 0 ∷ length ∷ 0 ∷ 0 ∷ 0 ∷ xid ∷ []

-- HELLO; the answer of the switch with this datapath number; ERROR of type 5 and code 2; the answer to a barrier
abbrev greeting : ℕ → List ℕ
greeting version = header version 0 8 0

abbrev features : ℕ → List ℕ
features datapath = header 4 6 32 0 ++ 0 ∷ 0 ∷ 0 ∷ 0 ∷ 0 ∷ 0 ∷ 0 ∷ datapath ∷ replicate 16 0

abbrev error : List ℕ
error = header 4 1 12 0 ++ 0 ∷ 5 ∷ 0 ∷ 2 ∷ []

abbrev answer : ℕ → List ℕ
answer xid = header 4 21 8 xid

abbrev echo : List ℕ
echo = header 4 2 10 77 ++ 1 ∷ 2 ∷ []

abbrev asked : List ℕ
asked = greeting 4

abbrev installing : List ℕ
installing = greeting 4 ++ features 1

abbrev installed : List ℕ
installed = installing ++ answer 10

-- A session that installs.

hello-first : hello_bytes ≡ header 4 0 8 0
unfolding with_header
hello-first = refl

installs : talk_after installed ≡ Installed
installs = refl

sends : sent_after installed ≡ header 4 5 8 0 ++ header 4 20 8 9 ++ header 4 20 8 10
unfolding with_header message_bytes
sends = refl

-- the answer to another barrier is passed over
not-yet : talk_after (installing ++ answer 9) ≡ Installing
not-yet = refl

-- an answer counts only when the messages were sent
too-early : talk_after (asked ++ answer 10) ≡ Asking
too-early = refl

other-switch : talk_after (asked ++ features 7) ≡ Failed (OtherSwitch 7)
other-switch = refl

-- Versions.

version-1 : talk_after (greeting 1) ≡ Failed (BadVersion 1)
version-1 = refl

version-5 : talk_after (greeting 5) ≡ Asking
version-5 = refl

-- a later HELLO of any version is passed over
second-hello : talk_after (asked ++ greeting 1) ≡ Asking
second-hello = refl

-- no other message of another version is
echo-5 : talk_after (installing ++ header 5 2 8 0) ≡ Failed (BadVersion 5)
echo-5 = refl

-- Lengths.

-- seven bytes wait, and the eighth tells that their length is none
seven-bytes : waiting_after (4 ∷ 2 ∷ 0 ∷ 7 ∷ 0 ∷ 0 ∷ 0 ∷ []) ≡ 4 ∷ 2 ∷ 0 ∷ 7 ∷ 0 ∷ 0 ∷ 0 ∷ []
seven-bytes = refl

length-7 : talk_after (header 4 2 7 0) ≡ Failed (BadLength 7)
length-7 = refl

nothing-waits : waiting_after (header 4 2 7 0 ++ 1 ∷ []) ≡ []
nothing-waits = refl

length-11 : talk_after (installed ++ header 4 1 11 0) ≡ Failed (BadLength 11)
length-11 = refl

length-33 : talk_after (asked ++ header 4 6 33 0) ≡ Failed (BadLength 33)
length-33 = refl

-- another length counts in Asking alone
length-33-later : talk_after (installing ++ header 4 6 33 0) ≡ Installing
length-33-later = refl

-- ERROR and ECHO_REQUEST.

error-in-greeting : talk_after error ≡ Failed (SwitchError 5 2)
error-in-greeting = refl

error-in-installing : talk_after (installing ++ error) ≡ Failed (SwitchError 5 2)
error-in-installing = refl

error-in-installed : talk_after (installed ++ error) ≡ Installed
error-in-installed = refl

echo-in-greeting : sent_after echo ≡ header 4 3 10 77 ++ 1 ∷ 2 ∷ []
unfolding with_header
echo-in-greeting = refl

-- after a failure nothing is sent
echo-after-failure : sent_after (greeting 1 ++ echo) ≡ []
echo-after-failure = refl

-- With a switch.

abbrev until_sent : List Event
until_sent = Send (greeting 4) ∷ Hear 8 ∷ Send (features 1) ∷ Hear 5 ∷ Hear 27 ∷ []

abbrev with_switch : List Event → World
with_switch events = run (start session no_tables) events

switch-installs : (with_switch (until_sent ++ Take 0 ∷ Take 0 ∷ Hear 12 ∷ Hear 4 ∷ [])).speaker.talk ≡ Installed
unfolding with_header
switch-installs = refl

-- the second barrier doesn't pass the first
barrier-waits : (with_switch (until_sent ++ Take 1 ∷ [])).coming ≡ session.messages
barrier-waits = refl

-- an answer that no barrier asked for isn't sent
no-answer : (with_switch (until_sent ++ Send (answer 10) ∷ Hear 8 ∷ [])).speaker.talk ≡ Installing
no-answer = refl
