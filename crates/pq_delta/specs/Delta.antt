-- The messages that turn the tables of one install into those of another.
use Rattle.std.specs.Prelude.{ℕ, ◌^◌, ◌<◌, List, [], ◌∷◌, length, ◌==◌, if◌then◌else◌}
use Rattle.std.specs.List.{AllByRecursion}
use Rattle.pq_model.specs.declared.message.Message.{Message}
use Rattle.pq_model.specs.Install.{Install}
use Rattle.pq_model.specs.Topology.{Switch}
use Rattle.pq_delta.specs.Changes.{Changes, amount, change_messages, changes}

-- no messages where nothing changes
abbrev pub messages_for : Changes → List Message
messages_for c = if amount c == 0 then [] else change_messages c

-- the messages that turn the tables that old messages leave into those that new ones leave
unfoldable pub switch_delta : List Message → List Message → List Message
switch_delta old new = messages_for (changes old new)

-- a switch and its messages, where there are any
abbrev pub with_switch : ℕ → List Message → List (ℕ × List Message) → List (ℕ × List Message)
with_switch datapath [] rest = rest
with_switch datapath (m ∷ ms) rest = (datapath, m ∷ ms) ∷ rest

abbrev pub deltas : List Switch → List (List Message) → List (List Message) → List (ℕ × List Message)
deltas [] olds news = []
deltas (s ∷ ss) [] news = []
deltas (s ∷ ss) (old ∷ olds) [] = []
deltas (s ∷ ss) (old ∷ olds) (new ∷ news) = with_switch s.datapath (switch_delta old new) (deltas ss olds news)

-- for each switch whose tables change, in the topology's order, its datapath number and its messages
abbrev pub delta : Install → Install → List (ℕ × List Message)
delta old new = deltas new.topology.switches old.messages new.messages

-- fewer messages to each switch than four bytes can count
abbrev pub AreShort : List (ℕ × List Message) → Type 0
AreShort ds = AllByRecursion (λ p. length p.1 < 2 ^ 32) ds
