-- Why no message is read.
use Rattle.std.specs.Prelude.{◌≡◌, ℕ, List}
use Rattle.pq_model.specs.declared.message.Message.{Message}
use Rattle.pq_model.specs.Lawful.{IsLawfulMessage}
use Rattle.pq_model.specs.Spelling.{message_bytes}
use Rattle.pq_oxm.specs.Standing.{StandsAt}
use Rattle.pq_flowmod.specs.declared.reading.MessageFault.{MessageFault}
use Rattle.pq_flowmod.specs.declared.reading.MessageFault.TheVariants.{BadMessage, Memory}

-- no lawful message is spelled at the place
abbrev pub HasNoMessageAt : List ℕ → ℕ → Type 0
HasNoMessageAt bytes at = (m : Message) → IsLawfulMessage m → StandsAt bytes at (message_bytes m) → ⊥

-- a message is refused at its place where none is spelled there, or because memory runs out
abbrev pub IsMessageFault : List ℕ → ℕ → MessageFault → Type 0
IsMessageFault bytes at (BadMessage place) = (place ≡ at) × HasNoMessageAt bytes at
IsMessageFault bytes at Memory = Unit {0}
