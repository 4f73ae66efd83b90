-- The words that name a command.
use Rattle.std.specs.Prelude.{ℕ, ◌-◌, ◌^◌, List, [], ◌∷◌, codes, bytes_eq, nat_lt, if◌then◌else◌, Option, Some, None}
use Rattle.pq_term.specs.Numbers.{decimal_of}
use Rattle.pq_command.specs.declared.words.Command.{Command}
use Rattle.pq_command.specs.declared.words.Command.TheVariants.{Compile, Session, Replay, Inspect, Summary, SummaryOf, Generate, Speak}

-- the command that is one word
abbrev pub command_named : List ℕ → Option Command
command_named word =
    if bytes_eq word (codes "compile") then Some Compile
    else (if bytes_eq word (codes "session") then Some Session
    else (if bytes_eq word (codes "replay") then Some Replay
    else (if bytes_eq word (codes "inspect") then Some Inspect
    else (if bytes_eq word (codes "summary") then Some Summary
    else None))))

-- a number that is not below another
abbrev pub not_below : ℕ → Option ℕ → Option ℕ
not_below least None = None
not_below least (Some n) = if nat_lt n least then None else Some n

-- a number of switches: a decimal number from 2 to 64 without leading zeros
abbrev pub size_of : List ℕ → Option ℕ
size_of word = not_below 2 (decimal_of 64 word)

-- the command that is a word and a number of switches
abbrev pub command_on : List ℕ → Option ℕ → Option Command
command_on word None = None
command_on word (Some n) =
    if bytes_eq word (codes "summary") then Some (SummaryOf n)
    else (if bytes_eq word (codes "generate") then Some (Generate n)
    else None)

-- the command that waits for the switch with a datapath number
abbrev pub command_for : Option ℕ → Option Command
command_for None = None
command_for (Some datapath) = Some (Speak datapath)

-- the command that is two words: `speak` has a decimal number of 64 bits without leading zeros, the others a number of switches
abbrev pub command_with : List ℕ → List ℕ → Option Command
command_with word number = if bytes_eq word (codes "speak") then command_for (decimal_of (2 ^ 64 - 1) number) else command_on word (size_of number)

-- the command that the words have the form of
abbrev pub command_of : List (List ℕ) → Option Command
command_of [] = None
command_of (word ∷ []) = command_named word
command_of (word ∷ number ∷ []) = command_with word number
command_of (word ∷ number ∷ next ∷ words) = None
