-- The frames that a session writes. All numbers are big-endian.
use Rattle.std.specs.Prelude.{ℕ, List, ◌∷◌, ◌++◌, length}
use Rattle.std.specs.Int.{w16, w64, to_be_bytes}
use Rattle.std.specs.List.{flat_map}
use Rattle.pq_model.specs.declared.message.Message.{Message}
use Rattle.pq_model.specs.Install.{Install, list_bytes, spelling}
use Rattle.pq_command.specs.declared.outcome.Outcome.{Outcome}
use Rattle.pq_command.specs.Outcomes.{line_of}

-- a frame: the byte of its kind, the length of its content in eight bytes, and its content
abbrev pub frame : ℕ → List ℕ → List ℕ
frame kind content = kind ∷ (to_be_bytes w64 (length content) ++ content)

-- of kind `I`: an install
abbrev pub install_frame : Install → List ℕ
install_frame i = frame 73 (spelling i)

-- the datapath number of a switch, and the messages to it with their number
abbrev pub change_bytes : ℕ × List Message → List ℕ
change_bytes c = to_be_bytes w64 c.0 ++ list_bytes c.1

-- the switches whose tables change, with their number
abbrev pub changes_bytes : List (ℕ × List Message) → List ℕ
changes_bytes changed = to_be_bytes w16 (length changed) ++ flat_map change_bytes changed

-- of kind `M`: what changes the tables
abbrev pub change_frame : List (ℕ × List Message) → List ℕ
change_frame changed = frame 77 (changes_bytes changed)

-- of kind `R`: the line of a refusal
abbrev pub refusal_frame : Outcome → List ℕ
refusal_frame outcome = frame 82 (line_of outcome)
