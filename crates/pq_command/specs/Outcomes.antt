-- What the program says of an outcome.
use Rattle.std.specs.Prelude.{ℕ, List, [], ◌++◌, codes, decimal}
use Rattle.pq_fields.specs.Names.{field_name}
use Rattle.pq_speaker.specs.declared.talk.Talk.{Talk}
use Rattle.pq_speaker.specs.declared.talk.Talk.TheVariants.{Greeting, Asking, Installing, Installed, Failed}
use Rattle.pq_speaker.specs.declared.talk.Reason.{Reason}
use Rattle.pq_speaker.specs.declared.talk.Reason.TheVariants.{BadVersion, BadLength, OtherSwitch, SwitchError}
use Rattle.pq_topo.specs.declared.fault.NameKind.{NameKind}
use Rattle.pq_topo.specs.declared.fault.NameKind.TheVariants.{Many, Doubled, BadValue, UnknownSwitch, UnknownPort, UnknownField}
use Rattle.pq_topo.specs.declared.fault.NameKind.TheVariants.{NotWritable, NotListed, UnknownPart, UnknownQuery}
use Rattle.pq_command.specs.declared.outcome.Outcome.{Outcome}
use Rattle.pq_command.specs.declared.outcome.Outcome.TheVariants.{Done, Words, ReadFault, TooLong, Lex, Syntax, Name, ValuesFull}
use Rattle.pq_command.specs.declared.outcome.Outcome.TheVariants.{InstancesFull, TagWidth, TableFull, GroupFull, Damaged, NoSwitch}
use Rattle.pq_command.specs.declared.outcome.Outcome.TheVariants.{NoBarrier, Speaking, SessionFull, ScheduleFull, WriteFault, Memory}

-- the status of each outcome
abbrev pub code_of : Outcome → ℕ
code_of Done = 0
code_of Words = 2
code_of ReadFault = 4
code_of TooLong = 1
code_of (Lex at) = 1
code_of (Syntax at) = 1
code_of (Name at kind) = 1
code_of (ValuesFull field count) = 3
code_of (InstancesFull count) = 3
code_of (TagWidth classes) = 3
code_of (TableFull switch table entries) = 3
code_of (GroupFull switch copies) = 3
code_of (Damaged at) = 1
code_of NoSwitch = 1
code_of NoBarrier = 1
code_of (Speaking talk) = 3
code_of SessionFull = 3
code_of ScheduleFull = 3
code_of WriteFault = 5
code_of Memory = 6

-- the word of each naming rule
abbrev pub kind_word : NameKind → List ℕ
kind_word Many = codes "many"
kind_word Doubled = codes "doubled"
kind_word BadValue = codes "bad_value"
kind_word UnknownSwitch = codes "unknown_switch"
kind_word UnknownPort = codes "unknown_port"
kind_word UnknownField = codes "unknown_field"
kind_word NotWritable = codes "not_writable"
kind_word NotListed = codes "not_listed"
kind_word UnknownPart = codes "unknown_part"
kind_word UnknownQuery = codes "unknown_query"

-- the line of each reason why a session failed
abbrev pub reason_line : Reason → List ℕ
reason_line (BadVersion version) = codes "bad version " ++ decimal version
reason_line (BadLength length) = codes "bad length " ++ decimal length
reason_line (OtherSwitch datapath) = codes "other switch " ++ decimal datapath
reason_line (SwitchError kind code) = codes "switch error " ++ decimal kind ++ codes " " ++ decimal code

-- the line of how far a session is
abbrev pub talk_line : Talk → List ℕ
talk_line Greeting = codes "greeting"
talk_line Asking = codes "asking"
talk_line Installing = codes "installing"
talk_line Installed = codes "installed"
talk_line (Failed reason) = reason_line reason

-- the line of each outcome
abbrev pub line_of : Outcome → List ℕ
line_of Done = []
line_of Words = codes "words"
line_of ReadFault = codes "read fault"
line_of TooLong = codes "too long"
line_of (Lex at) = codes "lex " ++ decimal at
line_of (Syntax at) = codes "syntax " ++ decimal at
line_of (Name at kind) = codes "name " ++ decimal at ++ codes " " ++ kind_word kind
line_of (ValuesFull field count) = codes "values full " ++ field_name field ++ codes " " ++ decimal count
line_of (InstancesFull count) = codes "instances full " ++ decimal count
line_of (TagWidth classes) = codes "tag width " ++ decimal classes
line_of (TableFull switch table entries) = codes "table full " ++ decimal switch ++ codes " " ++ decimal table ++ codes " " ++ decimal entries
line_of (GroupFull switch copies) = codes "group full " ++ decimal switch ++ codes " " ++ decimal copies
line_of (Damaged at) = codes "damaged " ++ decimal at
line_of NoSwitch = codes "no switch"
line_of NoBarrier = codes "no barrier"
line_of (Speaking talk) = talk_line talk
line_of SessionFull = codes "session full"
line_of ScheduleFull = codes "schedule full"
line_of WriteFault = codes "write fault"
line_of Memory = codes "memory"
