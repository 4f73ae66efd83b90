-- An install as JSON. A `member` gives an object a key, its value and the members that follow.
use Rattle.std.specs.Prelude.{ℕ, ◌/◌, ◌%◌, Bool, true, false, List, [], ◌∷◌, ◌++◌, map, length, filter, zip, codes}
use Rattle.std.specs.List.{flat_map}
use Rattle.std.specs.Char.{digit_char}
use Rattle.serde_json.specs.Data.{Data, number, unsigned, string, array, object, member, no_members}
use Rattle.serde_json.specs.View.{items_of}
use Rattle.serde_json.specs.Written.{compact_text}
use Rattle.pq_model.specs.declared.flow_mod.FlowCommand.{FlowCommand}
use Rattle.pq_model.specs.declared.flow_mod.FlowCommand.TheVariants.{Add as AddFlow, DeleteAll, DeleteStrict}
use Rattle.pq_model.specs.declared.group_mod.GroupCommand.{GroupCommand}
use Rattle.pq_model.specs.declared.group_mod.GroupCommand.TheVariants.{Add as AddGroup, Modify, Delete}
use Rattle.pq_model.specs.declared.message.Message.{Message}
use Rattle.pq_model.specs.declared.message.Message.TheVariants.{Flow, Group, Barrier}
use Rattle.pq_model.specs.Buckets.{Instance}
use Rattle.pq_model.specs.Topology.{Switch, Link}
use Rattle.pq_model.specs.TablesMachine.{Row}
use Rattle.pq_model.specs.Spelling.{message_bytes}
use Rattle.pq_model.specs.Install.{Install, link_numbers}

-- a number, in decimal
abbrev pub natural : ℕ → Data
natural n = number (unsigned n)

-- a list of what each value is shown as
abbrev pub list : {A : Type 0} → (A → Data) → List A → Data
list shown xs = array (items_of (map shown xs))

-- a link: the datapath number and the port of its first end, and of its second
abbrev pub link_data : Link → Data
link_data l = list natural (link_numbers l)

-- an instance of a query: its label and the query's index
abbrev pub pair_data : Instance → Data
pair_data i = object (
    member (codes "label") (list natural i.label) (
    member (codes "query") (natural i.query) no_members))

-- a row of the report
abbrev pub row_data : Row → Data
row_data row = object (
    member (codes "pairs") (list pair_data row.pairs) (
    member (codes "tag") (natural row.tag) no_members))

-- a byte as two lower-case hexadecimal digits
abbrev pub hexadecimal_byte : ℕ → List ℕ
hexadecimal_byte b = digit_char (b / 16) ∷ digit_char (b % 16) ∷ []

-- bytes, each as two digits
abbrev pub hexadecimal : List ℕ → List ℕ
hexadecimal bytes = flat_map hexadecimal_byte bytes

-- a message: its bytes in hexadecimal
abbrev pub message_data : Message → Data
message_data m = string (hexadecimal (message_bytes m))

-- the command adds an entry
abbrev pub is_adding_flow : FlowCommand → Bool
is_adding_flow AddFlow = true
is_adding_flow DeleteAll = false
is_adding_flow DeleteStrict = false

-- the message adds an entry
abbrev pub is_flow_add : Message → Bool
is_flow_add (Flow f) = is_adding_flow f.command
is_flow_add (Group g) = false
is_flow_add (Barrier xid) = false

-- the command adds a group
abbrev pub is_adding_group : GroupCommand → Bool
is_adding_group AddGroup = true
is_adding_group Modify = false
is_adding_group Delete = false

-- the message adds a group
abbrev pub is_group_add : Message → Bool
is_group_add (Flow f) = false
is_group_add (Group g) = is_adding_group g.command
is_group_add (Barrier xid) = false

-- how many pass the test
abbrev pub count : (Message → Bool) → List Message → ℕ
count test messages = length (filter test messages)

-- a switch and the messages to it
abbrev pub switch_data : Switch × List Message → Data
switch_data s = object (
    member (codes "datapath") (natural s.0.datapath) (
    member (codes "entries") (natural (count is_flow_add s.1)) (
    member (codes "groups") (natural (count is_group_add s.1)) (
    member (codes "messages") (list message_data s.1) (
    member (codes "ports") (list natural s.0.ports) no_members)))))

-- the switches, and beside them the messages to each
abbrev pub switches_data : List Switch → List (List Message) → Data
switches_data switches messages = list switch_data (zip switches messages)

-- an install, with the keys of each object in alphabetical order
unfoldable pub inspection : Install → Data
inspection i = object (
    member (codes "links") (list link_data i.topology.links) (
    member (codes "queries") (list string i.queries) (
    member (codes "report") (list row_data i.report) (
    member (codes "switches") (switches_data i.topology.switches i.messages) no_members))))

-- one line: the JSON without white space, and a line feed
abbrev pub inspection_text : Install → List ℕ
inspection_text i = compact_text (inspection i) ++ codes "\n"
