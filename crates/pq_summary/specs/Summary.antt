-- A summary: how large a network's document and its install are.
use Rattle.std.specs.Prelude.{ℕ, List, ◌++◌, length, sum_by, codes, decimal}
use Rattle.pq_model.specs.Install.{Install, port_count, spelling}
use Rattle.pq_inspect.specs.Inspection.{count, is_flow_add, is_group_add}
use Rattle.pq_summary.specs.declared.summary.Counts.{Counts}
use Rattle.pq_summary.specs.declared.summary.Summary.{Summary}

-- a word, a space and a decimal number
abbrev pub line : List ℕ → ℕ → List ℕ
line word n = word ++ (codes " " ++ (decimal n ++ codes "\n"))

-- the eleven lines
unfoldable pub summary_text : Summary → List ℕ
summary_text s =
    line (codes "switches") s.switches
    ++ line (codes "ports") s.ports
    ++ line (codes "links") s.links
    ++ line (codes "parts") s.parts
    ++ line (codes "queries") s.queries
    ++ line (codes "instances") s.instances
    ++ line (codes "classes") s.classes
    ++ line (codes "entries") s.entries
    ++ line (codes "groups") s.groups
    ++ line (codes "messages") s.messages
    ++ line (codes "bytes") s.bytes

-- what is counted of a document, and of its install: entries are flow mods that add, groups are group mods that add, and bytes are
-- those of the install's spelling
unfoldable pub summary_of : Counts → Install → Summary
summary_of c i = record {
  switches = length i.topology.switches;
  ports = port_count i.topology.switches;
  links = length i.topology.links;
  parts = c.parts;
  queries = c.queries;
  instances = c.instances;
  classes = c.classes;
  entries = sum_by (count is_flow_add) i.messages;
  groups = sum_by (count is_group_add) i.messages;
  messages = sum_by length i.messages;
  bytes = length (spelling i);
}
