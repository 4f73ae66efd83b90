-- An install: what is written for a network, its rules, and its bytes. All numbers are big-endian.
use Rattle.std.specs.Prelude.{◌≡◌, ◌≢◌, ℕ, ◌^◌, ◌<◌, ◌≤◌, List, [], ◌∷◌, ◌++◌, map, length, All, sum_by, ◌==◌, ◌&&◌, IsTrue, bytes_eq, if◌then◌else◌}
use Rattle.std.specs.declared.option.Option.TheVariants.{None, Some}
use Rattle.std.specs.Int.{w16, w32, w64, to_be_bytes}
use Rattle.std.specs.List.{flat_map, IsDistinct}
use Rattle.pq_term.specs.Names.{is_name}
use Rattle.pq_fields.specs.Packet.{is_before}
use Rattle.pq_model.specs.declared.message.Message.{Message}
use Rattle.pq_model.specs.declared.message.Message.TheVariants.{Flow, Group, Barrier}
use Rattle.pq_model.specs.MatchFields.{MatchFields, IsPortNumber}
use Rattle.pq_model.specs.Topology.{Switch, Link, Topology, is_port}
use Rattle.pq_model.specs.Buckets.{Instance, instance_numbers}
use Rattle.pq_model.specs.TablesMachine.{Row, Report}
use Rattle.pq_model.specs.Spelling.{message_bytes}
use Rattle.pq_model.specs.Lawful.{Ascends, IsLawfulMessage}
use Rattle.pq_fields.specs.declared.protocols.TheConstants.{IPV6}

-- the topology, the names of the queries, the report, and the messages of each switch in the topology's order
pub record Install : Type 0 where
  pub topology : Topology
  pub queries : List (List ℕ)
  pub report : Report
  pub messages : List (List Message)

abbrev pub messages_in : List Switch → List (List Message) → ℕ → List Message
messages_in [] lists d = []
messages_in (s ∷ ss) [] d = []
messages_in (s ∷ ss) (ms ∷ lists) d = if s.datapath == d then ms else messages_in ss lists d

-- the messages of the switch with this datapath number
abbrev pub messages_of : Install → ℕ → List Message
messages_of i d = messages_in i.topology.switches i.messages d

-- Rules.

-- the keys of values ascend
abbrev pub AscendsBy : {A : Type 0} → (A → List ℕ) → List A → Type 0
AscendsBy key [] = Unit {0}
AscendsBy key (x ∷ []) = Unit {0}
AscendsBy key (x ∷ y ∷ zs) = IsTrue (is_before (key x) (key y)) × AscendsBy key (y ∷ zs)

abbrev pub IsLawfulSwitch : Switch → Type 0
IsLawfulSwitch s = (s.datapath < 2 ^ 64) × (s.ports ≢ []) × Ascends s.ports × All IsPortNumber s.ports

abbrev pub port_count : List Switch → ℕ
port_count switches = sum_by (λ s. length s.ports) switches

abbrev pub end_numbers : ℕ × ℕ → List ℕ
end_numbers e = e.0 ∷ e.1 ∷ []

abbrev pub link_numbers : Link → List ℕ
link_numbers l = end_numbers l.first ++ end_numbers l.second

-- both ends are ports, and the first is the smaller
abbrev pub IsLawfulLink : Topology → Link → Type 0
IsLawfulLink t l = IsTrue (is_port t l.first.0 l.first.1) × IsTrue (is_port t l.second.0 l.second.1)
    × IsTrue (is_before (end_numbers l.first) (end_numbers l.second))

-- all ends of links
abbrev pub ends_of : List Link → List (ℕ × ℕ)
ends_of links = flat_map (λ l. l.first ∷ l.second ∷ []) links

-- at most 256 switches by ascending datapath numbers, at most 4,096 ports in all, and links in ascending order with no port in two
pub record IsLawfulTopology (t : Topology) : Type 0 where
  pub few_switches : length t.switches ≤ 256
  pub few_ports : port_count t.switches ≤ 4096
  pub switches : All IsLawfulSwitch t.switches
  pub ascending : Ascends (map (λ s. s.datapath) t.switches)
  pub links : All (IsLawfulLink t) t.links
  pub linked_once : IsDistinct (λ d e. (d.0 == e.0) && (d.1 == e.1)) (ends_of t.links)
  pub links_ascend : AscendsBy link_numbers t.links

abbrev pub IsLawfulPair : ℕ → Instance → Type 0
IsLawfulPair queries i = (i.query < queries) × (length i.label < 2 ^ 32) × All (λ v. v < 2 ^ 64) i.label

abbrev pub IsLawfulRow : ℕ → Row → Type 0
IsLawfulRow queries row = (1 ≤ row.tag) × (row.tag ≤ 4094) × (row.pairs ≢ []) × (length row.pairs < 2 ^ 16)
    × All (IsLawfulPair queries) row.pairs × AscendsBy instance_numbers row.pairs

abbrev pub IsLawfulList : List Message → Type 0
IsLawfulList ms = (length ms < 2 ^ 32) × All IsLawfulMessage ms

-- the rules of an install; names of switches and limits are not part of its bytes
pub record IsLawfulInstall (i : Install) : Type 0 where
  pub topology : IsLawfulTopology i.topology
  pub few_queries : length i.queries ≤ 256
  pub names : All (λ name. IsTrue (is_name name)) i.queries
  pub names_differ : IsDistinct bytes_eq i.queries
  pub rows : All (IsLawfulRow (length i.queries)) i.report
  pub tags_ascend : Ascends (map (λ row. row.tag) i.report)
  pub listed : length i.messages ≡ length i.topology.switches
  pub messages : All IsLawfulList i.messages

-- Bytes.

abbrev pub switch_bytes : Switch → List ℕ
switch_bytes s = to_be_bytes w64 s.datapath ++ to_be_bytes w16 (length s.ports) ++ flat_map (to_be_bytes w32) s.ports

abbrev pub end_bytes : ℕ × ℕ → List ℕ
end_bytes e = to_be_bytes w64 e.0 ++ to_be_bytes w32 e.1

abbrev pub link_bytes : Link → List ℕ
link_bytes l = end_bytes l.first ++ end_bytes l.second

abbrev pub name_bytes : List ℕ → List ℕ
name_bytes name = length name ∷ name

abbrev pub pair_bytes : Instance → List ℕ
pair_bytes i = to_be_bytes w16 i.query ++ to_be_bytes w32 (length i.label) ++ flat_map (to_be_bytes w64) i.label

abbrev pub row_bytes : Row → List ℕ
row_bytes row = to_be_bytes w16 row.tag ++ to_be_bytes w16 (length row.pairs) ++ flat_map pair_bytes row.pairs

abbrev pub list_bytes : List Message → List ℕ
list_bytes ms = to_be_bytes w32 (length ms) ++ flat_map message_bytes ms

-- the bytes of an install after a magic that ends with this byte
unfoldable pub install_bytes : ℕ → Install → List ℕ
install_bytes version i =
    0x50 ∷ 0x51 ∷ 0x49 ∷ version ∷ []
    ++ to_be_bytes w16 (length i.topology.switches) ++ flat_map switch_bytes i.topology.switches
    ++ to_be_bytes w16 (length i.topology.links) ++ flat_map link_bytes i.topology.links
    ++ to_be_bytes w16 (length i.queries) ++ flat_map name_bytes i.queries
    ++ to_be_bytes w16 (length i.report) ++ flat_map row_bytes i.report
    ++ flat_map list_bytes i.messages

-- the spelling of an install, with the magic `PQI2`
abbrev pub spelling : Install → List ℕ
spelling i = install_bytes 0x32 i

-- the old spelling, with the magic `PQI1`
abbrev pub old_spelling : Install → List ℕ
old_spelling i = install_bytes 0x31 i

-- a match that an install of the old spelling may have: no IPv6 address, and no IP_PROTO under the EtherType of IPv6
abbrev pub IsOldMatch : MatchFields → Type 0
IsOldMatch m = (m.ipv6_src ≡ None) × (m.ipv6_dst ≡ None) × (m.ip_proto ≢ None → m.eth_type ≢ Some IPV6)

abbrev pub IsOldMessage : Message → Type 0
IsOldMessage (Flow f) = IsOldMatch f.matching
IsOldMessage (Group g) = Unit {0}
IsOldMessage (Barrier xid) = Unit {0}

abbrev pub IsOldInstall : Install → Type 0
IsOldInstall i = All (All IsOldMessage) i.messages

-- the bytes are the install's spelling, or its old spelling where it has one
pub record IsSpelled (i : Install) (bytes : List ℕ) : Type 0 where
  pub lawful : IsLawfulInstall i
  pub spelled : bytes ≡ spelling i

pub record IsSpelledOld (i : Install) (bytes : List ℕ) : Type 0 where
  pub lawful : IsLawfulInstall i
  pub old : IsOldInstall i
  pub spelled : bytes ≡ old_spelling i
