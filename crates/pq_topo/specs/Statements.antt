-- The topology that a document's statements describe.
use Rattle.std.specs.Prelude.{ℕ, ◌-◌, Bool, not, ◌&&◌, if◌then◌else◌, List, [], ◌∷◌, ◌++◌, length, map, ◌==◌, nat_le, bytes_eq, Option, Some, None, Ok}
use Rattle.std.specs.List.{list_any}
use Rattle.std.specs.Option.{unwrap_or}
use Rattle.pq_term.specs.declared.token.Token.{Token}
use Rattle.pq_term.specs.Names.{is_name}
use Rattle.pq_term.specs.Numbers.{number_of}
use Rattle.pq_grammar.specs.declared.class.Class.{Class}
use Rattle.pq_grammar.specs.declared.class.Class.TheVariants.{SwitchWord, LinkWord}
use Rattle.pq_grammar.specs.Tables.{is_class}
use Rattle.pq_tree.specs.Trees.{Forest, nothing, grown}
use Rattle.pq_tree.specs.Texts.{text_in, class_in_text}
use Rattle.pq_fields.specs.Packet.{is_before}
use Rattle.pq_model.specs.Sorting.{sort_by}
use Rattle.pq_model.specs.Topology.{Switch, Link, Topology, is_port, named_in, is_end}
use Rattle.pq_model.specs.Install.{port_count, end_numbers, link_numbers, ends_of}
use Rattle.pq_topo.specs.declared.fault.NameKind.TheVariants.{Many, Doubled, BadValue, UnknownSwitch, UnknownPort}
use Rattle.pq_topo.specs.Naming.{Reading, faulty, unless, next}
use Rattle.pq_model.specs.declared.reserved.TheConstants.{LAST_PORT}

-- the number that a token spells, and 0 where it spells none
abbrev pub number_in : List ℕ → Token → ℕ
number_in bytes t = unwrap_or (number_of (text_in bytes t)) 0

-- a number that a port may have
abbrev pub may_be_port : ℕ → Bool
may_be_port n = nat_le 1 n && nat_le n LAST_PORT

-- Switches.

-- a port of a switch, after earlier ones of its own, where the switch may have this many
abbrev pub port_of : List ℕ → ℕ → List ℕ → Token → Reading ℕ
port_of bytes room ports t =
    let n = number_in bytes t in
    unless t ((not (may_be_port n), BadValue) ∷ (list_any (λ p. n == p) ports, Doubled) ∷ (nat_le room (length ports), Many) ∷ []) n

-- the ports of a list, in text order
abbrev pub ports_after : List ℕ → ℕ → List ℕ → Forest → Reading (List ℕ)
ports_after bytes room ports nothing = Ok ports
ports_after bytes room ports (grown head below rest) = next (port_of bytes room ports head) (λ n. ports_after bytes room (ports ++ n ∷ []) rest)

-- the ports that the next switch may have: 4,096 less those of earlier ones
abbrev pub room_after : List Switch → ℕ
room_after earlier = 4096 - port_count earlier

-- what the next switch is held against: the names and the datapath numbers of earlier ones, in text order, and the ports that it may have
pub record Seen : Type 0 where
  pub names : List (List ℕ)
  pub datapaths : List ℕ
  pub room : ℕ

-- what the switch after these is held against
abbrev pub seen : List Switch → Seen
seen earlier = record { names = map (λ s. s.name) earlier; datapaths = map (λ s. s.datapath) earlier; room = room_after earlier }

-- the same after one more switch
abbrev pub seen_more : Seen → Switch → Seen
seen_more before s = record { names = before.names ++ s.name ∷ []; datapaths = before.datapaths ++ s.datapath ∷ []; room = before.room - length s.ports }

-- a number that a limit may have
abbrev pub may_be_limit : ℕ → Bool
may_be_limit n = nat_le 1 n && nat_le n 16384

-- a limit, as its number states it
abbrev pub stated_limit : List ℕ → Token → Reading ℕ
stated_limit bytes t =
    let n = number_in bytes t in
    unless t ((not (may_be_limit n), BadValue) ∷ []) n

-- the limit that is stated, and 2000 where none is
abbrev pub limit_in : List ℕ → Forest → Reading ℕ
limit_in bytes nothing = Ok 2000
limit_in bytes (grown head nothing rest) = Ok 2000
limit_in bytes (grown head (grown t below more) rest) = stated_limit bytes t

-- the name of a switch, which no earlier one has; what is not a name is none of a sentence
abbrev pub name_of : List ℕ → List (List ℕ) → Token → Reading (List ℕ)
name_of bytes names t =
    let name = text_in bytes t in
    unless t ((not (is_name name), BadValue) ∷ (list_any (λ n. bytes_eq name n) names, Doubled) ∷ []) name

-- the datapath number of a switch, which no earlier one has
abbrev pub datapath_of : List ℕ → List ℕ → Token → Reading ℕ
datapath_of bytes datapaths t =
    let n = number_in bytes t in
    unless t ((list_any (λ d. n == d) datapaths, Doubled) ∷ []) n

-- a switch with these ports, in ascending order
abbrev pub switch_with : List ℕ → ℕ → List ℕ → ℕ → Switch
switch_with name datapath ports limit = record { name = name; datapath = datapath; ports = sort_by (λ p. p ∷ []) ports; limit = limit }

-- one more switch begins, of which there may be 256
abbrev pub switch_begins : Seen → Token → Reading Token
switch_begins before keyword = unless keyword ((nat_le 256 (length before.names), Many) ∷ []) keyword

-- a switch with these parts, after earlier ones
abbrev pub switch_from : List ℕ → Seen → Token → Token → Token → Forest → Forest → Reading Switch
switch_from bytes before keyword name datapath ports rest =
    next (switch_begins before keyword) (λ _.
    next (name_of bytes before.names name) (λ name.
    next (datapath_of bytes before.datapaths datapath) (λ datapath.
    next (ports_after bytes before.room [] ports) (λ ports.
    next (limit_in bytes rest) (λ limit. Ok (switch_with name datapath ports limit))))))

-- the switch of a statement, after earlier ones: its name, its datapath number, its ports and its limit; what has other parts is not a statement of a sentence
abbrev pub switch_of : List ℕ → Seen → Token → Forest → Reading Switch
switch_of bytes before keyword (grown name x (grown datapath y (grown list (grown port z ports) rest))) =
    switch_from bytes before keyword name datapath (grown port z ports) rest
switch_of bytes before keyword _ = faulty keyword BadValue

-- the statement begins with this keyword
abbrev pub begins_with : List ℕ → Class → Token → Bool
begins_with bytes class head = is_class (class_in_text bytes head) class

-- the switches of the statements, in text order, after earlier ones
abbrev pub switches_after : List ℕ → List Switch → Forest → Reading (List Switch)
switches_after bytes earlier nothing = Ok earlier
switches_after bytes earlier (grown head below rest) =
    if begins_with bytes SwitchWord head then next (switch_of bytes (seen earlier) head below) (λ s. switches_after bytes (earlier ++ s ∷ []) rest)
    else switches_after bytes earlier rest

-- the switches of the statements, by their datapath numbers
abbrev pub by_datapath : List Switch → List Switch
by_datapath switches = sort_by (λ s. s.datapath ∷ []) switches

-- the switches that the statements give, by their datapath numbers
abbrev pub switches_in_order : List ℕ → Forest → Reading (List Switch)
switches_in_order bytes statements = next (switches_after bytes [] statements) (λ switches. Ok (by_datapath switches))

-- Links.

-- the datapath number of the switch that has the name
abbrev pub switch_at : List ℕ → List Switch → Token → Reading ℕ
switch_at bytes switches t = by (named_in switches (text_in bytes t)) where
  by : Option ℕ → Reading ℕ
  by (Some datapath) = Ok datapath
  by None = faulty t UnknownSwitch

-- an end of a link at a switch, which is among no earlier ones
abbrev pub end_of : List ℕ → List Switch → List (ℕ × ℕ) → Token → Token → Reading (ℕ × ℕ)
end_of bytes switches ends name port =
    next (switch_at bytes switches name) (λ d.
    let n = number_in bytes port in
    unless port ((not (is_port (record { switches = switches; links = [] }) d n), UnknownPort) ∷
    (list_any (λ e. is_end (d, n) e.0 e.1) ends, Doubled) ∷ []) (d, n))

-- the link between two ends, each a name and a port, which are different and among no earlier ones
abbrev pub link_from : List ℕ → List Switch → List (ℕ × ℕ) → Token → Token → Token → Token → Reading Link
link_from bytes switches ends name port other peer =
    next (end_of bytes switches ends name port) (λ d.
    next (end_of bytes switches (ends ++ d ∷ []) other peer) (λ e. Ok (record { first = d; second = e })))

-- the link of a statement, with its ends as they are there, after earlier links with these ends; what has fewer parts is not a statement of a sentence
abbrev pub link_of : List ℕ → List Switch → List (ℕ × ℕ) → Token → Forest → Reading Link
link_of bytes switches ends keyword (grown name x (grown port y (grown other z (grown peer w rest)))) = link_from bytes switches ends name port other peer
link_of bytes switches ends keyword _ = faulty keyword BadValue

-- the links of the statements, in text order, after earlier ones
abbrev pub links_after : List ℕ → List Switch → List Link → Forest → Reading (List Link)
links_after bytes switches earlier nothing = Ok earlier
links_after bytes switches earlier (grown head below rest) =
    if begins_with bytes LinkWord head then next (link_of bytes switches (ends_of earlier) head below)
    (λ l. links_after bytes switches (earlier ++ l ∷ []) rest)
    else links_after bytes switches earlier rest

-- the same link, with the smaller end first
abbrev pub ordered : Link → Link
ordered l = if is_before (end_numbers l.second) (end_numbers l.first) then record { first = l.second; second = l.first } else l

-- the links, each with the smaller end first, in ascending order
abbrev pub in_order : List Link → List Link
in_order links = sort_by link_numbers (map ordered links)

-- the links that the statements give between these switches, in ascending order
abbrev pub links_in_order : List ℕ → List Switch → Forest → Reading (List Link)
links_in_order bytes switches statements = next (links_after bytes switches [] statements) (λ links. Ok (in_order links))

-- the topology of the statements: its switches by datapath number, and its links in ascending order
abbrev pub topology_of : List ℕ → Forest → Reading Topology
topology_of bytes statements =
    next (switches_in_order bytes statements) (λ switches.
    next (links_in_order bytes switches statements) (λ links.
    Ok (record { switches = switches; links = links })))
