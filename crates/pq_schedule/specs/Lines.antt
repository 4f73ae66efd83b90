-- The lines of a schedule: which event a line is.
use Rattle.std.specs.Prelude.{ℕ, ◌-◌, ◌^◌, Bool, true, ◌&&◌, if◌then◌else◌, List, [], ◌∷◌, map, length, fold, find, nat_lt, bytes_eq, codes}
use Rattle.std.specs.Prelude.{option_map, option_and_then, Option, Some, None}
use Rattle.std.specs.Str.{byte}
use Rattle.pq_term.specs.Numbers.{decimal_of}
use Rattle.pq_term.specs.Groups.{parts, before_separator, behind_separator}
use Rattle.pq_fields.specs.declared.field.Field.TheVariants.{EthType, IpProto, EthSrc, EthDst, Ipv4Src, Ipv4Dst, TcpSrc, TcpDst, UdpSrc}
use Rattle.pq_fields.specs.declared.field.Field.TheVariants.{UdpDst, Ipv6Src, Ipv6Dst}
use Rattle.pq_fields.specs.Packet.{rank, with_number, zero_packet}
use Rattle.pq_model.specs.Tagged.{TaggedPacket}
use Rattle.pq_model.specs.declared.event.Event.{Event}
use Rattle.pq_model.specs.declared.event.Event.TheVariants.{Inject, Hop, Lose}
use Rattle.pq_schedule.specs.declared.key.Key.{Key}
use Rattle.pq_schedule.specs.declared.key.Key.TheVariants.{Vlan, Header}
use Rattle.pq_fields.specs.Names.{field_name}
use Rattle.pq_schedule.specs.Values.{field_number}
use Rattle.pq_model.specs.declared.reserved.TheConstants.{LAST_PORT}

-- the words of a line: what is between spaces
abbrev pub words_of : List ℕ → List (List ℕ)
words_of line = parts (byte " ") line

-- all that a line may state of a packet besides its switch and its port, in the order in which it is stated
abbrev pub keys : List Key
keys = Vlan ∷ map Header (EthType ∷ IpProto ∷ EthSrc ∷ EthDst ∷ Ipv4Src ∷ Ipv4Dst ∷ TcpSrc ∷ TcpDst ∷ UdpSrc ∷ UdpDst ∷ Ipv6Src ∷ Ipv6Dst ∷ [])

-- a key's place in this order
abbrev pub place_of : Key → ℕ
place_of Vlan = 0
place_of (Header f) = rank f

-- the name under which a number is stated
abbrev pub key_name : Key → List ℕ
key_name Vlan = codes "vlan"
key_name (Header f) = field_name f

-- the key with this name
abbrev pub key_named : List ℕ → Option Key
key_named name = find (λ key. bytes_eq (key_name key) name) keys

-- the number that a text states under a key; that of a VLAN has 12 bits
abbrev pub key_number : Key → List ℕ → Option ℕ
key_number Vlan text = decimal_of 4095 text
key_number (Header f) text = field_number f text

-- what a word states: a number under a key
pub record Statement : Type 0 where
  pub key : Key
  pub number : ℕ

-- a number under a key, where the text states one
abbrev pub statement_with : Option Key → Option (List ℕ) → Option Statement
statement_with None value = None
statement_with (Some key) None = None
statement_with (Some key) (Some value) = option_map (λ n. record { key = key; number = n }) (key_number key value)

-- the statement that a word spells: the name of a key, `=`, and a number as it is written under the key
abbrev pub statement_of : List ℕ → Option Statement
statement_of word = statement_with (key_named (before_separator (byte "=") word)) (behind_separator (byte "=") word)

-- the statements that words spell, where each spells one
abbrev pub statements_of : List (List ℕ) → Option (List Statement)
statements_of [] = Some []
statements_of (word ∷ words) = option_and_then (λ s. option_map (λ ss. s ∷ ss) (statements_of words)) (statement_of word)

-- the keys are in their order, each at most once
abbrev pub ascend : List Statement → Bool
ascend [] = true
ascend (s ∷ []) = true
ascend (s ∷ t ∷ rest) = nat_lt (place_of s.key) (place_of t.key) && ascend (t ∷ rest)

-- a packet of which only its switch and its port are stated
abbrev pub packet_at : ℕ → ℕ → TaggedPacket
packet_at switch port = record { packet = record zero_packet { switch = switch; port = port }; vlan = None }

-- the packet with a number stated under a key
abbrev pub with_key : Key → ℕ → TaggedPacket → TaggedPacket
with_key Vlan n x = record x { vlan = Some n }
with_key (Header f) n x = record x { packet = with_number f n x.packet }

-- the packet with one more statement
abbrev pub with_statement : TaggedPacket → Statement → TaggedPacket
with_statement x s = with_key s.key s.number x

-- the packet with all that is stated, where the keys ascend
abbrev pub with_statements : TaggedPacket → List Statement → Option TaggedPacket
with_statements x statements = if ascend statements then Some (fold with_statement x statements) else None

-- the number of a port that OpenFlow does not reserve: 1 to 0xffffff00
abbrev pub port_of : List ℕ → Option ℕ
port_of word = if bytes_eq word (codes "0") then None else decimal_of LAST_PORT word

-- a packet whose switch and port are stated, with what else is stated of it
abbrev pub injected_at : Option ℕ → Option ℕ → Option (List Statement) → Option TaggedPacket
injected_at None port statements = None
injected_at (Some switch) None statements = None
injected_at (Some switch) (Some port) statements = option_and_then (with_statements (packet_at switch port)) statements

-- the packet of an `inject` line: its switch, its port, and then what is stated of it
abbrev pub injected : List (List ℕ) → Option TaggedPacket
injected [] = None
injected (switch ∷ []) = None
injected (switch ∷ port ∷ words) = injected_at (decimal_of (2 ^ 64 - 1) switch) (port_of port) (statements_of words)

-- the place in a `hop` or a `lose` line: one number of 64 bits
abbrev pub place_in : List (List ℕ) → Option ℕ
place_in [] = None
place_in (word ∷ []) = decimal_of (2 ^ 64 - 1) word
place_in (word ∷ next ∷ words) = None

-- the event that a verb and the words after it are
abbrev pub event_in : List (List ℕ) → Option Event
event_in [] = None
event_in (verb ∷ words) =
    if bytes_eq verb (codes "inject") then option_map Inject (injected words)
    else (if bytes_eq verb (codes "hop") then option_map Hop (place_in words)
    else (if bytes_eq verb (codes "lose") then option_map Lose (place_in words)
    else None))

-- the event that a line is, if it is one; with its line feed a line has at most 1,024 bytes
abbrev pub event_of : List ℕ → Option Event
event_of line = if nat_lt (length line) 1024 then event_in (words_of line) else None
