-- Fields and values of a text.
use Rattle.std.specs.Prelude.{◌≡◌, ℕ, ◌-◌, ◌*◌, ◌^◌, ◌&&◌, if◌then◌else◌, List, nat_le, Option, Some, None, Result, Ok, Err}
use Rattle.std.specs.Str.{byte}
use Rattle.pq_term.specs.declared.token.Token.{Token}
use Rattle.pq_term.specs.Names.{is_name}
use Rattle.pq_term.specs.Numbers.{number_of, decimal_of}
use Rattle.pq_term.specs.Groups.{before_separator, behind_separator}
use Rattle.pq_term.specs.Addresses.{mac_of, ipv4_of, ipv6_of}
use Rattle.pq_tree.specs.Texts.{text_in}
use Rattle.pq_fields.specs.declared.field.Field.{Field}
use Rattle.pq_fields.specs.declared.field.Field.TheVariants.{Switch, Port, EthType, IpProto, EthSrc, EthDst, Ipv4Src, Ipv4Dst, TcpSrc}
use Rattle.pq_fields.specs.declared.field.Field.TheVariants.{TcpDst, UdpSrc, UdpDst, Ipv6Src, Ipv6Dst}
use Rattle.pq_fields.specs.Packet.{width_of, is_wide}
use Rattle.pq_fields.specs.declared.pred.Pred.{Pred}
use Rattle.pq_fields.specs.Pred.{PredTop, Equals, Leads, LeadsWide, PredTree, pred_tree, leaf, leading, is_prefixed}
use Rattle.pq_fields.specs.Names.{field_named}
use Rattle.pq_model.specs.Topology.{Topology, switch_named}
use Rattle.pq_topo.specs.declared.fault.NameKind.{NameKind}
use Rattle.pq_topo.specs.declared.fault.NameKind.TheVariants.{BadValue, UnknownSwitch, UnknownField}
use Rattle.pq_topo.specs.Naming.{Reading, faulty}
use Rattle.pq_model.specs.declared.reserved.TheConstants.{LAST_PORT}

-- a value, or the rule that its text breaks
abbrev pub Ruled : Type 0 → Type 0
Ruled A = Result A NameKind

-- what is there, or else this rule is broken
abbrev pub or_else : {A : Type 0} → NameKind → Option A → Ruled A
or_else kind (Some value) = Ok value
or_else kind None = Err kind

-- the field that a token names
abbrev pub field_at : List ℕ → Token → Reading Field
field_at bytes t = by (field_named (text_in bytes t)) where
  by : Option Field → Reading Field
  by (Some f) = Ok f
  by None = faulty t UnknownField

-- a number between these two
abbrev pub within : ℕ → ℕ → Option ℕ → Ruled ℕ
within least most (Some n) = if nat_le least n && nat_le n most then Ok n else Err BadValue
within least most None = Err BadValue

-- the name that a text is
abbrev pub name_in : List ℕ → Option (List ℕ)
name_in text = if is_name text then Some text else None

-- the datapath number of the switch that has the name
abbrev pub switch_value : Topology → Option (List ℕ) → Ruled ℕ
switch_value T (Some name) = or_else UnknownSwitch (switch_named T name)
switch_value T None = Err BadValue

-- the number that a text stands for as a value of the field; no IPv6 address is one
abbrev pub value_of : Topology → Field → List ℕ → Ruled ℕ
value_of T Switch text = switch_value T (name_in text)
value_of T Port text = within 1 LAST_PORT (number_of text)
value_of T EthType text = within 0 65535 (number_of text)
value_of T IpProto text = within 0 255 (number_of text)
value_of T EthSrc text = or_else BadValue (mac_of text)
value_of T EthDst text = or_else BadValue (mac_of text)
value_of T Ipv4Src text = or_else BadValue (ipv4_of text)
value_of T Ipv4Dst text = or_else BadValue (ipv4_of text)
value_of T TcpSrc text = within 0 65535 (number_of text)
value_of T TcpDst text = within 0 65535 (number_of text)
value_of T UdpSrc text = within 0 65535 (number_of text)
value_of T UdpDst text = within 0 65535 (number_of text)
value_of T Ipv6Src text = Err BadValue
value_of T Ipv6Dst text = Err BadValue

-- Tests.

-- the number with its leading bits alone, this many, and 0 in all others
abbrev pub cleared : Field → ℕ → ℕ → ℕ
cleared f len n = leading f len n * 2 ^ (width_of f - len)

-- a test of all bits of an address, or of its leading bits where the text has the length of a prefix
abbrev pub address_test : (ℕ → PredTop) → (ℕ → ℕ → PredTop) → ℕ → Option ℕ → Option (List ℕ) → Ruled PredTree
address_test exact prefix most None length = Err BadValue
address_test exact prefix most (Some n) None = Ok (leaf (exact n))
address_test exact prefix most (Some n) (Some length) = by (decimal_of most length) where
  by : Option ℕ → Ruled PredTree
  by (Some len) = Ok (leaf (prefix n len))
  by None = Err BadValue

-- the text before `/`, and the one after it
abbrev pub address_part : List ℕ → List ℕ
address_part text = before_separator (byte "/") text

abbrev pub length_part : List ℕ → Option (List ℕ)
length_part text = behind_separator (byte "/") text

abbrev pub ipv4_test : Field → List ℕ → Ruled PredTree
ipv4_test f text = address_test (Equals f) (λ n len. Leads f (cleared f len n) len) 32 (ipv4_of (address_part text)) (length_part text)

abbrev pub ipv6_test : Field → List ℕ → Ruled PredTree
ipv6_test f text = address_test (λ n. LeadsWide f n 128) (λ n len. LeadsWide f (cleared f len n) len) 128 (ipv6_of (address_part text)) (length_part text)

abbrev pub exact_test : Field → Ruled ℕ → Ruled PredTree
exact_test f (Ok n) = Ok (leaf (Equals f n))
exact_test f (Err kind) = Err kind

-- the test of the field for the value that a text stands for
abbrev pub test_of : Topology → Field → List ℕ → Ruled PredTree
test_of T f text = if is_prefixed f then ipv4_test f text else if is_wide f then ipv6_test f text else exact_test f (value_of T f text)

-- the answer of a call is this test, or the rule that is broken
abbrev pub IsTest : Result Pred NameKind → Ruled PredTree → Type 0
IsTest (Ok p) ruled = Ok (pred_tree p) ≡ ruled
IsTest (Err kind) ruled = Err kind ≡ ruled
