-- The printed state of a network.
use Rattle.std.specs.Prelude.{ℕ, List, [], ◌∷◌, ◌++◌, get_or, codes, decimal, Option, Some, None}
use Rattle.std.specs.List.{filter, flat_map, join_by}
use Rattle.pq_fields.specs.declared.field.Field.{Field}
use Rattle.pq_fields.specs.declared.field.Field.TheVariants.{Switch, Port, EthType, IpProto, EthSrc, EthDst, Ipv4Src, Ipv4Dst, TcpSrc}
use Rattle.pq_fields.specs.declared.field.Field.TheVariants.{TcpDst, UdpSrc, UdpDst, Ipv6Src, Ipv6Dst}
use Rattle.pq_fields.specs.Packet.{Numbers, has_field, number_in}
use Rattle.pq_model.specs.Tagged.{TaggedPacket}
use Rattle.pq_model.specs.Buckets.{BucketEntry}
use Rattle.pq_model.specs.TablesMachine.{TablesState}
use Rattle.pq_fields.specs.Names.{field_name}
use Rattle.pq_schedule.specs.Values.{form_of, text_in}

-- the fourteen fields, in field order
abbrev pub fields : List Field
fields = Switch ∷ Port ∷ EthType ∷ IpProto ∷ EthSrc ∷ EthDst ∷ Ipv4Src ∷ Ipv4Dst ∷ TcpSrc ∷ TcpDst ∷ UdpSrc ∷ UdpDst ∷ Ipv6Src ∷ Ipv6Dst ∷ []

-- a field's name, `=`, and the packet's number in it
abbrev pub field_text : Numbers → Field → List ℕ
field_text x f = field_name f ++ codes "=" ++ text_in (form_of f) (number_in f x)

-- the fields that the packet has, in field order, joined by one space
unfoldable pub packet_text : Numbers → List ℕ
packet_text x = join_by (field_text x) (codes " ") (filter (λ f. has_field f x) fields)

-- the VLAN number of a packet in flight, or that it has no VLAN header
abbrev pub tag_text : Option ℕ → List ℕ
tag_text None = codes "none"
tag_text (Some t) = decimal t

-- the line of a packet in flight
abbrev pub flight_line : TaggedPacket → List ℕ
flight_line x = codes "flight tag=" ++ tag_text x.vlan ++ codes " " ++ packet_text x.packet ++ codes "\n"

-- a VLAN header that a delivered packet still has
abbrev pub left_vlan : Option ℕ → List ℕ
left_vlan None = []
left_vlan (Some t) = codes " vlan=" ++ decimal t

-- the line of a delivered packet
abbrev pub delivered_line : TaggedPacket → List ℕ
delivered_line x = codes "delivered " ++ packet_text x.packet ++ left_vlan x.vlan ++ codes "\n"

-- the name of a query by its index; an index of a lawful entry has one
abbrev pub query_name : List (List ℕ) → ℕ → List ℕ
query_name names query = get_or names query []

-- a line for an observed packet: the query's name, the values of the label, the packet
abbrev pub bucket_text : List ℕ → List ℕ → Numbers → List ℕ
bucket_text name label x = codes "bucket " ++ name ++ codes " [" ++ join_by decimal (codes ",") label ++ codes "] " ++ packet_text x ++ codes "\n"

-- the line of a bucket's entry
abbrev pub bucket_line : List (List ℕ) → BucketEntry → List ℕ
bucket_line names e = bucket_text (query_name names e.pair.query) e.pair.label e.packet

-- a line per packet in flight, then per delivery, then per entry of a bucket, each list in its order
abbrev pub output : List (List ℕ) → TablesState → List ℕ
output names s = flat_map flight_line s.flight ++ flat_map delivered_line s.delivered ++ flat_map (bucket_line names) s.buckets
