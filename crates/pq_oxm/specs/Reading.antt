-- What the OXM fields at the front of bytes say; whether they are spelled as they must be is not asked here.
use Rattle.std.specs.Prelude.{ℕ, ◌+◌, ◌*◌, Bool, List, ◌∷◌, length, get_or, take, drop, nat_le, ◌==◌, ◌&&◌, if◌then◌else◌}
use Rattle.std.specs.declared.option.Option.{Option}
use Rattle.std.specs.declared.option.Option.TheVariants.{None, Some}
use Rattle.std.specs.Int.{w16, w32, w64, w128, from_be_bytes}
use Rattle.pq_model.specs.MatchFields.{MatchFields}
use Rattle.pq_model.specs.Spelling.{ones32, ones128}

-- the third byte of an OXM field says which it is and whether a mask follows its value
abbrev pub is_field : ℕ → ℕ → List ℕ → Bool
is_field code size bytes = nat_le (4 + size) (length bytes) && (get_or bytes 2 0 == code)

-- the number of a field at the front, and what is after the field
unfoldable pub number_field : ℕ → ℕ → (List ℕ → ℕ) → List ℕ → Option ℕ × List ℕ
number_field field size number bytes = if is_field (field * 2) size bytes then (
  Some (number (take size (drop 4 bytes))),
  drop (4 + size) bytes,
) else (None, bytes)

-- the address of a field at the front with its mask, and what is after the field
unfoldable pub address_field : ℕ → ℕ → (List ℕ → ℕ) → ℕ → List ℕ → Option (ℕ × ℕ) × List ℕ
address_field field size number ones bytes =
    if is_field (field * 2) size bytes then (Some (number (take size (drop 4 bytes)), ones), drop (4 + size) bytes)
    else if is_field (field * 2 + 1) (size + size) bytes then
    (Some (number (take size (drop 4 bytes)), number (take size (drop (4 + size) bytes))), drop (4 + (size + size)) bytes)
    else (None, bytes)

-- a number of one byte
abbrev pub byte_number : List ℕ → ℕ
byte_number bytes = get_or bytes 0 0

-- the number of a MAC address
abbrev pub mac_number : List ℕ → ℕ
mac_number bytes = from_be_bytes w64 (0 ∷ 0 ∷ bytes)

-- what the OXM fields of a match say, read in their fixed order
unfoldable pub fields_of : List ℕ → MatchFields
fields_of bytes =
    let in_port = number_field 0 4 (from_be_bytes w32) bytes in
    let vlan = number_field 6 2 (from_be_bytes w16) in_port.1 in
    let eth_type = number_field 5 2 (from_be_bytes w16) vlan.1 in
    let ip_proto = number_field 10 1 byte_number eth_type.1 in
    let eth_src = number_field 4 6 mac_number ip_proto.1 in
    let eth_dst = number_field 3 6 mac_number eth_src.1 in
    let ipv4_src = address_field 11 4 (from_be_bytes w32) ones32 eth_dst.1 in
    let ipv4_dst = address_field 12 4 (from_be_bytes w32) ones32 ipv4_src.1 in
    let tcp_src = number_field 13 2 (from_be_bytes w16) ipv4_dst.1 in
    let tcp_dst = number_field 14 2 (from_be_bytes w16) tcp_src.1 in
    let udp_src = number_field 15 2 (from_be_bytes w16) tcp_dst.1 in
    let udp_dst = number_field 16 2 (from_be_bytes w16) udp_src.1 in
    let ipv6_src = address_field 26 16 (from_be_bytes w128) ones128 udp_dst.1 in
    let ipv6_dst = address_field 27 16 (from_be_bytes w128) ones128 ipv6_src.1 in
    record {
      in_port = in_port.0;
      vlan = vlan.0;
      eth_type = eth_type.0;
      ip_proto = ip_proto.0;
      eth_src = eth_src.0;
      eth_dst =
          eth_dst.0;
      ipv4_src = ipv4_src.0;
      ipv4_dst = ipv4_dst.0;
      tcp_src = tcp_src.0;
      tcp_dst = tcp_dst.0;
      udp_src = udp_src.0;
      udp_dst =
          udp_dst.0;
      ipv6_src = ipv6_src.0;
      ipv6_dst = ipv6_dst.0;
    }
