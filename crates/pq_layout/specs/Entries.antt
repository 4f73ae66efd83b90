-- The entries that trees stand for: one per leaf, yes side first.
use Rattle.std.specs.Prelude.{ℕ, ◌+◌, ◌-◌, ◌^◌, Bool, true, false, List, [], ◌∷◌, ◌++◌, if◌then◌else◌}
use Rattle.std.specs.declared.option.Option.{Option}
use Rattle.std.specs.declared.option.Option.TheVariants.{None, Some}
use Rattle.std.specs.List.{flat_map}
use Rattle.pq_fields.specs.declared.field.Field.{Field}
use Rattle.pq_fields.specs.declared.field.Field.TheVariants.{Switch, Port, EthType, IpProto, EthSrc, EthDst, Ipv4Src, Ipv4Dst, TcpSrc}
use Rattle.pq_fields.specs.declared.field.Field.TheVariants.{TcpDst, UdpSrc, UdpDst, Ipv6Src, Ipv6Dst}
use Rattle.pq_model.specs.MatchFields.{MatchFields, empty_match}
use Rattle.pq_store.specs.declared.test.Test.{Test}
use Rattle.pq_store.specs.declared.test.Test.TheVariants.{Equal, Bit}
use Rattle.pq_store.specs.Tree.{Tree}
use Rattle.pq_store.specs.Tree.Tree.{Tip, Fork}

-- the match states the number of the field; there is no match on the switch, and addresses are matched bit by bit
abbrev pub with_number : Field → ℕ → MatchFields → MatchFields
with_number Switch v m = m
with_number Port v m = record m { in_port = Some v }
with_number EthType v m = record m { eth_type = Some v }
with_number IpProto v m = record m { ip_proto = Some v }
with_number EthSrc v m = record m { eth_src = Some v }
with_number EthDst v m = record m { eth_dst = Some v }
with_number Ipv4Src v m = m
with_number Ipv4Dst v m = m
with_number TcpSrc v m = record m { tcp_src = Some v }
with_number TcpDst v m = record m { tcp_dst = Some v }
with_number UdpSrc v m = record m { udp_src = Some v }
with_number UdpDst v m = record m { udp_dst = Some v }
with_number Ipv6Src v m = m
with_number Ipv6Dst v m = m

-- a value and a mask with one bit more, of this weight
abbrev pub masked_with : ℕ → Bool → ℕ × ℕ → ℕ × ℕ
masked_with weight true a = (a.0 + weight, a.1 + weight)
masked_with weight false a = (a.0, a.1 + weight)

-- and where no bit was stated yet
abbrev pub stated_with : ℕ → Bool → Option (ℕ × ℕ) → Option (ℕ × ℕ)
stated_with weight b None = Some (masked_with weight b (0, 0))
stated_with weight b (Some a) = Some (masked_with weight b a)

-- the match states the bit of the address at this place, the highest being bit 0
abbrev pub with_bit : Field → ℕ → Bool → MatchFields → MatchFields
with_bit Switch i b m = m
with_bit Port i b m = m
with_bit EthType i b m = m
with_bit IpProto i b m = m
with_bit EthSrc i b m = m
with_bit EthDst i b m = m
with_bit Ipv4Src i b m = record m { ipv4_src = stated_with (2 ^ (31 - i)) b m.ipv4_src }
with_bit Ipv4Dst i b m = record m { ipv4_dst = stated_with (2 ^ (31 - i)) b m.ipv4_dst }
with_bit TcpSrc i b m = m
with_bit TcpDst i b m = m
with_bit UdpSrc i b m = m
with_bit UdpDst i b m = m
with_bit Ipv6Src i b m = record m { ipv6_src = stated_with (2 ^ (127 - i)) b m.ipv6_src }
with_bit Ipv6Dst i b m = record m { ipv6_dst = stated_with (2 ^ (127 - i)) b m.ipv6_dst }

-- the match on a side of a test: a number is matched on the yes side alone, a bit on either side
abbrev pub passing : Test → MatchFields → MatchFields
passing (Equal f v) m = with_number f v m
passing (Bit f i) m = with_bit f i true m

abbrev pub failing : Test → MatchFields → MatchFields
failing (Equal f v) m = m
failing (Bit f i) m = with_bit f i false m

-- the matches and the leaves of a tree below a match, yes side first
abbrev pub matches_below : {L : Type 0} → MatchFields → Tree L → List (MatchFields × L)
matches_below m (Tip l) = (m, l) ∷ []
matches_below m (Fork t y n) = matches_below (passing t m) y ++ matches_below (failing t m) n

-- the match of packets with this VLAN_VID word
abbrev pub vlan_match : ℕ → MatchFields
vlan_match word = record empty_match { vlan = Some word }

-- a tree that is one such leaf gives no entry
abbrev pub is_blank : {L : Type 0} → (L → Bool) → Tree L → Bool
is_blank blank (Tip l) = blank l
is_blank blank (Fork t y n) = false

-- the matches and leaves of a tree with its VLAN_VID word
abbrev pub entries_of : {L : Type 0} → (L → Bool) → ℕ × Tree L → List (MatchFields × L)
entries_of blank p = if is_blank blank p.1 then [] else matches_below (vlan_match p.0) p.1

-- those of a table, tree after tree
abbrev pub table_of : {L : Type 0} → (L → Bool) → List (ℕ × Tree L) → List (MatchFields × L)
table_of blank trees = flat_map (entries_of blank) trees
