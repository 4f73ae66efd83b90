-- What a match states of each field, and what it covers with one statement more.
use Rattle.std.proofs.Common.{◌≡◌, ◌≢◌, ℕ, suc, ◌-◌, ◌^◌, ◌<◌, Bool, true, false, List, [], ◌∷◌, get_or, Some, None, refl, sym, ap, ◌∙◌, arith, true≢false}
use Rattle.std.proofs.Math.ListN.{set}
use Rattle.std.proofs.lemmas.List.{get_or-set_other}
use Rattle.std.specs.Prelude.{◌==◌, ◌&&◌}
use Rattle.std.specs.declared.option.Option.{Option}
use Rattle.pq_fields.specs.declared.field.Field.{Field}
use Rattle.pq_fields.specs.declared.field.Field.TheVariants.{Switch, Port, EthType, IpProto, EthSrc, EthDst, Ipv4Src, Ipv4Dst, TcpSrc}
use Rattle.pq_fields.specs.declared.field.Field.TheVariants.{TcpDst, UdpSrc, UdpDst, Ipv6Src, Ipv6Dst}
use Rattle.pq_fields.specs.Packet.{number_in, bit_in, rank, width_of}
use Rattle.pq_model.specs.MatchFields.{MatchFields, agrees, agrees_masked, covers, vlan_word}
use Rattle.pq_model.specs.Tagged.{TaggedPacket}
use Rattle.pq_store.specs.Test.{is_address}
use Rattle.pq_layout.specs.Entries.{stated_with, vlan_match, with_bit, with_number}
use Rattle.pq_lookup.proofs.MaskedBits.{AreWhole, sided, stated_agrees}

-- the number that is stated of a field
abbrev pub stated_number : Field → MatchFields → Option ℕ
stated_number Switch m = None
stated_number Port m = m.in_port
stated_number EthType m = m.eth_type
stated_number IpProto m = m.ip_proto
stated_number EthSrc m = m.eth_src
stated_number EthDst m = m.eth_dst
stated_number Ipv4Src m = None
stated_number Ipv4Dst m = None
stated_number TcpSrc m = m.tcp_src
stated_number TcpDst m = m.tcp_dst
stated_number UdpSrc m = m.udp_src
stated_number UdpDst m = m.udp_dst
stated_number Ipv6Src m = None
stated_number Ipv6Dst m = None

-- the value and the mask that are stated of an address
abbrev pub stated_bits : Field → MatchFields → Option (ℕ × ℕ)
stated_bits Switch m = None
stated_bits Port m = None
stated_bits EthType m = None
stated_bits IpProto m = None
stated_bits EthSrc m = None
stated_bits EthDst m = None
stated_bits Ipv4Src m = m.ipv4_src
stated_bits Ipv4Dst m = m.ipv4_dst
stated_bits TcpSrc m = None
stated_bits TcpDst m = None
stated_bits UdpSrc m = None
stated_bits UdpDst m = None
stated_bits Ipv6Src m = m.ipv6_src
stated_bits Ipv6Dst m = m.ipv6_dst

-- all of these tests after one
abbrev all_after : List Bool → Bool → Bool
all_after [] s = s
all_after (r ∷ rs) s = all_after rs (s && r)

-- the test of a side goes from one conjunct after all
regrouped : (p q r : Bool) → (p && q) && r ≡ (p && r) && q
regrouped true true true = refl
regrouped true true false = refl
regrouped true false true = refl
regrouped true false false = refl
regrouped false q r = refl

behind : (rs : List Bool) (s p q : Bool) → s ≡ p && q → all_after rs s ≡ all_after rs p && q
behind [] s p q e = e
behind (r ∷ rs) s p q e = behind rs (s && r) (p && r) q (ap (λ b. b && r) e ∙ regrouped p q r)

within : (a s p q : Bool) → s ≡ p && q → a && s ≡ (a && p) && q
within true s p q e = e
within false s p q e = refl

-- a number that wasn't stated
stated_once : (o : Option ℕ) (v n : ℕ) → o ≡ None → agrees (Some v) n ≡ agrees o n && (n == v)
stated_once o v n none = ap (λ p. agrees p n && (n == v)) (sym none)

-- the mask goes down to the bit before this one
pub narrowed : (w i : ℕ) (o : Option (ℕ × ℕ)) → i < w → AreWhole (w - i) o → AreWhole (suc (w - 1 - i)) o
narrowed w i o within whole = let e : w - i ≡ suc (w - 1 - i) = omega arith in rw (← e) whole

module _ (m : MatchFields) (x : TaggedPacket) where
  -- the tests of the fields from one on
  abbrev from_ipv6_dst : List Bool
  from_ipv6_dst = agrees_masked m.ipv6_dst x.packet.ipv6_dst ∷ []

  abbrev from_ipv6_src : List Bool
  from_ipv6_src = agrees_masked m.ipv6_src x.packet.ipv6_src ∷ from_ipv6_dst

  abbrev from_udp_dst : List Bool
  from_udp_dst = agrees m.udp_dst x.packet.udp_dst ∷ from_ipv6_src

  abbrev from_udp_src : List Bool
  from_udp_src = agrees m.udp_src x.packet.udp_src ∷ from_udp_dst

  abbrev from_tcp_dst : List Bool
  from_tcp_dst = agrees m.tcp_dst x.packet.tcp_dst ∷ from_udp_src

  abbrev from_tcp_src : List Bool
  from_tcp_src = agrees m.tcp_src x.packet.tcp_src ∷ from_tcp_dst

  abbrev from_ipv4_dst : List Bool
  from_ipv4_dst = agrees_masked m.ipv4_dst x.packet.ipv4_dst ∷ from_tcp_src

  abbrev from_ipv4_src : List Bool
  from_ipv4_src = agrees_masked m.ipv4_src x.packet.ipv4_src ∷ from_ipv4_dst

  abbrev from_eth_dst : List Bool
  from_eth_dst = agrees m.eth_dst x.packet.eth_dst ∷ from_ipv4_src

  abbrev from_eth_src : List Bool
  from_eth_src = agrees m.eth_src x.packet.eth_src ∷ from_eth_dst

  abbrev from_ip_proto : List Bool
  from_ip_proto = agrees m.ip_proto x.packet.ip_proto ∷ from_eth_src

  abbrev from_eth_type : List Bool
  from_eth_type = agrees m.eth_type x.packet.eth_type ∷ from_ip_proto

  abbrev from_vlan : List Bool
  from_vlan = agrees m.vlan (vlan_word x.vlan) ∷ from_eth_type

  -- a number more: the packet has it
  pub covers-number : (f : Field) (v : ℕ) → is_address f ≡ false → f ≢ Switch → stated_number f m ≡ None
      → covers (with_number f v m) x ≡ covers m x && (number_in f x.packet == v)
  unfolding covers
  covers-number Switch v number other none = absurd (other refl)
  covers-number Port v number other none = behind from_vlan _ _ _ (stated_once m.in_port v x.packet.port none)
  covers-number EthType v number other none = behind from_ip_proto _ _ _ (within _ _ _ _ (stated_once m.eth_type v x.packet.eth_type none))
  covers-number IpProto v number other none = behind from_eth_src _ _ _ (within _ _ _ _ (stated_once m.ip_proto v x.packet.ip_proto none))
  covers-number EthSrc v number other none = behind from_eth_dst _ _ _ (within _ _ _ _ (stated_once m.eth_src v x.packet.eth_src none))
  covers-number EthDst v number other none = behind from_ipv4_src _ _ _ (within _ _ _ _ (stated_once m.eth_dst v x.packet.eth_dst none))
  covers-number Ipv4Src v number other none = absurd (true≢false number)
  covers-number Ipv4Dst v number other none = absurd (true≢false number)
  covers-number TcpSrc v number other none = behind from_tcp_dst _ _ _ (within _ _ _ _ (stated_once m.tcp_src v x.packet.tcp_src none))
  covers-number TcpDst v number other none = behind from_udp_src _ _ _ (within _ _ _ _ (stated_once m.tcp_dst v x.packet.tcp_dst none))
  covers-number UdpSrc v number other none = behind from_udp_dst _ _ _ (within _ _ _ _ (stated_once m.udp_src v x.packet.udp_src none))
  covers-number UdpDst v number other none = behind from_ipv6_src _ _ _ (within _ _ _ _ (stated_once m.udp_dst v x.packet.udp_dst none))
  covers-number Ipv6Src v number other none = absurd (true≢false number)
  covers-number Ipv6Dst v number other none = absurd (true≢false number)

  -- a bit more: the packet's bit is on that side
  pub covers-bit : (f : Field) (i : ℕ) (b : Bool) → is_address f ≡ true → i < width_of f → AreWhole (width_of f - i) (stated_bits f m) →
      covers (with_bit f i b m) x ≡ covers m x && sided b (bit_in f i x.packet)
  unfolding covers
  covers-bit Switch i b address below whole = absurd (true≢false (sym address))
  covers-bit Port i b address below whole = absurd (true≢false (sym address))
  covers-bit EthType i b address below whole = absurd (true≢false (sym address))
  covers-bit IpProto i b address below whole = absurd (true≢false (sym address))
  covers-bit EthSrc i b address below whole = absurd (true≢false (sym address))
  covers-bit EthDst i b address below whole = absurd (true≢false (sym address))
  covers-bit Ipv4Src i b address below whole =
      behind from_ipv4_dst _ _ _
      (within _ _ _ _ (stated_agrees (31 - i) x.packet.ipv4_src b m.ipv4_src (narrowed 32 i m.ipv4_src below whole)))
  covers-bit Ipv4Dst i b address below whole =
      behind from_tcp_src _ _ _
      (within _ _ _ _ (stated_agrees (31 - i) x.packet.ipv4_dst b m.ipv4_dst (narrowed 32 i m.ipv4_dst below whole)))
  covers-bit TcpSrc i b address below whole = absurd (true≢false (sym address))
  covers-bit TcpDst i b address below whole = absurd (true≢false (sym address))
  covers-bit UdpSrc i b address below whole = absurd (true≢false (sym address))
  covers-bit UdpDst i b address below whole = absurd (true≢false (sym address))
  covers-bit Ipv6Src i b address below whole =
      behind from_ipv6_dst _ _ _
      (within _ _ _ _ (stated_agrees (127 - i) x.packet.ipv6_src b m.ipv6_src (narrowed 128 i m.ipv6_src below whole)))
  covers-bit Ipv6Dst i b address below whole = within _ _ _ _ (stated_agrees (127 - i) x.packet.ipv6_dst b m.ipv6_dst (narrowed 128 i m.ipv6_dst below whole))

-- Statements of one field leave the others.

-- the stated numbers in field order
numbers_stated : MatchFields → List (Option ℕ)
numbers_stated m = None ∷ m.in_port ∷ m.eth_type ∷ m.ip_proto ∷ m.eth_src ∷ m.eth_dst ∷ None ∷ None ∷ m.tcp_src ∷ m.tcp_dst ∷ m.udp_src ∷
    m.udp_dst ∷ None ∷ None ∷ []

-- the stated values and masks in field order
bits_stated : MatchFields → List (Option (ℕ × ℕ))
bits_stated m = None ∷ None ∷ None ∷ None ∷ None ∷ None ∷ m.ipv4_src ∷ m.ipv4_dst ∷ None ∷ None ∷ None ∷ None ∷ m.ipv6_src ∷ m.ipv6_dst ∷ []

number_at : (f : Field) (m : MatchFields) → stated_number f m ≡ get_or (numbers_stated m) (rank f) None
unfolding numbers_stated
number_at Switch m = refl
number_at Port m = refl
number_at EthType m = refl
number_at IpProto m = refl
number_at EthSrc m = refl
number_at EthDst m = refl
number_at Ipv4Src m = refl
number_at Ipv4Dst m = refl
number_at TcpSrc m = refl
number_at TcpDst m = refl
number_at UdpSrc m = refl
number_at UdpDst m = refl
number_at Ipv6Src m = refl
number_at Ipv6Dst m = refl

bits_at : (f : Field) (m : MatchFields) → stated_bits f m ≡ get_or (bits_stated m) (rank f) None
unfolding bits_stated
bits_at Switch m = refl
bits_at Port m = refl
bits_at EthType m = refl
bits_at IpProto m = refl
bits_at EthSrc m = refl
bits_at EthDst m = refl
bits_at Ipv4Src m = refl
bits_at Ipv4Dst m = refl
bits_at TcpSrc m = refl
bits_at TcpDst m = refl
bits_at UdpSrc m = refl
bits_at UdpDst m = refl
bits_at Ipv6Src m = refl
bits_at Ipv6Dst m = refl

number_set : (f : Field) (v : ℕ) (m : MatchFields) → is_address f ≡ false → f ≢ Switch
    → numbers_stated (with_number f v m) ≡ set (numbers_stated m) (rank f) (Some v)
unfolding numbers_stated
number_set Switch v m number other = absurd (other refl)
number_set Port v m number other = refl
number_set EthType v m number other = refl
number_set IpProto v m number other = refl
number_set EthSrc v m number other = refl
number_set EthDst v m number other = refl
number_set Ipv4Src v m number other = absurd (true≢false number)
number_set Ipv4Dst v m number other = absurd (true≢false number)
number_set TcpSrc v m number other = refl
number_set TcpDst v m number other = refl
number_set UdpSrc v m number other = refl
number_set UdpDst v m number other = refl
number_set Ipv6Src v m number other = absurd (true≢false number)
number_set Ipv6Dst v m number other = absurd (true≢false number)

bit_set : (f : Field) (i : ℕ) (b : Bool) (m : MatchFields) → is_address f ≡ true →
    bits_stated (with_bit f i b m) ≡ set (bits_stated m) (rank f) (stated_with (2 ^ (width_of f - 1 - i)) b (stated_bits f m))
unfolding bits_stated
bit_set Switch i b m address = absurd (true≢false (sym address))
bit_set Port i b m address = absurd (true≢false (sym address))
bit_set EthType i b m address = absurd (true≢false (sym address))
bit_set IpProto i b m address = absurd (true≢false (sym address))
bit_set EthSrc i b m address = absurd (true≢false (sym address))
bit_set EthDst i b m address = absurd (true≢false (sym address))
bit_set Ipv4Src i b m address = refl
bit_set Ipv4Dst i b m address = refl
bit_set TcpSrc i b m address = absurd (true≢false (sym address))
bit_set TcpDst i b m address = absurd (true≢false (sym address))
bit_set UdpSrc i b m address = absurd (true≢false (sym address))
bit_set UdpDst i b m address = absurd (true≢false (sym address))
bit_set Ipv6Src i b m address = refl
bit_set Ipv6Dst i b m address = refl

number_bits : (f : Field) (v : ℕ) (m : MatchFields) → bits_stated (with_number f v m) ≡ bits_stated m
unfolding bits_stated
number_bits Switch v m = refl
number_bits Port v m = refl
number_bits EthType v m = refl
number_bits IpProto v m = refl
number_bits EthSrc v m = refl
number_bits EthDst v m = refl
number_bits Ipv4Src v m = refl
number_bits Ipv4Dst v m = refl
number_bits TcpSrc v m = refl
number_bits TcpDst v m = refl
number_bits UdpSrc v m = refl
number_bits UdpDst v m = refl
number_bits Ipv6Src v m = refl
number_bits Ipv6Dst v m = refl

bit_numbers : (f : Field) (i : ℕ) (b : Bool) (m : MatchFields) → numbers_stated (with_bit f i b m) ≡ numbers_stated m
unfolding numbers_stated
bit_numbers Switch i b m = refl
bit_numbers Port i b m = refl
bit_numbers EthType i b m = refl
bit_numbers IpProto i b m = refl
bit_numbers EthSrc i b m = refl
bit_numbers EthDst i b m = refl
bit_numbers Ipv4Src i b m = refl
bit_numbers Ipv4Dst i b m = refl
bit_numbers TcpSrc i b m = refl
bit_numbers TcpDst i b m = refl
bit_numbers UdpSrc i b m = refl
bit_numbers UdpDst i b m = refl
bit_numbers Ipv6Src i b m = refl
bit_numbers Ipv6Dst i b m = refl

-- no number and no bit changes the VLAN_VID word
pub number_vlan : (f : Field) (v : ℕ) (m : MatchFields) → (with_number f v m).vlan ≡ m.vlan
number_vlan Switch v m = refl
number_vlan Port v m = refl
number_vlan EthType v m = refl
number_vlan IpProto v m = refl
number_vlan EthSrc v m = refl
number_vlan EthDst v m = refl
number_vlan Ipv4Src v m = refl
number_vlan Ipv4Dst v m = refl
number_vlan TcpSrc v m = refl
number_vlan TcpDst v m = refl
number_vlan UdpSrc v m = refl
number_vlan UdpDst v m = refl
number_vlan Ipv6Src v m = refl
number_vlan Ipv6Dst v m = refl

pub bit_vlan : (f : Field) (i : ℕ) (b : Bool) (m : MatchFields) → (with_bit f i b m).vlan ≡ m.vlan
bit_vlan Switch i b m = refl
bit_vlan Port i b m = refl
bit_vlan EthType i b m = refl
bit_vlan IpProto i b m = refl
bit_vlan EthSrc i b m = refl
bit_vlan EthDst i b m = refl
bit_vlan Ipv4Src i b m = refl
bit_vlan Ipv4Dst i b m = refl
bit_vlan TcpSrc i b m = refl
bit_vlan TcpDst i b m = refl
bit_vlan UdpSrc i b m = refl
bit_vlan UdpDst i b m = refl
bit_vlan Ipv6Src i b m = refl
bit_vlan Ipv6Dst i b m = refl

pub other_number : (f g : Field) (v : ℕ) (m : MatchFields) → is_address f ≡ false → f ≢ Switch → rank f ≢ rank g
    → stated_number g (with_number f v m) ≡ stated_number g m
other_number f g v m number other apart =
    number_at g (with_number f v m) ∙ ap (λ l. get_or l (rank g) None) (number_set f v m number other)
    ∙ get_or-set_other (numbers_stated m) (rank f) (rank g) (Some v) None (λ e. apart (sym e)) ∙ sym (number_at g m)

pub same_bits : (f g : Field) (v : ℕ) (m : MatchFields) → stated_bits g (with_number f v m) ≡ stated_bits g m
same_bits f g v m = bits_at g (with_number f v m) ∙ ap (λ l. get_or l (rank g) None) (number_bits f v m) ∙ sym (bits_at g m)

pub same_number : (f g : Field) (i : ℕ) (b : Bool) (m : MatchFields) → stated_number g (with_bit f i b m) ≡ stated_number g m
same_number f g i b m = number_at g (with_bit f i b m) ∙ ap (λ l. get_or l (rank g) None) (bit_numbers f i b m) ∙ sym (number_at g m)

pub other_bits : (f g : Field) (i : ℕ) (b : Bool) (m : MatchFields) → is_address f ≡ true → rank f ≢ rank g → stated_bits g (with_bit f i b m) ≡ stated_bits g m
other_bits f g i b m address apart =
    bits_at g (with_bit f i b m) ∙ ap (λ l. get_or l (rank g) None) (bit_set f i b m address)
    ∙ get_or-set_other (bits_stated m) (rank f) (rank g) (stated_with (2 ^ (width_of f - 1 - i)) b (stated_bits f m)) None
    (λ e. apart (sym e)) ∙ sym (bits_at g m)

pub own_bits : (f : Field) (i : ℕ) (b : Bool) (m : MatchFields) → is_address f ≡ true
    → stated_bits f (with_bit f i b m) ≡ stated_with (2 ^ (width_of f - 1 - i)) b (stated_bits f m)
own_bits Switch i b m address = absurd (true≢false (sym address))
own_bits Port i b m address = absurd (true≢false (sym address))
own_bits EthType i b m address = absurd (true≢false (sym address))
own_bits IpProto i b m address = absurd (true≢false (sym address))
own_bits EthSrc i b m address = absurd (true≢false (sym address))
own_bits EthDst i b m address = absurd (true≢false (sym address))
own_bits Ipv4Src i b m address = refl
own_bits Ipv4Dst i b m address = refl
own_bits TcpSrc i b m address = absurd (true≢false (sym address))
own_bits TcpDst i b m address = absurd (true≢false (sym address))
own_bits UdpSrc i b m address = absurd (true≢false (sym address))
own_bits UdpDst i b m address = absurd (true≢false (sym address))
own_bits Ipv6Src i b m address = refl
own_bits Ipv6Dst i b m address = refl

-- a match of a VLAN_VID word alone states no number and no bit
pub no_number : (f : Field) (word : ℕ) → stated_number f (vlan_match word) ≡ None
no_number Switch word = refl
no_number Port word = refl
no_number EthType word = refl
no_number IpProto word = refl
no_number EthSrc word = refl
no_number EthDst word = refl
no_number Ipv4Src word = refl
no_number Ipv4Dst word = refl
no_number TcpSrc word = refl
no_number TcpDst word = refl
no_number UdpSrc word = refl
no_number UdpDst word = refl
no_number Ipv6Src word = refl
no_number Ipv6Dst word = refl

pub no_bits : (f : Field) (word : ℕ) → stated_bits f (vlan_match word) ≡ None
no_bits Switch word = refl
no_bits Port word = refl
no_bits EthType word = refl
no_bits IpProto word = refl
no_bits EthSrc word = refl
no_bits EthDst word = refl
no_bits Ipv4Src word = refl
no_bits Ipv4Dst word = refl
no_bits TcpSrc word = refl
no_bits TcpDst word = refl
no_bits UdpSrc word = refl
no_bits UdpDst word = refl
no_bits Ipv6Src word = refl
no_bits Ipv6Dst word = refl

alone : (b : Bool) → b && true && true && true && true && true && true && true && true && true && true && true && true ≡ b
alone true = refl
alone false = refl

-- and covers the packets with the word
pub covers-vlan : (word : ℕ) (x : TaggedPacket) → covers (vlan_match word) x ≡ (vlan_word x.vlan == word)
unfolding covers
covers-vlan word x = alone (vlan_word x.vlan == word)
