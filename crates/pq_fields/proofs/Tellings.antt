-- The numbers of a packet tell it.
use Rattle.std.specs.Prelude.{◌≡◌, ℕ, List, [], ◌∷◌}
use Rattle.std.proofs.Common.{ap}
use Rattle.pq_fields.specs.Packet.{Numbers, numbers}

-- the first of some numbers
abbrev pub head_or : ℕ → List ℕ → ℕ
head_or d [] = d
head_or d (x ∷ xs) = x

-- those after it
abbrev pub rest_of : List ℕ → List ℕ
rest_of [] = []
rest_of (x ∷ xs) = xs

-- the packet whose numbers these are
abbrev pub packet_of : List ℕ → Numbers
packet_of l0 =
    let l1 = rest_of l0 in
    let l2 = rest_of l1 in
    let l3 = rest_of l2 in
    let l4 = rest_of l3 in
    let l5 = rest_of l4 in
    let l6 = rest_of l5 in
    let l7 = rest_of l6 in
    let l8 = rest_of l7 in
    let l9 = rest_of l8 in
    let l10 = rest_of l9 in
    let l11 = rest_of l10 in
    let l12 = rest_of l11 in
    let l13 = rest_of l12 in
    record {
      switch = head_or 0 l0;
      port = head_or 0 l1;
      eth_type = head_or 0 l2;
      ip_proto = head_or 0 l3;
      eth_src = head_or 0 l4;
      eth_dst = head_or 0 l5;
      ipv4_src = head_or 0 l6;
      ipv4_dst = head_or 0 l7;
      tcp_src = head_or 0 l8;
      tcp_dst = head_or 0 l9;
      udp_src = head_or 0 l10;
      udp_dst = head_or 0 l11;
      ipv6_src = head_or 0 l12;
      ipv6_dst = head_or 0 l13;
    }

-- packets with the same numbers are the same
pub numbers_tell : (x y : Numbers) → numbers x ≡ numbers y → x ≡ y
numbers_tell x y same = ap packet_of same
