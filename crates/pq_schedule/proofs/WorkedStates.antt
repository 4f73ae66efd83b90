-- Worked lines of printed states, against the definitions.
use Rattle.std.specs.Prelude.{◌≡◌, [], ◌∷◌, codes}
use Rattle.std.specs.declared.option.Option.TheVariants.{None, Some}
use Rattle.std.specs.Fmt.{digits}
use Rattle.std.proofs.Common.{refl}
use Rattle.pq_fields.specs.Packet.{zero_packet}
use Rattle.pq_schedule.specs.States.{packet_text, flight_line, delivered_line, bucket_line, output}

delivered : delivered_line (record { packet = record zero_packet { switch = 1; port = 2; eth_type = 2054 }; vlan = None })
    ≡ codes "delivered switch=1 port=2 eth_type=2054 eth_src=00:00:00:00:00:00 eth_dst=00:00:00:00:00:00\n"
unfolding digits packet_text
delivered = refl

-- a VLAN header is left
delivered-tagged : delivered_line (record {
  packet = record zero_packet { switch = 1; port = 2; eth_type = 2054; eth_dst = 0x00ab0c0001ff };
  vlan = Some 5;
}) ≡ codes "delivered switch=1 port=2 eth_type=2054 eth_src=00:00:00:00:00:00 eth_dst=00:ab:0c:00:01:ff vlan=5\n"
unfolding digits packet_text
delivered-tagged = refl

ipv6 : delivered_line (record {
  packet = record zero_packet { switch = 1; port = 2; eth_type = 34525; ip_proto = 6; tcp_dst = 80; ipv6_dst = 0x20010db8000000000000000000000001 };
  vlan = None;
}) ≡ codes "delivered switch=1 port=2 eth_type=34525 ip_proto=6 eth_src=00:00:00:00:00:00 eth_dst=00:00:00:00:00:00 tcp_src=0 tcp_dst=80 ipv6_src=0:0:0:0:0:0:0:0 ipv6_dst=2001:db8:0:0:0:0:0:1\n"
unfolding digits packet_text
ipv6 = refl

ipv4 : delivered_line (record {
  packet = record zero_packet { switch = 3; port = 3; eth_type = 2048; ip_proto = 17; ipv4_src = 0x0a000102; ipv4_dst = 0x0a0002ff; udp_src = 53 };
  vlan = None;
}) ≡ codes "delivered switch=3 port=3 eth_type=2048 ip_proto=17 eth_src=00:00:00:00:00:00 eth_dst=00:00:00:00:00:00 ipv4_src=10.0.1.2 ipv4_dst=10.0.2.255 udp_src=53 udp_dst=0\n"
unfolding digits packet_text
ipv4 = refl

flight : flight_line (record { packet = record zero_packet { switch = 1; port = 2; eth_type = 2054 }; vlan = Some 7 })
    ≡ codes "flight tag=7 switch=1 port=2 eth_type=2054 eth_src=00:00:00:00:00:00 eth_dst=00:00:00:00:00:00\n"
unfolding digits packet_text
flight = refl

flight-untagged : flight_line (record { packet = record zero_packet { switch = 1; port = 2; eth_type = 2054 }; vlan = None })
    ≡ codes "flight tag=none switch=1 port=2 eth_type=2054 eth_src=00:00:00:00:00:00 eth_dst=00:00:00:00:00:00\n"
unfolding digits packet_text
flight-untagged = refl

bucket : bucket_line (codes "g" ∷ []) (record {
  pair = record { query = 0; label = 1 ∷ [] };
  packet = record zero_packet { switch = 2; port = 1; eth_type = 2054 };
}) ≡ codes "bucket g [1] switch=2 port=1 eth_type=2054 eth_src=00:00:00:00:00:00 eth_dst=00:00:00:00:00:00\n"
unfolding digits packet_text
bucket = refl

-- no value in the label, and two
buckets : output (codes "q" ∷ codes "r" ∷ []) (record {
  flight = [];
  delivered = [];
  buckets = record { pair = record { query = 0; label = [] }; packet = zero_packet } ∷ record {
    pair =
        record { query = 1; label = 12 ∷ 3 ∷ [] };
    packet = zero_packet;
  } ∷ [];
}) ≡ codes "bucket q [] switch=0 port=0 eth_type=0 eth_src=00:00:00:00:00:00 eth_dst=00:00:00:00:00:00\nbucket r [12,3] switch=0 port=0 eth_type=0 eth_src=00:00:00:00:00:00 eth_dst=00:00:00:00:00:00\n"
unfolding digits packet_text
buckets = refl
