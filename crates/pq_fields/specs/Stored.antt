-- A packet and writes as they are stored, and their numbers.
use Rattle.pq_fields.specs.declared.packet.Packet.TheInside.{Inside}
use Rattle.pq_fields.specs.declared.writes.Writes.TheInside as writes
use Rattle.pq_fields.specs.Packet.{Numbers}
use Rattle.pq_fields.specs.Writes.{Written}

-- the numbers that are stored
abbrev pub stored_numbers : Inside → Numbers
stored_numbers p =
    record {
      switch = p.switch;
      port = p.port;
      eth_type = p.eth_type;
      ip_proto = p.ip_proto;
      eth_src = p.eth_src;
      eth_dst =
          p.eth_dst;
      ipv4_src = p.ipv4_src;
      ipv4_dst = p.ipv4_dst;
      tcp_src = p.tcp_src;
      tcp_dst = p.tcp_dst;
      udp_src = p.udp_src;
      udp_dst =
          p.udp_dst;
      ipv6_src = p.ipv6_src;
      ipv6_dst = p.ipv6_dst;
    }

-- how numbers are stored
abbrev pub stored : Numbers → Inside
stored x =
    record {
      switch = x.switch;
      port = x.port;
      eth_type = x.eth_type;
      ip_proto = x.ip_proto;
      eth_src = x.eth_src;
      eth_dst =
          x.eth_dst;
      ipv4_src = x.ipv4_src;
      ipv4_dst = x.ipv4_dst;
      tcp_src = x.tcp_src;
      tcp_dst = x.tcp_dst;
      udp_src = x.udp_src;
      udp_dst =
          x.udp_dst;
      ipv6_src = x.ipv6_src;
      ipv6_dst = x.ipv6_dst;
    }

-- the numbers to write that are stored
abbrev pub numbers_to_write : writes.Inside → Written
numbers_to_write w = record {
  port = w.port;
  eth_src = w.eth_src;
  eth_dst = w.eth_dst;
  ipv4_src = w.ipv4_src;
  ipv4_dst = w.ipv4_dst;
  tcp_src = w.tcp_src;
  tcp_dst = w.tcp_dst;
  udp_src = w.udp_src;
  udp_dst = w.udp_dst;
}

-- how numbers to write are stored
abbrev pub stored_writes : Written → writes.Inside
stored_writes w = record {
  port = w.port;
  eth_src = w.eth_src;
  eth_dst = w.eth_dst;
  ipv4_src = w.ipv4_src;
  ipv4_dst = w.ipv4_dst;
  tcp_src = w.tcp_src;
  tcp_dst = w.tcp_dst;
  udp_src = w.udp_src;
  udp_dst = w.udp_dst;
}
