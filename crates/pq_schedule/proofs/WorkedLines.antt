-- Worked lines of schedules, against the definitions.
use Rattle.std.specs.Prelude.{◌≡◌, codes}
use Rattle.std.specs.declared.option.Option.TheVariants.{None, Some}
use Rattle.std.proofs.Common.{refl}
use Rattle.pq_fields.specs.Packet.{zero_packet}
use Rattle.pq_model.specs.declared.event.Event.TheVariants.{Inject, Hop, Lose}
use Rattle.pq_schedule.specs.Lines.{event_of}

-- a switch, a port, a VLAN number and a field
inject-vlan : event_of (codes "inject 1 1 vlan=3 eth_type=2054")
    ≡ Some (Inject (record { packet = record zero_packet { switch = 1; port = 1; eth_type = 2054 }; vlan = Some 3 }))
inject-vlan = refl

inject-all : event_of
    (codes "inject 18446744073709551615 4294967040 eth_src=00:aB:00:00:01:ff ipv4_dst=10.0.1.255 tcp_dst=80 ipv6_dst=2001:db8:0:0:0:0:0:1")
    ≡ Some (Inject (record {
      packet = record zero_packet {
        switch = 18446744073709551615;
        port = 4294967040;
        eth_src = 0x00ab000001ff;
        ipv4_dst = 0x0a0001ff;
        tcp_dst = 80;
        ipv6_dst = 0x20010db8000000000000000000000001;
      };
      vlan = None;
    }))
inject-all = refl

hop : event_of (codes "hop 0") ≡ Some (Hop 0)
hop = refl

lose-last : event_of (codes "lose 18446744073709551615") ≡ Some (Lose 18446744073709551615)
lose-last = refl

lose-beyond : event_of (codes "lose 18446744073709551616") ≡ None
lose-beyond = refl

hop-word : event_of (codes "hop x") ≡ None
hop-word = refl

hop-alone : event_of (codes "hop") ≡ None
hop-alone = refl

hop-zeros : event_of (codes "hop 00") ≡ None
hop-zeros = refl

empty : event_of (codes "") ≡ None
empty = refl

port-zero : event_of (codes "inject 1 0") ≡ None
port-zero = refl

port-reserved : event_of (codes "inject 1 4294967041") ≡ None
port-reserved = refl

two-spaces : event_of (codes "inject 1  1") ≡ None
two-spaces = refl

space-behind : event_of (codes "inject 1 1 ") ≡ None
space-behind = refl

key-twice : event_of (codes "inject 1 1 tcp_src=1 tcp_src=1") ≡ None
key-twice = refl

keys-descend : event_of (codes "inject 1 1 ip_proto=6 eth_type=2048") ≡ None
keys-descend = refl

vlan-behind : event_of (codes "inject 1 1 eth_type=2048 vlan=1") ≡ None
vlan-behind = refl

port-stated : event_of (codes "inject 1 1 port=1") ≡ None
port-stated = refl

vlan-wide : event_of (codes "inject 1 1 vlan=4096") ≡ None
vlan-wide = refl

type-wide : event_of (codes "inject 1 1 eth_type=65536") ≡ None
type-wide = refl

ipv6-upper : event_of (codes "inject 1 1 ipv6_dst=2001:DB8:0:0:0:0:0:1") ≡ None
ipv6-upper = refl

ipv6-zeros : event_of (codes "inject 1 1 ipv6_dst=2001:0db8:0:0:0:0:0:1") ≡ None
ipv6-zeros = refl

ipv6-prefix : event_of (codes "inject 1 1 ipv6_dst=2001:db8:0:0:0:0:0:1/128") ≡ None
ipv6-prefix = refl
