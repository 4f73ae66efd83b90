-- Worked runs: what happens to single packets, found by hand, against the definitions of the machines.
use Rattle.std.specs.Prelude.{◌≡◌, ℕ, Bool, true, false, List, [], ◌∷◌, ◌==◌, ◌&&◌, if◌then◌else◌}
use Rattle.std.specs.declared.option.Option.TheVariants.{None, Some}
use Rattle.std.proofs.Common.{refl}
use Rattle.pq_fields.specs.Packet.{Numbers, zero_packet}
use Rattle.pq_fields.specs.declared.field.Field.TheVariants.{TcpDst, EthDst}
use Rattle.pq_model.specs.declared.action.Action.TheVariants.{Output, Group, PushVlan, PopVlan, SetVlan, SetField}
use Rattle.pq_model.specs.declared.group_mod.GroupCommand.TheVariants.{Add as AddGroup}
use Rattle.std.specs.FinMap.{gets}
use Rattle.pq_model.specs.declared.event.Event.TheVariants.{Inject, Hop, Lose}
use Rattle.pq_model.specs.declared.tagged.Sent.TheVariants.{Port, Controller}
use Rattle.pq_model.specs.Tagged.{TaggedPacket}
use Rattle.pq_model.specs.MatchFields.{covers, same_match, empty_match}
use Rattle.pq_model.specs.Topology.{Topology, is_port}
use Rattle.pq_model.specs.Word.{Word, In, Out}
use Rattle.pq_model.specs.Buckets.{Instance}
use Rattle.pq_model.specs.Meaning.{Meaning, Stranger, at_rest, run}
use Rattle.pq_model.specs.SwitchMachine.{Tables, no_tables, applies_all, copies, sends}
use Rattle.pq_model.specs.declared.reserved.TheConstants.{CONTROLLER, IN_PORT}
use Rattle.pq_model.specs.Orders.{IsLawfulOrder}
use Rattle.pq_model.specs.declared.message.Message.{Message}
use Rattle.pq_model.specs.declared.message.Message.TheVariants.{Flow, Group as Grouping, Barrier}
use Rattle.pq_model.specs.TablesMachine.{collected, nothing_sent, run_sending, sends_by}
use Rattle.pq_model.specs.Install.{Install, messages_of}
use Rattle.pq_model.specs.Headline.{plain}
use Rattle.pq_model.proofs.Examples.{add, at_tag, pair_topology, tiny, tiny_old, line, pair_link}

-- an ARP packet at a port of a switch
abbrev at : ℕ → ℕ → Numbers
at d p = record zero_packet { switch = d; port = p; eth_type = 2054 }

abbrev tagged : ℕ → Numbers → TaggedPacket
tagged t x = record { packet = x; vlan = Some t }

-- The switch machine.

abbrev tables_of : Install → ℕ → Tables
tables_of i d = applies_all no_tables (messages_of i d)

-- what enters at the first port leaves at the second, and its header is gone
forwarded : sends (tables_of tiny 1) (plain (at 1 1)) ≡ Port (plain (at 1 2)) ∷ []
unfolding copies covers same_match
forwarded = refl

forwarded_old : sends (tables_of tiny_old 1) (plain (at 1 1)) ≡ Port (plain (at 1 2)) ∷ []
unfolding copies covers same_match
forwarded_old = refl

dropped : sends (tables_of tiny 1) (plain (at 1 2)) ≡ []
unfolding copies covers same_match
dropped = refl

-- a packet with a header meets no entry of the first table
header_dropped : sends (tables_of tiny 1) (tagged 2 (at 1 1)) ≡ []
unfolding copies covers same_match
header_dropped = refl

-- IN_PORT sends back, and the number of the arriving port sends nothing
sent_back : sends (applies_all no_tables (add 1 0 9 empty_match (Output IN_PORT ∷ Output 1 ∷ []) None ∷ [])) (plain (at 1 1))
    ≡ Port (plain (at 1 1)) ∷ []
unfolding copies covers same_match
sent_back = refl

-- copies to ports come first and in packet order; a controller copy has the arriving port and the header of its moment
copied : sends (applies_all no_tables
    (add 1 0 9 empty_match (PushVlan ∷ SetVlan 0x1003 ∷ Output CONTROLLER ∷ Output 3 ∷ PopVlan ∷ Output 2 ∷ []) None ∷ []))
    (plain (at 1 1))
    ≡ Port (plain (at 1 2)) ∷ Port (tagged 3 (at 1 3)) ∷ Controller (tagged 3 (at 1 1)) ∷ []
unfolding copies covers same_match
copied = refl

-- the entry of highest priority is taken, and of equal ones the one added first; an Add replaces an entry at its place
taken_first : sends (applies_all no_tables
    (add 1 0 5 empty_match (Output 4 ∷ []) None ∷ add 2 0 9 (at_tag None 0) (Output 2 ∷ []) None ∷ add 3 0 9 (at_tag (Some 1) 0)
    (Output 3 ∷ []) None ∷ [])) (plain (at 1 1)) ≡ Port (plain (at 1 2)) ∷ []
unfolding copies covers same_match
taken_first = refl

replaced : sends (applies_all no_tables (add 1 0 9 empty_match (Output 2 ∷ []) None ∷ add 2 0 9 empty_match (Output 3 ∷ []) None ∷ []))
    (plain (at 1 1)) ≡ Port (plain (at 1 3)) ∷ []
unfolding copies covers same_match
replaced = refl

-- a field that the packet doesn't have isn't written, and one that it has is
unwritten : sends (applies_all no_tables (add 1 0 9 empty_match (SetField TcpDst 80 ∷ SetField EthDst 7 ∷ Output 2 ∷ []) None ∷ []))
    (plain (at 1 1)) ≡ Port (plain (record zero_packet { switch = 1; port = 2; eth_type = 2054; eth_dst = 7 })) ∷ []
unfolding copies covers same_match
unwritten = refl

-- The tables machine.

delivered_by_tables : run_sending pair_topology [] (sends_by (tables_of tiny)) nothing_sent (Inject (plain (at 1 1)) ∷ Hop 0 ∷ [])
    ≡ record { flight = []; delivered = plain (at 1 2) ∷ []; buckets = [] }
unfolding copies covers same_match
delivered_by_tables = refl

-- The meaning machine.

-- from port 1 to port 2, at each switch that has it
abbrev onward : Topology → Numbers → List Numbers
onward t x = if (x.port == 1) && is_port t x.switch 2 then record x { port = 2 } ∷ [] else []

abbrev query : Instance
query = record { query = 0; label = [] }

abbrev asking : Topology → (Word → Bool) → Meaning
asking t accepts = record { topology = t; departs = onward t; instances = query ∷ []; accepts = λ i w. accepts w }

-- first at switch 1, then only at switch 2: in_atom(switch=s1) ^ in_atom(switch=s2)*
abbrev only_second : Word → Bool
only_second [] = true
only_second (In x ∷ w) = false
only_second (Out y ∷ []) = false
only_second (Out y ∷ Out z ∷ w) = false
only_second (Out y ∷ In z ∷ w) = (z.switch == 2) && only_second w

abbrev first_then_second : Word → Bool
first_then_second [] = false
first_then_second (In x ∷ w) = (x.switch == 1) && only_second w
first_then_second (Out y ∷ w) = false

-- along three switches: no Out is captured, and nothing at the third switch
along_a_line : run (asking line first_then_second) at_rest (Inject (plain (at 1 1)) ∷ Hop 0 ∷ Hop 0 ∷ Hop 0 ∷ [])
    ≡ record { flight = []; delivered = at 3 2 ∷ []; buckets = record { pair = query; packet = at 1 1 } ∷ record { pair = query; packet = at 2 1 } ∷ [] }
along_a_line = refl

-- dropped on arrival: end_atom(true)
abbrev ends : Word → Bool
ends (In x ∷ Out y ∷ []) = y.port == 0
ends (In x ∷ Out y ∷ o ∷ w) = false
ends (In x ∷ In y ∷ w) = false
ends (In x ∷ []) = false
ends (Out x ∷ w) = false
ends [] = false

drop_captured : run (asking pair_topology ends) at_rest (Inject (plain (at 1 2)) ∷ Hop 0 ∷ [])
    ≡ record { flight = []; delivered = []; buckets = record { pair = query; packet = at 1 2 } ∷ [] }
drop_captured = refl

no_drop_captured : run (asking pair_topology ends) at_rest (Inject (plain (at 1 1)) ∷ Hop 0 ∷ [])
    ≡ record { flight = []; delivered = at 1 2 ∷ []; buckets = [] }
no_drop_captured = refl

-- an Out is captured at the port at which the packet arrived: any word that ends in Out at port 2
abbrev leaves : Word → Bool
leaves [] = false
leaves (In x ∷ w) = leaves w
leaves (Out y ∷ []) = y.port == 2
leaves (Out y ∷ o ∷ w) = leaves (o ∷ w)

out_captured : run (asking pair_topology leaves) at_rest (Inject (plain (at 1 1)) ∷ Hop 0 ∷ []) ≡ record {
  flight = [];
  delivered = at 1 2 ∷ [];
  buckets = record { pair = query; packet = at 1 1 } ∷ [];
}
out_captured = refl

-- one packet is lost, another goes on, and a place that isn't there changes nothing
two_packets : run (asking pair_link (λ w. false)) at_rest
    (Inject (plain (at 1 1)) ∷ Inject (plain (record (at 1 1) { eth_type = 35020 })) ∷ Hop 0 ∷ Lose 0 ∷ Hop 0 ∷ Hop 9 ∷ [])
    ≡ record { flight = []; delivered = at 2 2 ∷ []; buckets = [] }
two_packets = refl

-- a packet that enters with a header is a stranger, and leaves nothing; at a linked port nothing enters
stranger_enters : run (asking pair_link (λ w. true)) at_rest (Inject (tagged 3 (at 1 1)) ∷ Inject (plain (at 1 2)) ∷ [])
    ≡ record { flight = Stranger (at 1 1) ∷ []; delivered = []; buckets = [] }
stranger_enters = refl

stranger_hops : run (asking pair_link (λ w. true)) at_rest (Inject (tagged 3 (at 1 1)) ∷ Hop 0 ∷ []) ≡ at_rest
stranger_hops = refl

-- The report.

abbrev other : Instance
other = record { query = 1; label = 7 ∷ 9 ∷ [] }

-- a capture fills the buckets of its tag's row, and one without a row or without a header fills none
collected_by_row : collected (record { tag = 3; pairs = query ∷ other ∷ [] } ∷ [])
    (tagged 3 (at 1 2) ∷ tagged 4 (at 1 1) ∷ plain (at 1 1) ∷ tagged 3 (at 1 1) ∷ [])
    ≡ record { pair = query; packet = at 1 1 } ∷ record { pair = query; packet = at 1 2 } ∷ record {
      pair = other;
      packet =
          at 1 1;
    } ∷ record { pair = other; packet = at 1 2 } ∷ []
collected_by_row = refl

-- Orders of messages.

abbrev first_add : Message
first_add = add 1 0 9 empty_match (Output 2 ∷ []) None

abbrev second_add : Message
second_add = add 2 0 8 empty_match (Output 3 ∷ []) None

-- two messages may change places before a barrier
may_change_places : IsLawfulOrder (first_add ∷ second_add ∷ Barrier 3 ∷ []) (second_add ∷ first_add ∷ Barrier 3 ∷ [])
may_change_places = (second_add ∷ [], Barrier 3 ∷ [], refl, (tt, tt), ([], Barrier 3 ∷ [], refl, tt, ([], [], refl, refl, refl)))

-- none may pass the barrier
may_not_pass : IsLawfulOrder (first_add ∷ Barrier 3 ∷ []) (Barrier 3 ∷ first_add ∷ []) → ⊥
may_not_pass ([], back, is, alone, rest) = cc
may_not_pass (Barrier xid ∷ front, back, is, alone, rest) = alone.0
may_not_pass (Flow f ∷ front, back, is, alone, rest) = cc
may_not_pass (Grouping g ∷ front, back, is, alone, rest) = cc

-- Groups.

abbrev spread : Message
spread = Grouping (record { xid = 1; command = AddGroup; group = 1; buckets = (SetField EthDst 7 ∷ Output 2 ∷ []) ∷ (Output 3 ∷ []) ∷ [] })

-- each bucket runs on a copy of its own
grouped : sends (applies_all no_tables (spread ∷ add 2 0 9 empty_match (Group 1 ∷ []) None ∷ [])) (plain (at 1 1))
    ≡ Port (plain (record (at 1 2) { eth_dst = 7 })) ∷ Port (plain (at 1 3)) ∷ []
unfolding copies covers same_match
grouped = simp gets
