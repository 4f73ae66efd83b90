-- How a set of packets, which is a list in packet order, grows by what a policy gives.
use Rattle.std.specs.Prelude.{ℕ, List, [], ◌∷◌, ◌==◌, if◌then◌else◌}
use Rattle.std.specs.BTreeSet.{insert_key}
use Rattle.pq_fields.specs.Order.{packet_cmp}
use Rattle.pq_fields.specs.Packet.{Numbers}
use Rattle.pq_fields.specs.Pred.{holds}
use Rattle.pq_model.specs.Topology.{Topology, ports_of}
use Rattle.pq_policy.specs.Policy.{Joint, AnyOne, Chained, First, Second, Policies, none, put, PolicyTop, PolicyTree, Pass, Discard, Spread}
use Rattle.pq_policy.specs.Policy.{Only, Write, Forward, Choose, Either, InTurn, written}

-- the set with one packet more, where it isn't there yet
abbrev pub with_packet : Numbers → List Numbers → List Numbers
with_packet x ys = insert_key packet_cmp ys x

-- the packet at another port
abbrev pub at_port : ℕ → Numbers → Numbers
at_port p x = record x { port = p }

-- the set with the packet at this port, where that isn't its own
abbrev pub with_other_port : ℕ → Numbers → List Numbers → List Numbers
with_other_port p x ys = if p == x.port then ys else with_packet (at_port p x) ys

-- the set grown for each of the list in turn
abbrev pub on_each : {X : Type 0} → (X → List Numbers → List Numbers) → List X → List Numbers → List Numbers
on_each grow [] ys = ys
on_each grow (x ∷ xs) ys = on_each grow xs (grow x ys)

-- the set with what a policy with this top gives on x, where the operands make it grow so
abbrev pub grown_by : Topology → PolicyTop → (Joint → Numbers → List Numbers → List Numbers) → Numbers → List Numbers → List Numbers
grown_by t Pass grow x ys = with_packet x ys
grown_by t Discard grow x ys = ys
grown_by t Spread grow x ys = on_each (λ p. with_other_port p x) (ports_of t x.switch) ys
grown_by t (Only p) grow x ys = if holds p x then with_packet x ys else ys
grown_by t (Write f n) grow x ys = with_packet (written f n x) ys
grown_by t (Forward n) grow x ys = with_packet (at_port n x) ys
grown_by t (Choose p) grow x ys = grow (if holds p x then First else Second) x ys
grown_by t Either grow x ys = grow AnyOne x ys
grown_by t InTurn grow x ys = grow Chained x ys

-- the set with what the policies together give on each of the packets
abbrev pub grown_together : Topology → Policies → Joint → List Numbers → List Numbers → List Numbers
grown_together t none AnyOne xs ys = ys
grown_together t none Chained xs ys = on_each with_packet xs ys
grown_together t none First xs ys = ys
grown_together t none Second xs ys = ys
grown_together t (put top below rest) AnyOne xs ys = grown_together t rest AnyOne xs (on_each (grown_by t top (λ j x. grown_together t below j (x ∷ []))) xs ys)
grown_together t (put top below rest) Chained xs ys =
    grown_together t rest Chained (on_each (grown_by t top (λ j x. grown_together t below j (x ∷ []))) xs []) ys
grown_together t (put top below rest) First xs ys = on_each (grown_by t top (λ j x. grown_together t below j (x ∷ []))) xs ys
grown_together t (put top below rest) Second xs ys = grown_together t rest First xs ys

-- the set with what the policy gives on x
abbrev pub grown : Topology → PolicyTree → Numbers → List Numbers → List Numbers
grown t p x ys = grown_by t p.top (λ j z. grown_together t p.below j (z ∷ [])) x ys
