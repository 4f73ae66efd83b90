-- A network of switches, and what installs and events make of it.
use Rattle.std.specs.Prelude.{ℕ, List, [], ◌∷◌, map, ◌==◌, if◌then◌else◌}
use Rattle.pq_model.specs.declared.event.Event.{Event}
use Rattle.pq_model.specs.Topology.{Switch, Topology}
use Rattle.pq_model.specs.SwitchMachine.{Tables, no_tables, applies_all}
use Rattle.pq_model.specs.TablesMachine.{Report, Sender, TablesState, nothing_sent, happens_sending, sends_by}
use Rattle.pq_model.specs.Install.{Install, messages_of}

-- the topology, the names of the queries, the report, the tables of each switch in the topology's order, and where packets are
pub record Network : Type 0 where
  pub topology : Topology
  pub queries : List (List ℕ)
  pub report : Report
  pub tables : List Tables
  pub state : TablesState

-- the same, in a list of switches and the list of their tables
abbrev pub tables_in : List Switch → List Tables → ℕ → Tables
tables_in [] tables d = no_tables
tables_in (s ∷ ss) [] d = no_tables
tables_in (s ∷ ss) (t ∷ tables) d = if s.datapath == d then t else tables_in ss tables d

-- the tables of the switch with this datapath number, and empty ones where there is no such switch
abbrev pub tables_of : Network → ℕ → Tables
tables_of n d = tables_in n.topology.switches n.tables d

-- each switch of the network sends by its own tables
abbrev pub sender_of : Network → Sender
sender_of n = sends_by (tables_of n)

-- the network in which each switch has got its messages in order, and no packet is anywhere
abbrev pub opened : Install → Network
opened i = record { topology = i.topology; queries = i.queries; report = i.report; tables = map (applies_all no_tables) i.messages; state = nothing_sent }

-- the network after one event
abbrev pub after : Network → Event → Network
after n e = record n { state = happens_sending n.topology n.report (sender_of n) n.state e }

-- the network after a schedule
abbrev pub after_all : Network → List Event → Network
after_all n [] = n
after_all n (e ∷ es) = after_all (after n e) es

-- each switch sends by the tables that its messages leave in empty ones
abbrev pub installed_sender : Install → Sender
installed_sender i = sends_by (λ d. applies_all no_tables (messages_of i d))
