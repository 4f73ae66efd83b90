-- The network that was opened from an install, and its runs.
use Rattle.std.specs.Prelude.{◌≡◌, ℕ, Bool, true, false, List, [], ◌∷◌, map, ◌==◌, if◌then◌else◌, refl}
use Rattle.std.proofs.Common.{ap, ◌∙◌}
use Rattle.pq_model.specs.declared.event.Event.{Event}
use Rattle.pq_model.specs.declared.message.Message.{Message}
use Rattle.pq_model.specs.Topology.{Switch}
use Rattle.pq_model.specs.SwitchMachine.{applies_all, no_tables, sends}
use Rattle.pq_model.specs.TablesMachine.{nothing_sent, run_sending}
use Rattle.pq_model.specs.Install.{Install, messages_in}
use Rattle.pq_net.specs.Network.{Network, tables_in, sender_of, opened, after, after_all, installed_sender}

-- the tables at a number are those that the messages at it leave
tables-messages : (ss : List Switch) (lists : List (List Message)) (d : ℕ)
    → tables_in ss (map (applies_all no_tables) lists) d ≡ applies_all no_tables (messages_in ss lists d)
tables-messages [] lists d = refl
tables-messages (s ∷ ss) [] d = refl
tables-messages (s ∷ ss) (ms ∷ lists) d = by (s.datapath == d) (tables-messages ss lists d)
  where
    by : (b : Bool) → tables_in ss (map (applies_all no_tables) lists) d ≡ applies_all no_tables (messages_in ss lists d)
        → (if b then applies_all no_tables ms else tables_in ss (map (applies_all no_tables) lists) d)
        ≡ applies_all no_tables (if b then ms else messages_in ss lists d)
    by true rest = refl
    by false rest = rest

-- the opened network sends as its install says
pub opened_sends : (i : Install) → sender_of (opened i) ≡ installed_sender i
opened_sends i = λ j x. sends (tables-messages i.topology.switches i.messages x.packet.switch j) x

-- events change the state alone, and as the network's sender leads it
run-state : (n : Network) (events : List Event) → (after_all n events).state ≡ run_sending n.topology n.report (sender_of n) n.state events
run-state n [] = refl
run-state n (e ∷ events) = run-state (after n e) events

-- a run of the opened network is the run by the senders of its install
pub opened_runs : (i : Install) (events : List Event)
    → (after_all (opened i) events).state ≡ run_sending i.topology i.report (installed_sender i) nothing_sent events
opened_runs i events = run-state (opened i) events ∙ ap (λ send. run_sending i.topology i.report send nothing_sent events) (opened_sends i)
