-- Machines whose hops agree, agree over every schedule.
use Rattle.std.proofs.Common.{◌≡◌, ℕ, zero, suc, Bool, true, false, List, [], ◌∷◌, ◌++◌, map, refl, sym}
use Rattle.std.proofs.lemmas.List.{map-append}
use Rattle.std.specs.Prelude.{slice_get, if◌then◌else◌}
use Rattle.std.specs.declared.option.Option.TheVariants.{Some}
use Rattle.pq_model.specs.declared.event.Event.{Event}
use Rattle.pq_model.specs.declared.event.Event.TheVariants.{Inject, Hop, Lose}
use Rattle.pq_model.specs.Tagged.{TaggedPacket}
use Rattle.pq_model.specs.Topology.{is_edge}
use Rattle.pq_model.specs.Events.{IsTagged, IsEvent, IsSchedule}
use Rattle.pq_model.specs.Meaning.{Meaning, MeaningState, Item, at_rest, item_packet, dropped_off, hops, injects, entered_as, happens, run}
use Rattle.pq_model.specs.TablesMachine.{TablesState, Report, Sender, nothing_sent, hops_sending, injects_sending, happens_sending, run_sending}
use Rattle.pq_model.specs.Headline.{Agree, plain}
use Rattle.pq_model.specs.Simulation.{Pairwise, Simulates}
use Rattle.pq_model.proofs.Pairs.{Pairwise-append, Pairwise-remove}

-- items in flight correspond place by place, and all else is equal
pub record Corresponds (Matches : Item → TaggedPacket → Type 0) (s : MeaningState) (t : TablesState) : Type 0 where
  pub flight : Pairwise Matches s.flight t.flight
  pub delivered : t.delivered ≡ map plain s.delivered
  pub buckets : t.buckets ≡ s.buckets

-- an item that is taken out, and what its hop adds
hop_taken : (m : Meaning) (report : Report) (send : Sender) (Matches : Item → TaggedPacket → Type 0) → Simulates m report send Matches
    → (s : MeaningState) (t : TablesState) → Corresponds Matches s t → (k : ℕ) (i : Item) (x : TaggedPacket) → Matches i x
    → Corresponds Matches (hops m s k (Some i)) (hops_sending m.topology report send t k (Some x))
hop_taken m report send Matches simulates s t c k i x matches =
    let agrees = simulates.hops i x matches in
    record {
      flight = Pairwise-append Matches _ _ _ _ (Pairwise-remove Matches s.flight t.flight k c.flight) agrees.flight;
      delivered = rw (c.delivered, agrees.delivered) (sym (map-append plain s.delivered (dropped_off m i)));
      buckets = rw (c.buckets, agrees.buckets) refl;
    }

-- the place is looked up on both sides at once
hop_looked_up : (m : Meaning) (report : Report) (send : Sender) (Matches : Item → TaggedPacket → Type 0) → Simulates m report send Matches
    → (s : MeaningState) (t : TablesState) → Corresponds Matches s t → (k : ℕ)
    → (j : ℕ) (is : List Item) (xs : List TaggedPacket) → Pairwise Matches is xs
    → Corresponds Matches (hops m s k (slice_get is j)) (hops_sending m.topology report send t k (slice_get xs j))
hop_looked_up m report send Matches simulates s t c k j [] [] p = c
hop_looked_up m report send Matches simulates s t c k j [] (x ∷ xs) p = absurd p
hop_looked_up m report send Matches simulates s t c k j (i ∷ is) [] p = absurd p
hop_looked_up m report send Matches simulates s t c k zero (i ∷ is) (x ∷ xs) p = hop_taken m report send Matches simulates s t c k i x p.0
hop_looked_up m report send Matches simulates s t c k (suc j) (i ∷ is) (x ∷ xs) p = hop_looked_up m report send Matches simulates s t c k j is xs p.1

injected : (m : Meaning) (report : Report) (send : Sender) (Matches : Item → TaggedPacket → Type 0) → Simulates m report send Matches
    → (s : MeaningState) (t : TablesState) → Corresponds Matches s t → (x : TaggedPacket) → IsTagged x
    → Corresponds Matches (injects m s x) (injects_sending m.topology t x)
injected m report send Matches simulates s t c x fits = by (is_edge m.topology x.packet.switch x.packet.port) refl
  where
    by : (b : Bool) → is_edge m.topology x.packet.switch x.packet.port ≡ b
        → Corresponds Matches (if b then record s { flight = s.flight ++ entered_as x x.vlan ∷ [] } else s)
        (if b then record t { flight = t.flight ++ x ∷ [] } else t)
    by true edge = record {
      flight = Pairwise-append Matches s.flight t.flight (entered_as x x.vlan ∷ []) (x ∷ []) c.flight (simulates.enters x fits edge, tt);
      delivered = c.delivered;
      buckets = c.buckets;
    }
    by false edge = c

-- one event keeps the correspondence
pub step : (m : Meaning) (report : Report) (send : Sender) (Matches : Item → TaggedPacket → Type 0) → Simulates m report send Matches
    → (s : MeaningState) (t : TablesState) → Corresponds Matches s t → (e : Event) → IsEvent e
    → Corresponds Matches (happens m s e) (happens_sending m.topology report send t e)
step m report send Matches simulates s t c (Inject x) fits = injected m report send Matches simulates s t c x fits
step m report send Matches simulates s t c (Hop k) fits = hop_looked_up m report send Matches simulates s t c k k s.flight t.flight c.flight
step m report send Matches simulates s t c (Lose k) fits = record {
  flight = Pairwise-remove Matches s.flight t.flight k c.flight;
  delivered = c.delivered;
  buckets = c.buckets;
}

pub steps : (m : Meaning) (report : Report) (send : Sender) (Matches : Item → TaggedPacket → Type 0) → Simulates m report send Matches
    → (s : MeaningState) (t : TablesState) → Corresponds Matches s t → (events : List Event) → IsSchedule events
    → Corresponds Matches (run m s events) (run_sending m.topology report send t events)
steps m report send Matches simulates s t c [] fits = c
steps m report send Matches simulates s t c (e ∷ es) fits =
    steps m report send Matches simulates (happens m s e) (happens_sending m.topology report send t e)
    (step m report send Matches simulates s t c e fits.0) es fits.1

-- the packets of corresponding flights are equal
same_packets : (Matches : Item → TaggedPacket → Type 0) → ((i : Item) (x : TaggedPacket) → Matches i x → x.packet ≡ item_packet i)
    → (is : List Item) (xs : List TaggedPacket) → Pairwise Matches is xs → map (λ (x : TaggedPacket). x.packet) xs ≡ map item_packet is
same_packets Matches packets [] [] p = refl
same_packets Matches packets [] (x ∷ xs) p = absurd p
same_packets Matches packets (i ∷ is) [] p = absurd p
same_packets Matches packets (i ∷ is) (x ∷ xs) p = λ k. packets i x p.0 k ∷ same_packets Matches packets is xs p.1 k

-- machines whose hops agree, agree over every schedule that begins at rest
pub agreement : (m : Meaning) (report : Report) (send : Sender) (Matches : Item → TaggedPacket → Type 0) → Simulates m report send Matches
    → (events : List Event) → IsSchedule events → Agree (run m at_rest events) (run_sending m.topology report send nothing_sent events)
agreement m report send Matches simulates events fits =
    let c = steps m report send Matches simulates at_rest nothing_sent (record { flight = tt; delivered = refl; buckets = refl }) events fits in
    record { flight = same_packets Matches simulates.packets _ _ c.flight; delivered = c.delivered; buckets = c.buckets }
