-- What the copies of one hop add, copy by copy, is what they add together.
use Rattle.std.specs.Prelude.{◌≡◌, ℕ, ◌≤◌, Bool, true, false, List, [], ◌∷◌, ◌++◌, cond, drop, length, if◌then◌else◌, refl}
use Rattle.std.proofs.Common.{ap, sym, append-nil, ◌∙◌}
use Rattle.std.proofs.Math.ListN.{drop_of_length-le}
use Rattle.std.specs.List.{flat_map}
use Rattle.pq_model.specs.declared.tagged.Sent.{Sent}
use Rattle.pq_model.specs.declared.tagged.Sent.TheVariants.{Port, Controller}
use Rattle.pq_model.specs.Topology.{Topology, peer, is_edge}
use Rattle.pq_model.specs.SwitchMachine.{to_ports, to_controller}
use Rattle.pq_model.specs.TablesMachine.{Report, carried, carried_all, collected_at, delivered_of}
use Rattle.pq_net.specs.Hops.{carries, delivers, collects}

-- what each copy puts in flight
pub carries-all : (t : Topology) (sent : List Sent) → flat_map (carries t) sent ≡ carried_all t (to_ports sent)
carries-all t [] = refl
carries-all t (Port x ∷ sent) = ap (λ l. carried x (peer t x.packet.switch x.packet.port) ++ l) (carries-all t sent)
carries-all t (Controller x ∷ sent) = carries-all t sent

-- what each copy delivers
pub delivers-all : (t : Topology) (sent : List Sent) → flat_map (delivers t) sent ≡ delivered_of t (to_ports sent)
delivers-all t [] = refl
delivers-all t (Port x ∷ sent) = ap (λ l. (if is_edge t x.packet.switch x.packet.port then x ∷ [] else []) ++ l) (delivers-all t sent)
    ∙ by (is_edge t x.packet.switch x.packet.port)
  where
    by : (b : Bool) → (if b then x ∷ [] else []) ++ delivered_of t (to_ports sent) ≡ cond b (x ∷ delivered_of t (to_ports sent))
        (delivered_of t (to_ports sent))
    by true = refl
    by false = refl
delivers-all t (Controller x ∷ sent) = delivers-all t sent

-- what each copy puts into buckets, before it is sorted
pub collects-all : (report : Report) (sent : List Sent)
    → flat_map (collects report) sent ≡ flat_map (λ y. collected_at report y.packet y.vlan) (to_controller sent)
collects-all report [] = refl
collects-all report (Port x ∷ sent) = collects-all report sent
collects-all report (Controller x ∷ sent) = ap (λ l. collected_at report x.packet x.vlan ++ l) (collects-all report sent)

-- where no copy is left, what was added so far is all
pub none_left : {A B : Type 0} (f : A → List B) (added : List B) (xs : List A) (i : ℕ) → length xs ≤ i
    → added ++ flat_map f (drop i xs) ≡ flat_map f xs → added ≡ flat_map f xs
none_left f added xs i past all = sym (append-nil added) ∙ ap (λ l. added ++ flat_map f l) (sym (drop_of_length-le xs past)) ∙ all
