-- The text of a network that has had a schedule.
use Rattle.std.proofs.Common.{◌≡◌, ℕ, List, [], ◌∷◌, refl, ap, ◌∙◌}
use Rattle.pq_model.specs.declared.event.Event.{Event}
use Rattle.pq_model.specs.Install.{Install}
use Rattle.pq_net.specs.Network.{Network, opened, after, after_all}
use Rattle.pq_net.proofs.Opened.{opened_runs}
use Rattle.pq_schedule.specs.States.{output}
use Rattle.pq_replay.specs.Replay.{replayed}

-- events leave the names of the queries
same_names : (n : Network) (events : List Event) → (after_all n events).queries ≡ n.queries
same_names n [] = refl
same_names n (e ∷ es) = same_names (after n e) es

pub output_of : (i : Install) (events : List Event) (n : Network) (text : List ℕ) → n ≡ after_all (opened i) events
    → text ≡ output n.queries n.state → text ≡ output i.queries (replayed i events)
output_of i events n text is written =
    let names = ap (λ (m : Network). m.queries) is ∙ same_names (opened i) events in
    let state = ap (λ (m : Network). m.state) is ∙ opened_runs i events in
    written ∙ (λ k. output (names k) (state k))
