use Rattle.std.proofs.Common.{rules}
use Rattle.std.proofs.lemmas.List.Sorted.{answers_always}
use Rattle.pq_net.proofs.Searched.{searched}
use Rattle.pq_net.proofs.lookups.switch_at.Goals as goal

-- the closure gives a switch's datapath number, and the slice is the topology's switches
pub returns-clause-place : goal.returns-clause-place
returns-clause-place c =
    let facts = c.binary_search_by_key.ensures in
    let by_datapath = rw c.switches.ensures.switches at (facts.position (λ s. s.datapath) (answers_always _ _ _ (λ f a r g called. search rules))) in
    let bound = rw c.switches.ensures.switches at facts.bound in
    rw c.ok.ensures.value (searched (λ s. s.datapath) c.args.wiring.now.switches c.switches.ensures.ascending c.args.datapath _ bound by_datapath)
