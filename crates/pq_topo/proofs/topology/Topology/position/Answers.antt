use Rattle.std.proofs.Common.{rules}
use Rattle.std.proofs.lemmas.List.Sorted.{answers_always}
use Rattle.pq_topo.proofs.Found.{searched}
use Rattle.pq_topo.proofs.topology.Topology.position.Goals as goal

-- the closure gives a switch's datapath number, and the slice is the topology's switches
pub returns : goal.returns
returns c =
    let facts = c.binary_search_by_key.ensures in
    let by_key = rw c.deref.ensures.value at (facts.position (λ s. s.datapath) (answers_always _ _ _ (λ f a r g called. search rules))) in
    let bound = rw c.deref.ensures.value at facts.bound in
    rw (c.ok.ensures.value, ← c.self.view_is) (searched c.self.inside.switches.items c.self.invariant.lawful.ascending c.args.datapath _ bound by_key)
