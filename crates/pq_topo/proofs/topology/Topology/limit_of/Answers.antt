use Rattle.std.proofs.Common.{sym, ap, subst, ◌∙◌}
use Rattle.pq_topo.specs.Named.{IsNamedTopology}
use Rattle.pq_topo.proofs.Found.{found, absent}
use Rattle.pq_topo.proofs.topology.Topology.limit_of.Goals as goal

-- the switch that was found tells its limit
pub returns-in-Some : goal.returns-in-Some
returns-in-Some c =
    let named = subst IsNamedTopology c.self.view_is c.self.invariant in
    let read = rw (ap (λ t. t.switches) c.self.view_is) at c.index.ensures in
    let told = found c.args.self.now.switches c.args.datapath c.in-Some.index c.index.result.now named.lawful.ascending c.in-Some.ensures.0
    (c.in-Some.ensures.1 c.index.result.now) in
    ap (λ s. s.limit) (c.behind-self.view_is ∙ read) ∙ sym told.limit

pub returns-in-None : goal.returns-in-None
returns-in-None c = sym (absent c.args.self.now.switches c.args.datapath c.in-None.ensures).limit
