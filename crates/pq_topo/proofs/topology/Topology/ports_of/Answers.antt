use Rattle.std.proofs.Common.{sym, ap, subst, ◌∙◌}
use Rattle.pq_topo.specs.Named.{IsNamedTopology}
use Rattle.pq_topo.proofs.Found.{found, absent}
use Rattle.pq_topo.proofs.topology.Topology.ports_of.Goals as goal

-- the switch that was found tells its ports
pub returns-in-Some-clause-ports : goal.returns-in-Some-clause-ports
returns-in-Some-clause-ports c =
    let named = subst IsNamedTopology c.self.view_is c.self.invariant in
    let read = rw (ap (λ t. t.switches) c.self.view_is) at c.index.ensures in
    let told = found c.args.self.now.switches c.args.datapath c.in-Some.index c.index.result.now named.lawful.ascending c.in-Some.ensures.0
    (c.in-Some.ensures.1 c.index.result.now) in
    c.deref.ensures.value ∙ (ap (λ s. s.ports) (c.behind-self.view_is ∙ read) ∙ sym told.ports)

pub returns-in-None-clause-ports : goal.returns-in-None-clause-ports
returns-in-None-clause-ports c = sym (absent c.args.self.now.switches c.args.datapath c.in-None.ensures).ports

-- the ports of each switch ascend
pub returns-in-Some-clause-ascending : goal.returns-in-Some-clause-ascending
returns-in-Some-clause-ascending c =
    let named = subst IsNamedTopology c.self.view_is c.self.invariant in
    let lawful = named.lawful.switches c.in-Some.index c.index.result.now c.in-Some.ensures.0 in
    let read = rw (ap (λ t. t.switches) c.self.view_is) at c.index.ensures in
    rw (c.deref.ensures.value ∙ ap (λ s. s.ports) (c.behind-self.view_is ∙ read)) lawful.2

-- the ports of each switch are numbers of ports
pub returns-in-Some-clause-numbers : goal.returns-in-Some-clause-numbers
returns-in-Some-clause-numbers c =
    let named = subst IsNamedTopology c.self.view_is c.self.invariant in
    let lawful = named.lawful.switches c.in-Some.index c.index.result.now c.in-Some.ensures.0 in
    let read = rw (ap (λ t. t.switches) c.self.view_is) at c.index.ensures in
    rw (c.deref.ensures.value ∙ ap (λ s. s.ports) (c.behind-self.view_is ∙ read)) lawful.3
