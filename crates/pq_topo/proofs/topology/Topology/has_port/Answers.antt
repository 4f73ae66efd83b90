use Rattle.std.proofs.Common.{◌<◌, ◌∙◌, ap, arith, sym}
use Rattle.std.specs.List.{list_any}
use Rattle.pq_topo.proofs.Member.{search_tells, none_beyond}
use Rattle.pq_topo.proofs.topology.Topology.has_port.Goals as goal

pub returns-clause-port : goal.returns-clause-port
returns-clause-port c = c.is_ok.ensures.value
    ∙ (search_tells c.ports_of-ports.result.now c.args.number _ c.ports_of-ports.ensures.ascending c.binary_search.ensures.position
    ∙ ap (list_any _) c.ports_of-ports.ensures.ports)

-- no port has such a number
pub returns-then-from-number-clause-port : goal.returns-then-from-number-clause-port
returns-then-from-number-clause-port c =
    let last = c.from.ensures in
    let test = c.if-from-number.true in
    let above : 0xffffff00 < c.args.number = omega (arith, last, test) in
    sym (none_beyond c.ports_of-ports.result.now c.args.number c.ports_of-ports.ensures.numbers above) ∙ ap (list_any _) c.ports_of-ports.ensures.ports
