use Rattle.std.proofs.Common.{ap₂}
use Rattle.pq_query.proofs.Ports.{sizes_told}
use Rattle.pq_query.proofs.sizes.sizes_of.Goals as goal

pub returns : goal.returns
returns c =
    let told = sizes_told c.args.topology.now c.switches-switches.result.now c.count_ports.result c.switches-switches.ensures.lawful
    c.switches-switches.ensures.switches c.count_ports.ensures in
    ap₂ (λ s p. record { switches = s; ports = p }) told.0 told.1
