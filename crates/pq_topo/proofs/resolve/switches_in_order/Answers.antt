use Rattle.std.proofs.Common.{sym}
use Rattle.pq_tree.specs.Trees.{trees}
use Rattle.pq_topo.proofs.SwitchRules.{network_of}
use Rattle.pq_topo.proofs.resolve.switches_in_order.Goals as goal

-- switches that are read keep the rules
pub returns-in-Ok-clause-network : goal.returns-in-Ok-clause-network
returns-in-Ok-clause-network c =
    rw c.in-Ok.ensures (network_of c.args.bytes.now (trees c.args.terms.now) c.in_ok-switches.switches.items (sym c.in_ok-switches.ensures))
