use Rattle.std.proofs.Common.{sym}
use Rattle.pq_tree.specs.Trees.{trees}
use Rattle.pq_topo.proofs.LinkRules.{network_with}
use Rattle.pq_topo.proofs.resolve.links_in_order.Goals as goal

-- links that are read keep the rules
pub returns-in-Ok-sort_links-clause-network : goal.returns-in-Ok-sort_links-clause-network
returns-in-Ok-sort_links-clause-network c = λ named.
    rw (c.in-Ok-sort_links.ensures, c.in-Ok.ensures, c.deref.ensures.value)
    (network_with c.args.bytes.now c.args.topology.now.switches (trees c.args.terms.now) c.in_ok-read.read.items
    (sym c.in_ok-read.ensures) named)
