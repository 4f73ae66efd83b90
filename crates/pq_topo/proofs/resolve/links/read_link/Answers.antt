use Rattle.pq_topo.proofs.LinkSteps.{too_few_parts, four_parts}
use Rattle.pq_topo.proofs.resolve.links.read_link.Goals as goal

-- fewer than four parts
pub returns-in_default-clause-link : goal.returns-in_default-clause-link
returns-in_default-clause-link c =
    too_few_parts c.args.bytes.now c.args.topology.now.switches c.args.ends.now.keys c.args.keyword.now c.args.parts.now
    c.in_default.len_below _ c.fault.ensures

-- all parts are there
pub returns-clause-link : goal.returns-clause-link
returns-clause-link c =
    four_parts c.args.bytes.now c.args.topology.now.switches c.args.ends.now.keys c.args.keyword.now c.args.parts.now _ _ _ _
    c.in-len4-up.len_at_least c.read_ends.result c.read_ends.ensures.link
