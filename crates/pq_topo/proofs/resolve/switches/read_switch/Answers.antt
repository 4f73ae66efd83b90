use Rattle.pq_topo.proofs.SwitchShapes.{too_few_parts, no_ports, all_parts}
use Rattle.pq_topo.proofs.resolve.switches.read_switch.Goals as goal

-- fewer than three parts
pub returns-in_default-clause-switch : goal.returns-in_default-clause-switch
returns-in_default-clause-switch c =
    too_few_parts c.args.bytes.now c.args.before.now c.args.keyword.now c.args.parts.now c.in_default.len_below _ c.fault.ensures

-- no port is listed
pub returns-in_default-children-clause-switch : goal.returns-in_default-children-clause-switch
returns-in_default-children-clause-switch c =
    no_ports c.args.bytes.now c.args.before.now c.args.keyword.now c.args.parts.now _ c.in-len3-up.len_at_least
    c.in_default-children.len_below _ c.fault-in_default-children.ensures

-- all parts are there
pub returns-clause-switch : goal.returns-clause-switch
returns-clause-switch c =
    all_parts c.args.bytes.now c.args.before.now c.args.keyword.now c.args.parts.now _ _ _ c.in-len3-up.len_at_least
    c.in-len1-up.len_at_least c.read_parts.result c.read_parts.ensures.switch
