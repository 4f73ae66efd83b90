use Rattle.pq_topo.proofs.NewNames.{name_is_refused, name_is_doubled, name_is_given}
use Rattle.pq_topo.proofs.resolve.switches.read_name.Goals as goal

pub returns-in_default-clause-name : goal.returns-in_default-clause-name
returns-in_default-clause-name c =
    name_is_refused c.args.bytes.now c.args.names.now.keys c.args.token.now _ _ c.text_in.ensures c.of.ensures _ c.in_default.is
    c.fault.ensures

pub returns-then-has_name-clause-name : goal.returns-then-has_name-clause-name
returns-then-has_name-clause-name c =
    name_is_doubled c.args.bytes.now c.args.names.now.keys c.args.token.now _ _ c.text_in.ensures c.of.ensures c.in-Some.name c.in-Some.is _
    c.has_name.ensures _ c.if-has_name.true c.fault-then-has_name.ensures

pub returns-clause-name : goal.returns-clause-name
returns-clause-name c =
    name_is_given c.args.bytes.now c.args.names.now.keys c.args.token.now _ _ c.text_in.ensures c.of.ensures c.in-Some.name c.in-Some.is _
    c.has_name.ensures c.if-has_name.false
