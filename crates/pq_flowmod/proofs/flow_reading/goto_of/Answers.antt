use Rattle.pq_flowmod.proofs.FlowLaws.{goes_nowhere, goes_on}
use Rattle.pq_flowmod.proofs.flow_reading.goto_of.Goals as goal

-- there is no instruction
pub returns-then-bytes-lt8 : goal.returns-then-bytes-lt8
returns-then-bytes-lt8 c = λ goto is. goes_nowhere goto c.args.bytes.now is c.if-bytes-lt8.true

-- there is one
pub returns : goal.returns
returns c = λ goto is. goes_on goto c.args.bytes.now is c.if-bytes-lt8.false
