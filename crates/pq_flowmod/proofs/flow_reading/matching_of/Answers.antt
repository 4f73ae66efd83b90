use Rattle.pq_flowmod.proofs.FlowLaws.{match_next}
use Rattle.pq_flowmod.proofs.flow_reading.matching_of.Goals as goal

-- it is the match that is spelled there
pub returns-in-Ok-clause-said : goal.returns-in-Ok-clause-said
returns-in-Ok-clause-said c =
    λ m more law is. match_next c.args.body.now c.in-Ok.found.0 m c.in-Ok.found.1 more c.keeps_rules.ensures law c.in-Ok.ensures.ok.0
    c.in-Ok.ensures.ok.1 is
