use Rattle.std.proofs.Common.{◌∙◌}
use Rattle.pq_topo.proofs.Member.{search_tells}
use Rattle.pq_query.proofs.sizes.has_port.Goals as goal

pub returns : goal.returns
returns c = c.is_ok.ensures.value ∙ search_tells c.args.ports.now c.args.port _ c.requires c.binary_search.ensures.position
