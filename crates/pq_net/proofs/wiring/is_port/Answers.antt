use Rattle.std.proofs.Common.{◌∙◌, ap}
use Rattle.std.specs.List.{list_any}
use Rattle.pq_topo.proofs.Member.{search_tells}
use Rattle.pq_net.proofs.wiring.is_port.Goals as goal

pub returns : goal.returns
returns c = c.is_ok.ensures.value
    ∙ (search_tells c.ports_of.result.now c.args.port _ c.ports_of.ensures.ascending c.binary_search.ensures.position
    ∙ ap (list_any _) c.ports_of.ensures.ports)
