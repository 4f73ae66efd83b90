use Rattle.std.proofs.Common.{ap, ◌∙◌}
use Rattle.pq_model.specs.Topology.{peer}
use Rattle.pq_net.proofs.wiring.Wiring.peer.Goals as goal

pub returns : goal.returns
returns c =
    c.copied.ensures ∙ c.get.ensures.value ∙ c.self.invariant (c.args.datapath, c.args.port)
    ∙ ap (λ t. peer t c.args.datapath c.args.port) c.self.view_is
