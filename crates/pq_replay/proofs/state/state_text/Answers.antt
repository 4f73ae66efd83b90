use Rattle.pq_replay.proofs.Outputs.{output_of}
use Rattle.pq_replay.proofs.state.state_text.Goals as goal

pub returns : goal.returns
returns c = output_of c.args.install c.args.events.now c.in_ok-net.net c.in_ok-text.text.items c.in_ok-net.ensures c.in_ok-text.ensures
