use Rattle.policy_sizes.proofs.Switches.{broadcast_fits, broadcast_is_lawful}
use Rattle.policy_sizes.proofs.sizes.broadcast_size.Goals as goal

pub size_of-requires-clause-lawful : goal.size_of-requires-clause-lawful
size_of-requires-clause-lawful c = rw c.in_ok-policy.ensures broadcast_is_lawful

pub size_of-requires-clause-fit : goal.size_of-requires-clause-fit
size_of-requires-clause-fit c = rw (c.in_ok-policy.ensures, c.in_ok-topology.ensures) (broadcast_fits c.args.count c.requires.few)
