use Rattle.policy_sizes.proofs.Nowhere.{nowhere_is_named}
use Rattle.policy_sizes.proofs.sizes.nowhere.Goals as goal

pub made-requires : goal.made-requires
made-requires c = rw (c.new-switches.ensures.items, c.new-links.ensures.items) nowhere_is_named
