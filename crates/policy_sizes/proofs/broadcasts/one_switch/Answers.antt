use Rattle.policy_sizes.proofs.Switches.{one_switch_is_named}
use Rattle.policy_sizes.proofs.broadcasts.one_switch.Goals as goal

pub made-requires : goal.made-requires
made-requires c = rw (c.in_ok-switches.ensures.items, c.name.ensures, c.in_ok-ports.ensures, c.new.ensures.items)
    (one_switch_is_named c.args.count c.requires.some c.requires.few)
