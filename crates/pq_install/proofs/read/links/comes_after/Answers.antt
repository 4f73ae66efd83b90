use Rattle.std.proofs.Common.{IsTrue}
use Rattle.pq_fields.specs.Packet.{is_before}
use Rattle.pq_model.specs.Install.{link_numbers}
use Rattle.pq_install.proofs.Chains.{at_last}
use Rattle.pq_install.proofs.read.links.comes_after.Goals as goal

pub returns-in-Some : goal.returns-in-Some
returns-in-Some c = rw (← c.in-Some.ensures.value, ← c.link_is_below.ensures) at
    (at_last (λ l. IsTrue (is_before (link_numbers l) (link_numbers c.args.link.now))) c.args.before.now)
