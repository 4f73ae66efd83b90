use Rattle.std.proofs.lemmas.Result.{err_from_is_err_and}
use Rattle.pq_model.specs.Install.{link_bytes, switch_bytes}
use Rattle.pq_install.specs.Links.{AreReadLinks}
use Rattle.pq_install.specs.Switches.{AreReadSwitches}
use Rattle.pq_install.specs.Units.{CountedFails, IsSection}
use Rattle.pq_install.proofs.NamedSwitches.{unlinked_is_named}
use Rattle.pq_install.proofs.Parts.{tells_after}
use Rattle.pq_install.proofs.read.topology.topology_at.Goals as goal

pub made-unlinked-requires : goal.made-unlinked-requires
made-unlinked-requires c =
    let section = c.in_ok-switches.ensures.ok in
    rw c.new.ensures.items (unlinked_is_named c.in_ok-switches.switches.items section.0.0 section.0.1)

-- the links fail after the switches
pub returns-in_err-links-clause-err : goal.returns-in_err-links-clause-err
returns-in_err-links-clause-err c =
    let p = err_from_is_err_and c.from_residual-in_err-links.result c.from_residual-in_err-links.ensures.1 in
    let fails = rw c.made-unlinked.ensures at c.in_err-links.ensures.err in
    rw (p.1, p.2) (tells_after (CountedFails 256 AreReadSwitches switch_bytes) (IsSection 256 AreReadSwitches switch_bytes)
    (λ ss. CountedFails 65535 (AreReadLinks ss) link_bytes) c.args.bytes.now c.in_ok-switches.switches.items c.in_ok-switches.rest.now
    c.in_err-links.field-0.0 c.in_ok-switches.ensures.ok fails)
