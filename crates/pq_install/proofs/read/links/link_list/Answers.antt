use Rattle.std.proofs.Common.{arith, refl, length-append}
use Rattle.std.proofs.lemmas.Result.{err_from_is_err_and}
use Rattle.pq_model.specs.Install.{link_bytes}
use Rattle.pq_install.specs.Links.{AreReadLinks}
use Rattle.pq_install.proofs.LinkLists.{no_links}
use Rattle.pq_install.proofs.UnitLists.{list_fails, one_more_unit}
use Rattle.pq_install.proofs.read.links.link_list.Goals as goal

-- no link that may follow is there, and one is wanted
pub returns-in_err-link-clause-err : goal.returns-in_err-link-clause-err
returns-in_err-link-clause-err c =
    let p = err_from_is_err_and c.from_residual.result c.from_residual.ensures.1 in
    let fails = rw c.deref.ensures.value at c.in_err-link.ensures.err in
    rw (p.1, p.2) (list_fails (AreReadLinks c.args.topology.now.switches) link_bytes c.args.bytes.now c.loop.links.items c.loop.rest.now
    c.loop.invariant.1 c.args.count c.in_err-link.field-0.0 (omega (arith, c.loop.invariant.0, c.loop-test.true)) fails)

pub loop-init : goal.loop-init
loop-init c = rw c.new-links.ensures.items (refl, (no_links c.args.topology.now.switches, refl))

-- the link is added, and the bytes after it are left
pub loop-preserved : goal.loop-preserved
loop-preserved c =
    let next = rw c.deref.ensures.value at c.in_ok-link.ensures.ok in
    let more = one_more_unit (AreReadLinks c.args.topology.now.switches) link_bytes c.args.bytes.now c.loop.links.items c.loop.rest.now
    c.loop.invariant.1 c.in_ok-link.link _ next in
    rw (c.in_ok-push.ensures.items, c.split_at.ensures.back) (grind (arith, length-append, c.loop.invariant.0), more)
