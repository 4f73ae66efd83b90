use Rattle.std.proofs.Common.{◌<◌, arith, ap}
use Rattle.std.proofs.lemmas.Bool.Decides.{nat_tests}
use Rattle.pq_install.proofs.Chains.{at_last}
use Rattle.pq_install.proofs.read.report.comes_after.Goals as goal

pub returns-in-Some : goal.returns-in-Some
returns-in-Some c =
    let tells = rw (← c.in-Some.ensures.value) at (at_last (λ row. row.tag < c.args.tag) c.args.before.now) in
    let read = ap (λ row. row.tag) c.last-in-Some.view_is in
    (λ below. tells.0 (grind (arith, nat_tests, below, read)), λ last. grind (arith, nat_tests, tells.1 last, read))
