use Rattle.std.proofs.Common.{◌<◌, length, map, sym, ap, subst, arith}
use Rattle.pq_lists.proofs.Places.{at_place, image_place}
use Rattle.pq_local.specs.Local.{IsServedAt}
use Rattle.pq_local.proofs.Zipped.{there_is, zip_at, zip_more}
use Rattle.pq_local.proofs.switches.all_served.Goals as goal

pub served-requires-clause-old : goal.served-requires-clause-old
served-requires-clause-old c s there =
    let T = c.args.document.now.topology in
    let told = c.args.told.now in
    let k = c.loop-index.index in
    let r = c.index-old-index.result in
    let long = ap length c.switches-switches.ensures.switches in
    let below : k < length c.args.old.now = omega (arith, long, c.requires.listed, c.loop-index-test.true) in
    subst (IsServedAt T c.args.forward.now c.args.before told.letters told.classes s) (sym c.deref.ensures.value)
    (zip_at (IsServedAt T c.args.forward.now c.args.before told.letters told.classes) T.switches
    (map (λ ms. ms.items) c.args.old.now) c.requires.old k s r.items there
    (image_place (λ ms. ms.items) c.args.old.now k r (there_is c.args.old.now k r below c.index-old-index.is)))

-- one switch more
pub loop-index-preserved : goal.loop-index-preserved
loop-index-preserved c =
    let T = c.args.document.now.topology in
    let told = c.args.told.now in
    let k = c.loop-index.index in
    let long = ap length c.switches-switches.ensures.switches in
    let below : k < length T.switches = omega (arith, long, c.loop-index-test.true) in
    let here = at_place T.switches k below in
    zip_more (IsServedAt T c.args.forward.now c.args.policy told.letters told.classes)
    (λ ms. ms.items) T.switches k here.0 c.loop-index.all.items c.push.new.self.items c.in-Ok.messages here.1
    c.in-Ok-push.ensures.items (c.in-Ok.ensures here.0 here.1) c.loop-index.invariant
