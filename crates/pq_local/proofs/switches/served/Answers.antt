use Rattle.std.proofs.Common.{◌∙◌, sym, subst}
use Rattle.pq_layout.specs.Leaves.{departing}
use Rattle.pq_store.specs.Tree.{value}
use Rattle.pq_join.specs.Tags.{tagging_of}
use Rattle.pq_local.specs.Local.{AgreeAt, IsServed}
use Rattle.pq_local.proofs.Moved.{taken_over}
use Rattle.pq_local.proofs.Zipped.{one_of}
use Rattle.pq_local.proofs.switches.served.Goals as goal

-- the old messages serve the switch, whose packets both diagrams say the same of
pub returns-in-Ok : goal.returns-in-Ok
returns-in-Ok c s there p at =
    let T = c.args.document.now.topology in
    let told = c.args.told.now in
    let same = c.switch.view_is
    ∙ one_of T.switches c.switches-switches.result.now c.switches-switches.ensures.switches c.args.index c.index-switches-index.result s
    c.requires.index c.index-switches-index.is there in
    subst (IsServed T (tagging_of told.letters told.classes) (departing T (value p)) s) (sym c.in-Ok.ensures)
    (taken_over T c.args.forward.now c.args.before c.args.policy told.letters told.classes s c.args.old.now c.requires.before
    (subst (λ z. AgreeAt c.args.forward.now z.datapath c.args.before c.args.policy) same (c.agree.ensures c.if-agree.true)) (c.requires.old s there) p at)
