use Rattle.std.proofs.Common.{ℕ, ◌≡◌, ◌∙◌, ◌<◌, true, length, length-set, arith, subst}
use Rattle.pq_store.proofs.Marking.{MarksRoots, marks_root, marks_roots}
use Rattle.pq_store.proofs.store.Store.marked.Goals as goal

pub loop-root-preserved : goal.loop-root-preserved
loop-root-preserved g c =
    let within : c.root-item.result < length c.loop-root.kept.items =
    omega (arith, c.requires c.loop-root.root-index c.root-item.result c.loop-root-test.true, c.root-item.is, c.loop-root.invariant.0) in
    rw c.root.view_is (
      length-set c.loop-root.kept.items c.root-item.result true ∙ c.loop-root.invariant.0,
      marks_root c.args.roots.now c.loop-root.root-index c.root-item.result c.loop-root.kept.items c.loop-root-test.true c.root-item.is
          within c.loop-root.invariant.1,
    )

pub returns : goal.returns
returns g c =
    let all : c.loop-root.root-index ≡ length c.args.roots.now = omega arith in
    marks_roots c.args.self.now c.args.roots.now c.loop-root.kept.items c.loop-root.invariant.0
    (subst (λ (i : ℕ). MarksRoots c.args.roots.now i c.loop-root.kept.items) all c.loop-root.invariant.1)
