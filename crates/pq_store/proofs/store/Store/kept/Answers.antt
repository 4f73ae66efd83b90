use Rattle.std.proofs.Common.{ℕ, ◌≡◌, ◌∙◌, ◌+◌, ◌-◌, ◌++◌, length, take, drop, arith, subst, sym, ap}
use Rattle.pq_store.specs.Moves.{Marks}
use Rattle.pq_store.proofs.Marking.{written_back}
use Rattle.pq_store.proofs.store.Store.kept.Goals as goal

pub loop-place-preserved : goal.loop-place-preserved
loop-place-preserved g c =
    let here : c.loop-place.place ≡ c.loop-place.place - 1 + 1 = omega arith in
    let seen : Marks c.args.self.now c.args.roots.now c.loop-place.place c.deref_mut.result.now = rw c.deref_mut.ensures.value c.loop-place.invariant.0 in
    let marks : Marks c.args.self.now c.args.roots.now (c.loop-place.place - 1) c.mark_sides.new.kept =
    c.mark_sides.ensures c.args.roots.now (subst (λ (n : ℕ). Marks c.args.self.now c.args.roots.now n c.deref_mut.result.now) here seen) in
    let whole : take c.loop-place.kept.len (c.mark_sides.new.kept ++ drop (length c.mark_sides.new.kept) c.loop-place.kept.items) ≡ c.mark_sides.new.kept =
    written_back c.loop-place.kept.len c.mark_sides.new.kept c.loop-place.kept.items
    (marks.each ∙ sym seen.each ∙ c.deref_mut.ensures.len)
    (sym (ap length c.deref_mut.ensures.value) ∙ c.deref_mut.ensures.len) in
    (rw whole marks, omega arith)

pub returns : goal.returns
returns g c =
    let none : c.loop-place.place ≡ 0 = omega arith in
    subst (λ (n : ℕ). Marks c.args.self.now c.args.roots.now n c.loop-place.kept.items) none c.loop-place.invariant.0
