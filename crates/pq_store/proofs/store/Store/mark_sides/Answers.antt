use Rattle.std.proofs.Common.{ℕ, ◌≡◌, true, false, get_or, subst}
use Rattle.pq_store.proofs.Marking.{marks_past, marks_branch}
use Rattle.pq_store.proofs.store.Store.mark_sides.Goals as goal

pub returns-then-not-kept-place : goal.returns-then-not-kept-place
returns-then-not-kept-place g c = λ roots marks.
    let unmarked : get_or c.args.kept.now c.args.place false ≡ false =
    subst (λ (n : ℕ). get_or c.args.kept.now n false ≡ false) c.place.view_is c.if-not-kept-place.true in
    marks_past c.args.self.now roots c.args.place c.args.kept.now (λ marked test i j shows. cc (unmarked, marked)) marks

pub returns-in-Leaf : goal.returns-in-Leaf
returns-in-Leaf g c = λ roots marks.
    marks_past c.args.self.now roots c.args.place c.args.kept.now (λ marked test i j shows. cc (c.in-Leaf.ensures.shows, shows.is)) marks

pub returns-in-Node : goal.returns-in-Node
returns-in-Node g c = λ roots marks.
    let marked : get_or c.args.kept.now c.args.place false ≡ true =
    subst (λ (n : ℕ). get_or c.args.kept.now n false ≡ true) c.place.view_is c.if-not-kept-place.false in
    rw (c.yes.view_is, c.no.view_is)
    (marks_branch c.args.self.now c.in-Node.ensures.canonical roots c.args.place c.args.kept.now c.in-Node.field-0 c.in-Node.yes
    c.in-Node.no c.in-Node.ensures.shows marked marks)
