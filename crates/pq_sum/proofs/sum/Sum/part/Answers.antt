use Rattle.std.proofs.Common.{sym, subst, arith}
use Rattle.pq_sum.specs.Sum.{HasLeaf, IsLeaf}
use Rattle.pq_sum.specs.Places.{Sum}
use Rattle.pq_sum.specs.Calls.{HasPartAt, IsPartAt}
use Rattle.pq_sum.proofs.Summed.{is_part_at, part_has_leaf, place_held}
use Rattle.pq_sum.proofs.sum.Sum.part.Goals as goal

pub index-requires : goal.index-requires
index-requires c =
    let s : Sum = record { cells = c.self.inside.cells.items; slots = c.self.inside.slots.items } in
    let within = place_held s c.args.place (subst (λ t. HasPartAt t c.args.place) (sym c.self.view_is) c.requires) in
    let long = c.self.inside.slots.ok.0 in
    omega (arith, within, long)

pub leaf_at-requires : goal.leaf_at-requires
leaf_at-requires c =
    let s : Sum = record { cells = c.self.inside.cells.items; slots = c.self.inside.slots.items } in
    subst (λ l. HasLeaf l c.index.result.now) (sym c.deref.ensures.value)
    (part_has_leaf s c.args.place c.index.result.now c.index.ensures (subst (λ t. HasPartAt t c.args.place) (sym c.self.view_is) c.requires))

pub returns : goal.returns
returns c =
    let s : Sum = record { cells = c.self.inside.cells.items; slots = c.self.inside.slots.items } in
    subst (λ t. IsPartAt t c.args.place c.leaf_at.result) c.self.view_is
    (is_part_at s c.args.place c.index.result.now c.index.ensures c.leaf_at.result
    (subst (λ l. IsLeaf l c.index.result.now c.leaf_at.result) c.deref.ensures.value c.leaf_at.ensures))
