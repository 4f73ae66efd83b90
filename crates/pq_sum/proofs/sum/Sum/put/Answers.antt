use Rattle.std.proofs.Common.{◌∙◌, drop, length, sym, subst}
use Rattle.std.specs.Vec.{with_items}
use Rattle.pq_sum.specs.Cells.{CountsPut, IsPut, MayPut}
use Rattle.pq_sum.specs.Places.{Sum}
use Rattle.pq_sum.specs.Calls.{CountsPutAt, IsPutAt, MayPutAt}
use Rattle.pq_sum.proofs.Called.{lent}
use Rattle.pq_sum.proofs.Summed.{counts_put_at, is_put_at, may_put_cells, put_within}
use Rattle.pq_sum.proofs.sum.Sum.put.Goals as goal

pub slot_for-requires : goal.slot_for-requires
slot_for-requires g c =
    let s : Sum = record { cells = c.self.inside.cells.items; slots = c.self.inside.slots.items } in
    put_within c.args.store.now s c.args.place c.args.part (subst (λ t. MayPutAt c.args.store.now t c.args.place c.args.part) (sym c.self.view_is) c.requires)

pub put-requires : goal.put-requires
put-requires g c =
    let s : Sum = record { cells = c.self.inside.cells.items; slots = c.self.inside.slots.items } in
    subst (λ l. MayPut c.args.store.now l c.in_ok-slot.slot c.args.part) (sym c.deref_mut.ensures.value)
    (may_put_cells c.args.store.now s c.args.place c.args.part c.in_ok-slot.slot c.slot_for.new.slots.items c.in_ok-slot.ensures
    (subst (λ t. MayPutAt c.args.store.now t c.args.place c.args.part) (sym c.self.view_is) c.requires))

pub returns-in_err-put-clause-steps : goal.returns-in_err-put-clause-steps
returns-in_err-put-clause-steps g c =
    let s : Sum = record { cells = c.self.inside.cells.items; slots = c.self.inside.slots.items } in
    subst (λ t. CountsPutAt c.args.store.now t c.args.place c.args.part c.args.steps.now c.put.new.steps) c.self.view_is
    (counts_put_at c.args.store.now s c.args.place c.args.part c.in_ok-slot.slot c.slot_for.new.slots.items c.in_ok-slot.ensures
    c.args.steps.now c.put.new.steps
    (subst (λ l. CountsPut c.args.store.now l c.in_ok-slot.slot c.args.part c.args.steps.now c.put.new.steps) c.deref_mut.ensures.value c.put.ensures.steps))

pub returns-clause-sum : goal.returns-clause-sum
returns-clause-sum g c =
    let s : Sum = record { cells = c.self.inside.cells.items; slots = c.self.inside.slots.items } in
    let lent_cells = lent c.put.new.cells (drop (length c.put.new.cells) c.self.inside.cells.items) c.self.inside.cells.len
    (c.put.auto.cells ∙ c.deref_mut.ensures.len) in
    subst (λ t. IsPutAt c.args.store.now t c.args.place c.args.part c.put.new.store (record {
      cells = (with_items c.self.inside.cells c.put.new.cells).items;
      slots = c.slot_for.new.slots.items;
    }))
    c.self.view_is
    (subst (λ l. IsPutAt c.args.store.now s c.args.place c.args.part c.put.new.store
    (record { cells = l; slots = c.slot_for.new.slots.items })) (sym lent_cells)
    (is_put_at c.args.store.now s c.args.place c.args.part c.in_ok-slot.slot c.slot_for.new.slots.items c.in_ok-slot.ensures c.put.new.store c.put.new.cells
    (subst (λ l. IsPut c.args.store.now l c.in_ok-slot.slot c.args.part c.put.new.store c.put.new.cells) c.deref_mut.ensures.value c.in_ok-put.ensures.sum)))

pub returns-clause-steps : goal.returns-clause-steps
returns-clause-steps g c =
    let s : Sum = record { cells = c.self.inside.cells.items; slots = c.self.inside.slots.items } in
    subst (λ t. CountsPutAt c.args.store.now t c.args.place c.args.part c.args.steps.now c.put.new.steps) c.self.view_is
    (counts_put_at c.args.store.now s c.args.place c.args.part c.in_ok-slot.slot c.slot_for.new.slots.items c.in_ok-slot.ensures
    c.args.steps.now c.put.new.steps
    (subst (λ l. CountsPut c.args.store.now l c.in_ok-slot.slot c.args.part c.args.steps.now c.put.new.steps) c.deref_mut.ensures.value c.put.ensures.steps))
