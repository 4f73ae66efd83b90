use Rattle.std.proofs.Common.{◌+◌, ◌≡◌, ◌∙◌, drop, length, map, sym, ap, subst, arith}
use Rattle.std.specs.Vec.{with_items}
use Rattle.pq_sum.specs.Cells.{CountsRemoval, IsRemoved, MayRemove}
use Rattle.pq_sum.specs.Places.{Sum, renamed}
use Rattle.pq_sum.specs.Calls.{CountsRemovalAt, IsRemovedAt, MayRemoveAt}
use Rattle.pq_sum.proofs.Called.{lent}
use Rattle.pq_sum.proofs.Summed.{counts_removal_at, is_removed_at, may_remove_cells, removal_within}
use Rattle.pq_sum.proofs.sum.Sum.remove.Goals as goal

pub remove-slot-requires : goal.remove-slot-requires
remove-slot-requires g c =
    let s : Sum = record { cells = c.self.inside.cells.items; slots = c.self.inside.slots.items } in
    let within = removal_within c.args.store.now s c.args.place (subst (λ t. MayRemoveAt c.args.store.now t c.args.place) (sym c.self.view_is) c.requires) in
    let long = c.self.inside.slots.ok.0 in
    omega (arith, within, long)

pub remove-requires : goal.remove-requires
remove-requires g c =
    let s : Sum = record { cells = c.self.inside.cells.items; slots = c.self.inside.slots.items } in
    let last_is : c.len-last.result + 1 ≡ length s.slots =
    let now = c.len-last.ensures in let less = c.remove-slot.ensures.len in let long = c.self.inside.slots.ok.0 in omega (arith, now, less, long) in
    subst (λ l. MayRemove c.args.store.now l c.remove-slot.result c.len-last.result) (sym c.deref_mut.ensures.value)
    (may_remove_cells c.args.store.now s c.args.place c.remove-slot.result c.len-last.result c.remove-slot.ensures.value last_is
    (subst (λ t. MayRemoveAt c.args.store.now t c.args.place) (sym c.self.view_is) c.requires))

pub returns-in_err-remove-clause-steps : goal.returns-in_err-remove-clause-steps
returns-in_err-remove-clause-steps g c =
    let s : Sum = record { cells = c.self.inside.cells.items; slots = c.self.inside.slots.items } in
    let last_is : c.len-last.result + 1 ≡ length s.slots =
    let now = c.len-last.ensures in let less = c.remove-slot.ensures.len in let long = c.self.inside.slots.ok.0 in omega (arith, now, less, long) in
    subst (λ t. CountsRemovalAt c.args.store.now t c.args.place c.args.steps.now c.remove.new.steps) c.self.view_is
    (counts_removal_at c.args.store.now s c.args.place c.remove-slot.result c.len-last.result c.remove-slot.ensures.value last_is
    c.args.steps.now c.remove.new.steps
    (subst (λ l. CountsRemoval c.args.store.now l c.remove-slot.result c.len-last.result c.args.steps.now c.remove.new.steps)
    c.deref_mut.ensures.value c.remove.ensures.steps))

pub returns-clause-sum : goal.returns-clause-sum
returns-clause-sum g c =
    let s : Sum = record { cells = c.self.inside.cells.items; slots = c.self.inside.slots.items } in
    let last_is : c.len-last.result + 1 ≡ length s.slots =
    let now = c.len-last.ensures in let less = c.remove-slot.ensures.len in let long = c.self.inside.slots.ok.0 in omega (arith, now, less, long) in
    let lent_cells = lent c.remove.new.cells (drop (length c.remove.new.cells) c.self.inside.cells.items) c.self.inside.cells.len
    (c.remove.auto.cells ∙ c.deref_mut.ensures.len) in
    let lent_slots = lent c.rename.new.slots (drop (length c.rename.new.slots) c.remove-slot.new.self.items) c.remove-slot.new.self.len
    (c.rename.auto.slots ∙ c.deref_mut-2.ensures.len) in
    let are = c.rename.ensures ∙ ap (λ l. map (renamed c.len-last.result c.remove-slot.result) l) (c.deref_mut-2.ensures.value ∙ c.remove-slot.ensures.items) in
    subst (λ t. IsRemovedAt c.args.store.now t c.args.place c.remove.new.store
    (record {
      cells = (with_items c.self.inside.cells c.remove.new.cells).items;
      slots = (with_items c.remove-slot.new.self c.rename.new.slots).items;
    })) c.self.view_is
    (subst (λ l. IsRemovedAt c.args.store.now s c.args.place c.remove.new.store
    (record { cells = l; slots = (with_items c.remove-slot.new.self c.rename.new.slots).items })) (sym lent_cells)
    (is_removed_at c.args.store.now s c.args.place c.remove-slot.result c.len-last.result c.remove-slot.ensures.value last_is
    c.remove.new.store c.remove.new.cells
    (with_items c.remove-slot.new.self c.rename.new.slots).items (lent_slots ∙ are)
    (subst (λ l. IsRemoved c.args.store.now l c.remove-slot.result c.len-last.result c.remove.new.store c.remove.new.cells)
    c.deref_mut.ensures.value c.in_ok-remove.ensures.sum)))

pub returns-clause-steps : goal.returns-clause-steps
returns-clause-steps g c =
    let s : Sum = record { cells = c.self.inside.cells.items; slots = c.self.inside.slots.items } in
    let last_is : c.len-last.result + 1 ≡ length s.slots =
    let now = c.len-last.ensures in let less = c.remove-slot.ensures.len in let long = c.self.inside.slots.ok.0 in omega (arith, now, less, long) in
    subst (λ t. CountsRemovalAt c.args.store.now t c.args.place c.args.steps.now c.remove.new.steps) c.self.view_is
    (counts_removal_at c.args.store.now s c.args.place c.remove-slot.result c.len-last.result c.remove-slot.ensures.value last_is
    c.args.steps.now c.remove.new.steps
    (subst (λ l. CountsRemoval c.args.store.now l c.remove-slot.result c.len-last.result c.args.steps.now c.remove.new.steps)
    c.deref_mut.ensures.value c.remove.ensures.steps))
