use Rattle.std.proofs.Common.{◌+◌, ◌*◌, ◌/◌, ◌≡◌, ◌∙◌, ◌++◌, take, drop, length, ap, arith}
use Rattle.std.proofs.lemmas.Result.{on_ok_weaker}
use Rattle.pq_sum.proofs.Changing.{changed_may_join, changed_slot, first_changed, first_counted, first_may_change, half_may_change}
use Rattle.pq_sum.proofs.Changing.{half_slots, halves_counted, root_set, second_changed, second_counted, second_may_change, some_front}
use Rattle.pq_sum.proofs.Changing.{whole_changed, whole_counted}
use Rattle.pq_sum.proofs.Trees.{some_cell}
use Rattle.pq_sum.proofs.cells.+setting.Goals as goal

-- A whole tree.

pub set-returns-then-cells-eq1-clause-changed : goal.set-returns-then-cells-eq1-clause-changed
set-returns-then-cells-eq1-clause-changed g t c T h ps new tree change =
    changed_slot T c.args.store.now c.args.cells.now _ c.args.slot c.args.leaf h ps new c.if-cells-eq1.true
    (root_set c.args.cells.now c.args.leaf c.if-cells-eq1.true) tree change

pub set-split_at_mut-root-requires : goal.set-split_at_mut-root-requires
set-split_at_mut-root-requires g t c =
    let m = c.requires.change in
    some_cell m.topology c.args.store.now m.height c.args.cells.now m.parts m.tree

pub set-set_half-requires : goal.set-set_half-requires
set-set_half-requires g t c κs within =
    let m = c.requires.change in
    let some = some_cell m.topology c.args.store.now m.height c.args.cells.now m.parts m.tree in
    let whole : 2 * length c.args.cells.now ≡ t = c.decreases in
    let below = c.split_at_mut-root.ensures.back_len in
    let first = c.split_at_mut-front.ensures.front_len in
    let behind = c.split_at_mut-front.ensures.back_len in (
      omega (arith, some, whole, below, first, behind),
      (
        within,
        (
          c.requires.none,
          half_may_change c.args.store.now c.args.cells.now c.split_at_mut-front.result.0.now c.split_at_mut-front.result.1.now c.args.slot
              c.args.leaf c.if-cells-eq1.false
              (c.split_at_mut-front.ensures.front ∙ ap (λ l. take (length l / 2) l) c.split_at_mut-root.ensures.back)
              (c.split_at_mut-front.ensures.back ∙ ap (λ l. drop (length l / 2) l) c.split_at_mut-root.ensures.back) m,
        ),
      ),
    )

pub set-returns-in_err-set_half-clause-steps : goal.set-returns-in_err-set_half-clause-steps
set-returns-in_err-set_half-clause-steps g t c T h ps new tree change =
    halves_counted T c.args.store.now c.set_half.new.store c.set_half.new.store c.args.cells.now c.split_at_mut-front.result.0.now
    c.split_at_mut-front.result.1.now
    c.set_half.new.front c.set_half.new.back c.args.slot c.args.leaf
    (c.split_at_mut-front.ensures.front ∙ ap (λ l. take (length l / 2) l) c.split_at_mut-root.ensures.back)
    (c.split_at_mut-front.ensures.back ∙ ap (λ l. drop (length l / 2) l) c.split_at_mut-root.ensures.back) c.if-cells-eq1.false
    c.args.steps.now c.set_half.new.steps c.set_half.new.steps c.set_half.ensures.steps h ps new tree change

pub set-bounds-front-0 : goal.set-bounds-front-0
set-bounds-front-0 g t c =
    some_front c.args.store.now c.set_half.new.store c.split_at_mut-front.result.0.now c.split_at_mut-front.result.1.now
    c.set_half.new.front c.set_half.new.back c.args.slot c.args.leaf
    (half_may_change c.args.store.now c.args.cells.now c.split_at_mut-front.result.0.now c.split_at_mut-front.result.1.now c.args.slot
    c.args.leaf c.if-cells-eq1.false
    (c.split_at_mut-front.ensures.front ∙ ap (λ l. take (length l / 2) l) c.split_at_mut-root.ensures.back)
    (c.split_at_mut-front.ensures.back ∙ ap (λ l. drop (length l / 2) l) c.split_at_mut-root.ensures.back) c.requires.change)
    c.in_ok-set_half.ensures.changed

pub set-joined-requires-clause-halves : goal.set-joined-requires-clause-halves
set-joined-requires-clause-halves g t c =
    changed_may_join c.args.store.now c.set_half.new.store c.split_at_mut-front.result.0.now c.split_at_mut-front.result.1.now
    c.set_half.new.front c.set_half.new.back c.args.slot c.args.leaf
    (half_may_change c.args.store.now c.args.cells.now c.split_at_mut-front.result.0.now c.split_at_mut-front.result.1.now c.args.slot
    c.args.leaf c.if-cells-eq1.false
    (c.split_at_mut-front.ensures.front ∙ ap (λ l. take (length l / 2) l) c.split_at_mut-root.ensures.back)
    (c.split_at_mut-front.ensures.back ∙ ap (λ l. drop (length l / 2) l) c.split_at_mut-root.ensures.back) c.requires.change)
    c.in_ok-set_half.ensures.changed c.index-front-0.result c.index-back-0.result c.index-front-0.is c.index-back-0.is

pub set-returns-in_err-root-clause-steps : goal.set-returns-in_err-root-clause-steps
set-returns-in_err-root-clause-steps g t c T h ps new tree change =
    whole_counted T c.args.store.now c.set_half.new.store c.set_half.new.store c.args.cells.now c.split_at_mut-front.result.0.now
    c.split_at_mut-front.result.1.now
    c.set_half.new.front c.set_half.new.back c.args.slot c.args.leaf
    (c.split_at_mut-front.ensures.front ∙ ap (λ l. take (length l / 2) l) c.split_at_mut-root.ensures.back)
    (c.split_at_mut-front.ensures.back ∙ ap (λ l. drop (length l / 2) l) c.split_at_mut-root.ensures.back) c.if-cells-eq1.false
    c.args.steps.now c.set_half.new.steps c.joined.new.steps c.set_half.ensures.steps
    c.index-back-0.result c.index-back-0.is c.in_ok-set_half.ensures.changed c.joined.ensures.step (c.joined.ensures.no_step T) h ps new tree change

pub set-returns-clause-changed : goal.set-returns-clause-changed
set-returns-clause-changed g t c T =
    whole_changed T c.args.store.now c.set_half.new.store c.joined.new.store c.args.cells.now c.split_at_mut-front.result.0.now
    c.split_at_mut-front.result.1.now
    c.set_half.new.front c.set_half.new.back c.args.slot c.args.leaf
    (c.split_at_mut-front.ensures.front ∙ ap (λ l. take (length l / 2) l) c.split_at_mut-root.ensures.back)
    (c.split_at_mut-front.ensures.back ∙ ap (λ l. drop (length l / 2) l) c.split_at_mut-root.ensures.back) c.if-cells-eq1.false
    _ c.in_ok-root.field-0 c.index-front-0.result c.index-back-0.result c.index-front-0.is c.index-back-0.is
    c.joined.ensures.keeps c.in_ok-set_half.ensures.changed (c.in_ok-root.ensures.unites T)
    (ap (λ l. l ++ (c.set_half.new.front ++ c.set_half.new.back))
    (root_set c.split_at_mut-root.result.0.now c.in_ok-root.field-0 c.split_at_mut-root.ensures.front_len))

pub set-returns-clause-steps : goal.set-returns-clause-steps
set-returns-clause-steps g t c T h ps new tree change =
    whole_counted T c.args.store.now c.set_half.new.store c.set_half.new.store c.args.cells.now c.split_at_mut-front.result.0.now
    c.split_at_mut-front.result.1.now
    c.set_half.new.front c.set_half.new.back c.args.slot c.args.leaf
    (c.split_at_mut-front.ensures.front ∙ ap (λ l. take (length l / 2) l) c.split_at_mut-root.ensures.back)
    (c.split_at_mut-front.ensures.back ∙ ap (λ l. drop (length l / 2) l) c.split_at_mut-root.ensures.back) c.if-cells-eq1.false
    c.args.steps.now c.set_half.new.steps c.joined.new.steps c.set_half.ensures.steps
    c.index-back-0.result c.index-back-0.is c.in_ok-set_half.ensures.changed c.joined.ensures.step (c.joined.ensures.no_step T) h ps new tree change

-- One of two halves.

pub set_half-set-requires : goal.set_half-set-requires
set_half-set-requires g t c κs within =
    let m = c.requires.change in
    let whole : 2 * (length c.args.front.now + length c.args.back.now) + 1 ≡ t = c.decreases in
    let slots = half_slots m.topology c.args.store.now m.height c.args.front.now c.args.back.now m.parts m.new c.args.slot c.args.leaf m.halves m.change in (
      omega (arith, whole),
      (
        within,
        (
          c.requires.none,
          first_may_change m.topology c.args.store.now m.height c.args.front.now c.args.back.now m.parts m.new c.args.slot c.args.leaf
              m.halves m.change (omega (arith, slots, c.if-slot-half.true)),
        ),
      ),
    )

pub set_half-set-requires-else-slot-half : goal.set_half-set-requires-else-slot-half
set_half-set-requires-else-slot-half g t c κs within =
    let m = c.requires.change in
    let whole : 2 * (length c.args.front.now + length c.args.back.now) + 1 ≡ t = c.decreases in
    let slots = half_slots m.topology c.args.store.now m.height c.args.front.now c.args.back.now m.parts m.new c.args.slot c.args.leaf m.halves m.change in (
      omega (arith, whole),
      (
        within,
        (
          c.requires.none,
          second_may_change m.topology c.args.store.now m.height c.args.front.now c.args.back.now m.parts m.new c.args.slot c.args.leaf
              m.halves m.change _ (omega (arith, slots, c.if-slot-half.false)),
        ),
      ),
    )

pub set_half-returns-then-slot-half-clause-changed : goal.set_half-returns-then-slot-half-clause-changed
set_half-returns-then-slot-half-clause-changed g t c =
    on_ok_weaker c.set.result (λ changed T h ps new halves change.
    let slots = half_slots T c.args.store.now h c.args.front.now c.args.back.now ps new c.args.slot c.args.leaf halves change in
    first_changed T c.args.store.now h c.args.front.now c.args.back.now ps new c.args.slot c.args.leaf halves change (omega (arith, slots, c.if-slot-half.true))
    c.set.new.store c.set.new.cells c.set.ensures.keeps changed) c.set.ensures.changed

pub set_half-returns-then-slot-half-clause-steps : goal.set_half-returns-then-slot-half-clause-steps
set_half-returns-then-slot-half-clause-steps g t c T h ps new halves change =
    let slots = half_slots T c.args.store.now h c.args.front.now c.args.back.now ps new c.args.slot c.args.leaf halves change in
    first_counted T c.args.store.now h c.args.front.now c.args.back.now ps new c.args.slot c.args.leaf halves change (omega (arith, slots, c.if-slot-half.true))
    c.args.steps.now c.set.new.steps c.set.ensures.steps

pub set_half-returns-else-slot-half-clause-changed : goal.set_half-returns-else-slot-half-clause-changed
set_half-returns-else-slot-half-clause-changed g t c =
    on_ok_weaker c.set-else-slot-half.result (λ changed T h ps new halves change.
    let slots = half_slots T c.args.store.now h c.args.front.now c.args.back.now ps new c.args.slot c.args.leaf halves change in
    second_changed T c.args.store.now h c.args.front.now c.args.back.now ps new c.args.slot c.args.leaf halves change _
    (omega (arith, slots, c.if-slot-half.false))
    c.set-else-slot-half.new.store c.set-else-slot-half.new.cells c.set-else-slot-half.ensures.keeps changed) c.set-else-slot-half.ensures.changed

pub set_half-returns-else-slot-half-clause-steps : goal.set_half-returns-else-slot-half-clause-steps
set_half-returns-else-slot-half-clause-steps g t c T h ps new halves change =
    let slots = half_slots T c.args.store.now h c.args.front.now c.args.back.now ps new c.args.slot c.args.leaf halves change in
    second_counted T c.args.store.now h c.args.front.now c.args.back.now ps new c.args.slot c.args.leaf halves change _
    (omega (arith, slots, c.if-slot-half.false))
    c.args.steps.now c.set-else-slot-half.new.steps c.set-else-slot-half.ensures.steps
