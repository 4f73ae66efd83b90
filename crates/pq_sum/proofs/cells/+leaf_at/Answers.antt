use Rattle.std.proofs.Common.{ℕ, ◌+◌, ◌-◌, ◌/◌, ◌≡◌, ◌∙◌, List, take, drop, length, refl, ap, arith}
use Rattle.std.proofs.lemmas.List.{length-drop, take_all}
use Rattle.pq_sum.proofs.Leaves.{first_leaf, halves_have_leaf, only_leaf, second_leaf, some_leaf_cell}
use Rattle.pq_sum.proofs.cells.+leaf_at.Goals as goal

-- the cells after the root
rest : (cells : List ℕ) → take (length cells - 1) (drop 1 cells) ≡ drop 1 cells
rest cells = let long = length-drop 1 cells in take_all (length cells - 1) (drop 1 cells) (omega (arith, long))

pub returns-then-cells-eq1 : goal.returns-then-cells-eq1
returns-then-cells-eq1 t c = only_leaf c.args.cells.now c.args.slot c.index-cells-0.result c.if-cells-eq1.true c.index-cells-0.is

pub leaf_at-requires : goal.leaf_at-requires
leaf_at-requires t c =
    let cells = c.args.cells.now in
    let whole : length cells ≡ t = c.decreases in
    let some = some_leaf_cell cells c.args.slot c.requires in
    let front = c.split_at.ensures.front_len in
    let below = ap (λ l. length l) (rest cells) in
    let long = length-drop 1 cells in (
      omega (arith, whole, some, front, below, long),
      (halves_have_leaf cells c.split_at.result.0.now c.split_at.result.1.now c.args.slot (length c.split_at.result.0.now / 2 + 1) c.if-cells-eq1.false
          (c.split_at.ensures.front ∙ ap (λ l. take (length l / 2) l) (rest cells)) (c.split_at.ensures.back
          ∙ ap (λ l. drop (length l / 2) l) (rest cells)) refl c.requires).first c.if-slot-half.true,
    )

pub leaf_at-requires-else-slot-half : goal.leaf_at-requires-else-slot-half
leaf_at-requires-else-slot-half t c =
    let cells = c.args.cells.now in
    let whole : length cells ≡ t = c.decreases in
    let some = some_leaf_cell cells c.args.slot c.requires in
    let back = c.split_at.ensures.back_len in
    let below = ap (λ l. length l) (rest cells) in
    let long = length-drop 1 cells in (
      omega (arith, whole, some, back, below, long),
      (halves_have_leaf cells c.split_at.result.0.now c.split_at.result.1.now c.args.slot (length c.split_at.result.0.now / 2 + 1) c.if-cells-eq1.false
          (c.split_at.ensures.front ∙ ap (λ l. take (length l / 2) l) (rest cells)) (c.split_at.ensures.back
          ∙ ap (λ l. drop (length l / 2) l) (rest cells)) refl c.requires).behind c.if-slot-half.false,
    )

pub returns-then-slot-half : goal.returns-then-slot-half
returns-then-slot-half t c =
    let cells = c.args.cells.now in
    first_leaf cells c.split_at.result.0.now c.split_at.result.1.now c.args.slot (length c.split_at.result.0.now / 2 + 1) c.if-cells-eq1.false
    (c.split_at.ensures.front ∙ ap (λ l. take (length l / 2) l) (rest cells)) (c.split_at.ensures.back ∙ ap (λ l. drop (length l / 2) l) (rest cells)) refl
    c.if-slot-half.true c.leaf_at.result c.leaf_at.ensures

pub returns-else-slot-half : goal.returns-else-slot-half
returns-else-slot-half t c =
    let cells = c.args.cells.now in
    second_leaf cells c.split_at.result.0.now c.split_at.result.1.now c.args.slot (length c.split_at.result.0.now / 2 + 1) c.if-cells-eq1.false
    (c.split_at.ensures.front ∙ ap (λ l. take (length l / 2) l) (rest cells)) (c.split_at.ensures.back ∙ ap (λ l. drop (length l / 2) l) (rest cells)) refl
    c.if-slot-half.false c.leaf_at-else-slot-half.result c.leaf_at-else-slot-half.ensures
