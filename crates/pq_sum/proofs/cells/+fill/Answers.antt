use Rattle.std.proofs.Common.{◌/◌, ◌≡◌, ◌∙◌, ◌++◌, take, drop, length, ap, arith}
use Rattle.std.proofs.lemmas.Bool.Decides.{nat_tests}
use Rattle.pq_sum.proofs.Changing.{root_set}
use Rattle.pq_sum.proofs.Filling.{filled_front, filled_may_join, filled_none, filled_slot, may_fill_first, may_fill_halves, may_fill_second, whole_filled}
use Rattle.pq_sum.proofs.cells.+fill.Goals as goal

pub returns-then-is_empty-clause-filled : goal.returns-then-is_empty-clause-filled
returns-then-is_empty-clause-filled g t c T h ps empty each few fits =
    filled_none T c.args.store.now h c.args.cells.now c.args.leaves.now ps (grind (arith, nat_tests, c.is_empty.ensures, c.if-is_empty.true)) empty each

pub returns-then-cells-eq1-clause-filled : goal.returns-then-cells-eq1-clause-filled
returns-then-cells-eq1-clause-filled g t c T h ps empty each few fits =
    filled_slot T c.args.store.now h c.args.cells.now _ c.args.leaves.now ps c.index-leaves-0.result c.if-cells-eq1.true
    (grind (arith, nat_tests, c.is_empty.ensures, c.if-is_empty.false)) c.index-leaves-0.is
    (root_set c.args.cells.now c.index-leaves-0.result c.if-cells-eq1.true) empty each few

pub fill-requires : goal.fill-requires
fill-requires g t c κs within =
    let halves = may_fill_halves c.args.store.now c.args.cells.now c.split_at_mut-front.result.0.now c.split_at_mut-front.result.1.now
    c.args.leaves.now c.split_at.result.0.now c.split_at.result.1.now
    c.min.result c.if-cells-eq1.false
    (c.split_at_mut-front.ensures.front ∙ ap (λ l. take (length l / 2) l) c.split_at_mut-root.ensures.back)
    (c.split_at_mut-front.ensures.back ∙ ap (λ l. drop (length l / 2) l) c.split_at_mut-root.ensures.back)
    c.min.ensures c.split_at.ensures.front c.split_at.ensures.back c.requires.fill in
    let whole : length c.args.cells.now ≡ t = c.decreases in
    let below = c.split_at_mut-root.ensures.back_len in
    let first = c.split_at_mut-front.ensures.front_len in (
      omega (arith, whole, below, first),
      (
        within,
        (
          c.requires.none,
          may_fill_first c.args.store.now c.args.store.now c.split_at_mut-front.result.0.now c.split_at_mut-front.result.1.now
              c.split_at.result.0.now c.split_at.result.1.now halves,
        ),
      ),
    )

pub fill-requires-2 : goal.fill-requires-2
fill-requires-2 g t c κs within =
    let halves = may_fill_halves c.args.store.now c.args.cells.now c.split_at_mut-front.result.0.now c.split_at_mut-front.result.1.now
    c.args.leaves.now c.split_at.result.0.now c.split_at.result.1.now
    c.min.result c.if-cells-eq1.false
    (c.split_at_mut-front.ensures.front ∙ ap (λ l. take (length l / 2) l) c.split_at_mut-root.ensures.back)
    (c.split_at_mut-front.ensures.back ∙ ap (λ l. drop (length l / 2) l) c.split_at_mut-root.ensures.back)
    c.min.ensures c.split_at.ensures.front c.split_at.ensures.back c.requires.fill in
    let whole : length c.args.cells.now ≡ t = c.decreases in
    let below = c.split_at_mut-root.ensures.back_len in
    let behind = c.split_at_mut-front.ensures.back_len in (
      omega (arith, whole, below, behind),
      (
        within,
        (
          c.fill.ensures.keeps c.args.none _ c.requires.none,
          may_fill_second c.args.store.now c.fill.new.store c.split_at_mut-front.result.0.now c.split_at_mut-front.result.1.now
              c.split_at.result.0.now c.split_at.result.1.now halves c.fill.ensures.keeps,
        ),
      ),
    )

pub bounds-front-0 : goal.bounds-front-0
bounds-front-0 g t c =
    filled_front c.args.store.now c.fill.new.store c.fill-2.new.store c.split_at_mut-front.result.0.now c.split_at_mut-front.result.1.now
    c.split_at.result.0.now c.split_at.result.1.now
    c.fill.new.cells c.fill-2.new.cells c.fill.ensures.keeps c.fill-2.ensures.keeps c.in_ok-fill.ensures.filled c.in_ok-fill-2.ensures.filled
    (may_fill_halves c.args.store.now c.args.cells.now c.split_at_mut-front.result.0.now c.split_at_mut-front.result.1.now c.args.leaves.now
    c.split_at.result.0.now c.split_at.result.1.now
    c.min.result c.if-cells-eq1.false
    (c.split_at_mut-front.ensures.front ∙ ap (λ l. take (length l / 2) l) c.split_at_mut-root.ensures.back)
    (c.split_at_mut-front.ensures.back ∙ ap (λ l. drop (length l / 2) l) c.split_at_mut-root.ensures.back)
    c.min.ensures c.split_at.ensures.front c.split_at.ensures.back c.requires.fill)

pub joined-requires-clause-halves : goal.joined-requires-clause-halves
joined-requires-clause-halves g t c =
    filled_may_join c.args.store.now c.fill.new.store c.fill-2.new.store c.split_at_mut-front.result.0.now c.split_at_mut-front.result.1.now
    c.split_at.result.0.now c.split_at.result.1.now
    c.fill.new.cells c.fill-2.new.cells c.fill.ensures.keeps c.fill-2.ensures.keeps c.in_ok-fill.ensures.filled c.in_ok-fill-2.ensures.filled
    (may_fill_halves c.args.store.now c.args.cells.now c.split_at_mut-front.result.0.now c.split_at_mut-front.result.1.now c.args.leaves.now
    c.split_at.result.0.now c.split_at.result.1.now
    c.min.result c.if-cells-eq1.false
    (c.split_at_mut-front.ensures.front ∙ ap (λ l. take (length l / 2) l) c.split_at_mut-root.ensures.back)
    (c.split_at_mut-front.ensures.back ∙ ap (λ l. drop (length l / 2) l) c.split_at_mut-root.ensures.back)
    c.min.ensures c.split_at.ensures.front c.split_at.ensures.back c.requires.fill)
    c.index-front-0.result c.index-back-0.result c.index-front-0.is c.index-back-0.is

pub returns-clause-filled : goal.returns-clause-filled
returns-clause-filled g t c =
    whole_filled c.args.store.now c.fill.new.store c.fill-2.new.store c.split_at_mut-front.result.0.now c.split_at_mut-front.result.1.now
    c.split_at.result.0.now c.split_at.result.1.now
    c.fill.new.cells c.fill-2.new.cells c.fill.ensures.keeps c.fill-2.ensures.keeps c.in_ok-fill.ensures.filled c.in_ok-fill-2.ensures.filled
    c.joined.new.store c.args.cells.now c.args.leaves.now _ c.min.result c.index-front-0.result c.index-back-0.result c.in_ok-root.field-0 c.if-cells-eq1.false
    (c.split_at_mut-front.ensures.front ∙ ap (λ l. take (length l / 2) l) c.split_at_mut-root.ensures.back)
    (c.split_at_mut-front.ensures.back ∙ ap (λ l. drop (length l / 2) l) c.split_at_mut-root.ensures.back)
    c.min.ensures c.split_at.ensures.front c.split_at.ensures.back c.index-front-0.is c.index-back-0.is c.joined.ensures.keeps c.in_ok-root.ensures.unites
    (ap (λ l. l ++ (c.fill.new.cells ++ c.fill-2.new.cells))
    (root_set c.split_at_mut-root.result.0.now c.in_ok-root.field-0 c.split_at_mut-root.ensures.front_len))
