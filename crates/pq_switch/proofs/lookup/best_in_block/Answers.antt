use Rattle.std.proofs.Common.{◌≡◌, [], ap, sym, subst, ◌∙◌}
use Rattle.std.specs.Option.{option_copied}
use Rattle.pq_switch.specs.Choice.{best_of}
use Rattle.pq_switch.specs.Patterns.{projected}
use Rattle.pq_switch.specs.Places.{past}
use Rattle.pq_switch.specs.Ranges.{range_of}
use Rattle.pq_switch.specs.declared.place.Place.{Place}
use Rattle.pq_switch.proofs.Scan.{IsBestBefore, begins, block_stays, ends, gets_shorter, goes_on}
use Rattle.pq_switch.proofs.lookup.best_in_block.Goals as goal

pub shapes-init : goal.shapes-init
shapes-init c =
    let n = c.args.block.table in
    let x = c.args.x.now in
    let b = c.args.block in
    let es = c.args.slots.now.entries in
    record {
      block = ap (λ (q : Place). q.block) c.first-from.ensures;
      best = λ start sub is_best.
          subst (λ q. IsBestBefore n x es start b q (option_copied c.args.best)) (sym c.first-from.ensures)
          (begins n x es start b c.requires.0 c.requires.1 (option_copied c.args.best) sub is_best);
    }

pub returns-in_default : goal.returns-in_default
returns-in_default c = λ start sub is_best.
    let n = c.args.block.table in
    let x = c.args.x.now in
    let b = c.args.block in
    let es = c.args.slots.now.entries in
    let found = option_copied c.best_of_few-behind.result.0 in
    let is = sym c.best_of_few-behind.ensures.value ∙ ap (λ q. (found, q)) c.in_default.is in
    let so_far = c.shapes.invariant.best start sub is_best in
    ends n x es start b c.requires.0 c.requires.1 c.best_of_few-behind.ensures.ordered c.shapes.from c.shapes.invariant.block
    (option_copied c.shapes.best) so_far 128 found is

pub shapes-smaller : goal.shapes-smaller
shapes-smaller c =
    let n = c.args.block.table in
    let x = c.args.x.now in
    let b = c.args.block in
    let es = c.args.slots.now.entries in
    let found = option_copied c.best_of_few-behind.result.0 in
    let is = sym c.best_of_few-behind.ensures.value ∙ ap (λ q. (found, q)) c.in-Some.is in
    gets_shorter n x es [] b c.requires.0 c.requires.1 c.shapes.from (option_copied c.shapes.best) 128 found c.in-Some.place is

pub shapes-preserved : goal.shapes-preserved
shapes-preserved c =
    let n = c.args.block.table in
    let x = c.args.x.now in
    let b = c.args.block in
    let es = c.args.slots.now.entries in
    let q = c.in-Some.place in
    let found = option_copied c.best_of_few-behind.result.0 in
    let is = sym c.best_of_few-behind.ensures.value ∙ ap (λ p. (found, p)) c.in-Some.is in
    let pattern : c.projected-pattern.result ≡ projected q.shape x = c.projected-pattern.ensures ∙ ap (projected q.shape) c.x.view_is in
    let best = c.best_in-best.ensures ∙ ap (λ p. best_of n x (range_of n p es) found) pattern in
    record {
      block = block_stays n x es [] b c.requires.0 c.requires.1 c.shapes.from (option_copied c.shapes.best) 128 found q is;
      best = λ start sub is_best.
          subst (IsBestBefore n x es start b (past q)) (sym best)
          (goes_on n x es start b c.requires.0 c.requires.1 c.best_of_few-behind.ensures.ordered c.shapes.from c.shapes.invariant.block
          (option_copied c.shapes.best) (c.shapes.invariant.best start sub is_best) 128 found q is);
    }
