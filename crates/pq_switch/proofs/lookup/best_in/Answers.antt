use Rattle.std.proofs.Common.{◌≡◌, ap, sym, subst, ◌∙◌}
use Rattle.std.proofs.lemmas.Map.Iter.{rest_more}
use Rattle.std.specs.declared.ops.Bound.TheVariants.{Included, Excluded}
use Rattle.std.specs.BTreeMap.Range.{entries_between}
use Rattle.std.specs.Map.{values_of}
use Rattle.std.specs.Map.Iter.{deref_pair}
use Rattle.std.specs.Option.{option_copied}
use Rattle.pq_switch.specs.Choice.{best_of}
use Rattle.pq_switch.specs.Places.{place_at, place_cmp}
use Rattle.pq_switch.proofs.Falling.{Falls, ends, falls}
use Rattle.pq_switch.proofs.Ranges.{rises}
use Rattle.pq_switch.proofs.lookup.best_in.Goals as goal

pub range-slot-items-requires : goal.range-slot-items-requires
range-slot-items-requires c = rw (c.at-first.ensures, c.at-last.ensures) (rises c.args.table c.args.pattern)

pub loop-slot-init : goal.loop-slot-init
loop-slot-init c =
    let n = c.args.table in
    let p = c.args.pattern in
    let es = c.args.slots.now.entries in
    let whole : c.into_iter-slot-iterator.result ≡ entries_between place_cmp (Included (place_at n p 0)) (Excluded (place_at n p 0x10001)) es =
    c.into_iter-slot-iterator.ensures.into_iter_gives ∙ c.range-slot-items.ensures.between tt
    ∙ (λ i. entries_between place_cmp (Included (c.at-first.ensures i)) (Excluded (c.at-last.ensures i)) es) in
    record {
      best = ap (λ l. best_of n c.args.x.now (values_of l) (option_copied c.args.best)) whole;
      falls = subst (λ l. Falls (values_of l)) (sym whole) (falls c.requires.0 n p es c.requires.1 c.range-slot-items.ensures.ordered);
    }

pub returns-then-is_beaten : goal.returns-then-is_beaten
returns-then-is_beaten c =
    let left = rest_more deref_pair c.loop-slot.slot-iterator c.next.new.self c.next.result (
      c.in-Some.field-0-0,
      c.in-Some.slot,
    ) c.in-Some.is c.next.ensures.steps in
    let beaten = sym c.is_beaten.ensures ∙ c.if-is_beaten.true in
    let ended = ends c.args.table c.args.x.now c.in-Some.slot.now (values_of c.next.new.self) (option_copied c.loop-slot.best) beaten
    (subst (λ l. Falls (values_of l)) left c.loop-slot.invariant.falls) in
    sym ended ∙ ap (λ l. best_of c.args.table c.args.x.now (values_of l) (option_copied c.loop-slot.best)) (sym left) ∙ c.loop-slot.invariant.best
