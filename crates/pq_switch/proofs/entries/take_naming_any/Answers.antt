use Rattle.std.proofs.Common.{filter, ap, sym, ◌∙◌}
use Rattle.std.proofs.lemmas.Map.Iter.{rest_all, rest_more}
use Rattle.std.specs.Map.Iter.{deref}
use Rattle.pq_switch.proofs.Noted.{all_removed, free, free-all, free-more}
use Rattle.pq_switch.proofs.entries.take_naming_any.Goals as goal

pub loop-group-init : goal.loop-group-init
loop-group-init c = record {
  indexed = c.requires;
  rows = ap (λ ns. filter (free ns) c.args.slots.now.entries) c.into_iter-group-iterator.ensures.into_iter_gives
      ∙ all_removed c.args.groups.now c.numbers-group-items.result c.numbers-group-items.ensures c.args.slots.now.entries;
}

pub loop-group-preserved : goal.loop-group-preserved
loop-group-preserved c =
    let es = c.loop-group.slots.entries in
    let g = c.in-Some.group.now in
    let left = rest_more deref c.loop-group.group-iterator c.next.new.self c.next.result c.in-Some.group c.in-Some.is c.next.ensures.steps in
    record {
      indexed = c.take_naming.ensures.indexed;
      rows = ap (filter (free c.next.new.self)) c.take_naming.ensures.rows ∙ free-more g c.next.new.self es
          ∙ sym (ap (λ ns. filter (free ns) es) left) ∙ c.loop-group.invariant.rows;
    }

pub returns-clause-rows : goal.returns-clause-rows
returns-clause-rows c =
    let es = c.loop-group.slots.entries in
    let none = rest_all deref c.loop-group.group-iterator c.next.new.self c.next.result c.in-None.is c.next.ensures.steps in
    sym (free-all es) ∙ ap (λ ns. filter (free ns) es) (sym none) ∙ c.loop-group.invariant.rows
