use Rattle.std.proofs.Common.{List, filter, ap, sym, ◌∙◌}
use Rattle.std.specs.BTreeMap.Range.{range_contains}
use Rattle.std.specs.declared.ops.Bound.TheVariants.{Included, Unbounded}
use Rattle.pq_switch.specs.Namings.{naming, naming_cmp}
use Rattle.pq_switch.specs.declared.naming.Naming.{Naming}
use Rattle.pq_switch.specs.declared.place.Place.{Place}
use Rattle.pq_switch.proofs.Noted.{none_from, other_from}
use Rattle.pq_switch.proofs.naming.first_place.Goals as goal

pub returns-in_default-clause-none : goal.returns-in_default-clause-none
returns-in_default-clause-none c =
    let keys : List Naming = c.args.index.now.keys in
    let onward : Place → List Naming = λ q. filter (range_contains naming_cmp (Included (naming c.args.group q)) Unbounded) keys in
    λ place. other_from c.args.group place keys c.in-Some.naming.now c.next.new.self c.range.ensures.ordered
    (ap onward (sym c.first.ensures) ∙ sym (c.range.ensures.between tt) ∙ c.in-Some.ensures.steps) c.if-naming-group.false

pub returns-in_default-2-clause-none : goal.returns-in_default-2-clause-none
returns-in_default-2-clause-none c =
    let keys : List Naming = c.args.index.now.keys in
    let onward : Place → List Naming = λ q. filter (range_contains naming_cmp (Included (naming c.args.group q)) Unbounded) keys in
    let ended = rw c.in_default.is at c.next.ensures.steps in
    λ place. none_from c.args.group place keys (ap onward (sym c.first.ensures) ∙ sym (c.range.ensures.between tt) ∙ ended.0)
