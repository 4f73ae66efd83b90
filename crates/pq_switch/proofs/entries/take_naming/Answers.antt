use Rattle.std.proofs.Common.{◌≡◌, true, false, filter, ap, sym, subst, ◌∙◌, arith}
use Rattle.std.specs.Option.{IfNone, IfSome}
use Rattle.pq_switch.specs.Namings.{is_noted}
use Rattle.pq_switch.specs.declared.place.Place.{Place}
use Rattle.pq_switch.proofs.Noted.{none-names, one_less-indexed, other, others-stay}
use Rattle.pq_switch.proofs.entries.take_naming.Goals as goal

pub places-preserved : goal.places-preserved
places-preserved c =
    let g = c.args.group in
    let p = c.in-Some.place in
    let es = c.places.slots.entries in
    record {
      indexed = one_less-indexed g p c.places.index.keys c.remove.new.self.keys es c.take_if_naming.new.slots.entries c.places.invariant.indexed
          c.remove.ensures.updates.0 c.take_if_naming.ensures.rows c.take_if_naming.ensures.ordered;
      rows = ap (filter (other g)) c.take_if_naming.ensures.rows ∙ others-stay g p es ∙ c.places.invariant.rows;
    }

pub places-smaller : goal.places-smaller
places-smaller c =
    let some : is_noted c.places.index.keys c.args.group c.in-Some.place ≡ true =
    subst (λ o. IfSome o (λ p. is_noted c.places.index.keys c.args.group p ≡ true)) c.in-Some.is c.first_place.ensures.some in
    let found : c.remove.result ≡ true = c.remove.ensures.test ∙ some in
    let less = rw found at c.remove.ensures.len in
    omega (arith, less)

pub returns-in_default-clause-rows : goal.returns-in_default-clause-rows
returns-in_default-clause-rows c =
    let none = subst (λ o. IfNone o ((p : Place) → is_noted c.places.index.keys c.args.group p ≡ false)) c.in_default.is c.first_place.ensures.none in
    sym (none-names c.args.group c.places.index.keys none c.places.slots.entries c.places.invariant.indexed.noted) ∙ c.places.invariant.rows
