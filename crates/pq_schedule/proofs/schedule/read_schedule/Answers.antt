use Rattle.std.proofs.Common.{◌≡◌, ◌≢◌, ◌<◌, ◌≤◌, [], ◌∷◌, ◌++◌, length, refl, sym, ap, subst, ◌∙◌, rules}
use Rattle.std.specs.Prelude.{option_copied}
use Rattle.std.proofs.lemmas.List.{nil_from_length}
use Rattle.std.proofs.lemmas.Option.{none-some}
use Rattle.pq_model.specs.Events.{IsEvent}
use Rattle.pq_schedule.specs.Lines.{event_of}
use Rattle.pq_schedule.proofs.Readings.{IsReadBefore, read_pushes, read_stops, read_overflows, read_ends}
use Rattle.pq_schedule.proofs.schedule.read_schedule.Goals as goal

-- no line feed ends the next line
pub returns-in_default-clause-err : goal.returns-in_default-clause-err
returns-in_default-clause-err c =
    let left : c.loop-rest.rest.now ≢ [] = search rules in
    read_stops _ c.loop-rest.events.items _ _ c.loop-rest.invariant left
    (λ e behind begins. none-some behind (ap option_copied (sym c.in_default.is) ∙ c.cut_at.ensures.behind ∙ begins.1)) refl

-- the next line is not an event
pub returns-in_default-event_of_line-clause-err : goal.returns-in_default-event_of_line-clause-err
returns-in_default-event_of_line-clause-err c =
    let left : c.loop-rest.rest.now ≢ [] = search rules in
    read_stops _ c.loop-rest.events.items _ _ c.loop-rest.invariant left (λ e behind begins. none-some e (sym c.in_default-event_of_line.is
    ∙ c.event_of_line.ensures.value ∙ ap event_of c.cut_at.ensures.before ∙ begins.0)) refl

-- the next line is an event too many
pub returns-then-len-eq-EVENT_LIMIT-clause-err : goal.returns-then-len-eq-EVENT_LIMIT-clause-err
returns-then-len-eq-EVENT_LIMIT-clause-err c =
    let full : length c.loop-rest.events.items ≡ 100000 = search rules in
    let event = sym (ap event_of c.cut_at.ensures.before) ∙ sym c.event_of_line.ensures.value ∙ c.in-Some-event_of_line.is in
    let behind = sym c.cut_at.ensures.behind ∙ ap option_copied c.in-Some.is in
    read_overflows _ c.loop-rest.events.items _ _ _ c.loop-rest.invariant full (event, behind)

-- nothing is left
pub returns-clause-ok : goal.returns-clause-ok
returns-clause-ok c =
    let empty : length c.loop-rest.rest.now ≡ 0 = search rules in
    read_ends _ c.loop-rest.events.items _ c.loop-rest.invariant (nil_from_length _ empty)

-- the next line is one more event
pub loop-rest-preserved : goal.loop-rest-preserved
loop-rest-preserved c =
    let pushed : c.push.new.self.items ≡ c.loop-rest.events.items ++ c.in-Some-event_of_line.event ∷ [] = search rules in
    let more : length c.loop-rest.events.items < 100000 = search rules in
    let shorter : length c.in-Some.behind.now ≤ length c.loop-rest.rest.now = search rules in
    let event = sym (ap event_of c.cut_at.ensures.before) ∙ sym c.event_of_line.ensures.value ∙ c.in-Some-event_of_line.is in
    let behind = sym c.cut_at.ensures.behind ∙ ap option_copied c.in-Some.is in
    let happens : IsEvent c.in-Some-event_of_line.event = search rules in
    subst (λ es. IsReadBefore c.args.text.now es c.in-Some.behind.now) (sym pushed)
    (read_pushes _ c.loop-rest.events.items _ _ _ c.loop-rest.invariant more shorter (event, behind) happens)
