-- The events of a text, read line after line, and that a text is read in one way.
use Rattle.std.proofs.Common.{◌≡◌, ℕ, ◌-◌, ◌≤◌, ◌<◌, List, [], ◌∷◌, ◌++◌, length, refl, sym, ap, subst, ◌∙◌, append-nil, append_assoc, arith}
use Rattle.std.specs.Prelude.{◌≢◌, Some, unwrap_or}
use Rattle.std.proofs.lemmas.Option.{none-some}
use Rattle.std.proofs.lemmas.List.{length-append}
use Rattle.pq_model.specs.declared.event.Event.{Event}
use Rattle.pq_model.specs.Events.{IsEvent, IsSchedule}
use Rattle.pq_schedule.specs.Schedules.{event_limit, BeginsWith, AreEvents, IsScheduleText, FirstFault, IsTooLong}

-- no event begins the text
abbrev IsStuck : List ℕ → Type 0
IsStuck text = (e : Event) (left : List ℕ) → BeginsWith text e left → ⊥

-- the events before the rest: whatever the rest is completes them
pub record IsReadBefore (text : List ℕ) (events : List Event) (rest : List ℕ) : Type 0 where
  pub few : length events ≤ event_limit
  pub within : length rest ≤ length text
  pub lawful : IsSchedule events
  pub divided : (more : List Event) (last : List ℕ) → AreEvents rest more last → AreEvents text (events ++ more) last

-- these are the events up to the rest
ends_here : (text : List ℕ) (events : List Event) (rest : List ℕ) → IsReadBefore text events rest → AreEvents text events rest
ends_here text events rest before = subst (λ es. AreEvents text es rest) (append-nil events) (before.divided [] rest refl)

-- a lawful list of events, and one more
lawful_push : (events : List Event) (e : Event) → IsSchedule events → IsEvent e → IsSchedule (events ++ e ∷ [])
lawful_push [] e lawful happens = (happens, tt)
lawful_push (x ∷ xs) e lawful happens = (lawful.0, lawful_push xs e lawful.1 happens)

-- one more event
pub read_pushes : (text : List ℕ) (events : List Event) (rest : List ℕ) (e : Event) (left : List ℕ) → IsReadBefore text events rest
    → length events < event_limit → length left ≤ length rest → BeginsWith rest e left → IsEvent e
    → IsReadBefore text (events ++ e ∷ []) left
read_pushes text events rest e left before more shorter begins happens = record {
  few = omega (arith, more, length-append events (e ∷ []));
  within = omega (arith, shorter, before.within);
  lawful = lawful_push events e before.lawful happens;
  divided = λ es last are. subst (λ xs. AreEvents text xs last) (sym (append_assoc events (e ∷ []) es)) (before.divided (e ∷ es) last (left, begins, are));
}

-- nothing is left
pub read_ends : (text : List ℕ) (events : List Event) (rest : List ℕ) → IsReadBefore text events rest → rest ≡ [] → IsScheduleText text events
read_ends text events rest before empty = (subst (AreEvents text events) empty (ends_here text events rest before), before.few)

-- the next line is not an event
pub read_stops : (text : List ℕ) (events : List Event) (rest : List ℕ) (place : ℕ) → IsReadBefore text events rest → rest ≢ []
    → IsStuck rest → place ≡ length text - length rest → FirstFault text place
read_stops text events rest place before more stuck is = record {
  events = events;
  rest = rest;
  before = ends_here text events rest before;
  few = before.few;
  begins = omega (arith, is, before.within);
  more = more;
  fault = stuck;
}

-- the next line is one event too many
pub read_overflows : (text : List ℕ) (events : List Event) (rest : List ℕ) (e : Event) (left : List ℕ) → IsReadBefore text events rest
    → length events ≡ event_limit → BeginsWith rest e left → IsTooLong text
read_overflows text events rest e left before full begins = record {
  events = events ++ e ∷ [];
  rest = left;
  before = before.divided (e ∷ []) left (left, begins, refl);
  many = omega (arith, full, length-append events (e ∷ []));
}

-- a line is one event, and one text is after it
same_event : (x y : Event) → Some x ≡ Some y → x ≡ y
same_event x y same = ap (λ o. unwrap_or o x) same

same_text : (x y : List ℕ) → Some x ≡ Some y → x ≡ y
same_text x y same = ap (λ o. unwrap_or o x) same

-- nothing begins the empty text
nothing_begins : IsStuck []
nothing_begins e left begins = none-some left begins.1

-- from one text, two lists of events up to where no event begins are one list, with one rest
pub one_reading : (text : List ℕ) (xs ys : List Event) (r s : List ℕ) → IsStuck r → IsStuck s → AreEvents text xs r → AreEvents text ys s → (xs ≡ ys) × (r ≡ s)
one_reading text [] [] r s stuck other first second = (refl, sym first ∙ second)
one_reading text [] (y ∷ ys) r s stuck other first second = absurd (stuck y second.0 (subst (λ t. BeginsWith t y second.0) first second.1))
one_reading text (x ∷ xs) [] r s stuck other first second = absurd (other x first.0 (subst (λ t. BeginsWith t x first.0) second first.1))
one_reading text (x ∷ xs) (y ∷ ys) r s stuck other first second =
    let same : x ≡ y = same_event x y (sym first.1.0 ∙ second.1.0) in
    let left : first.0 ≡ second.0 = same_text first.0 second.0 (sym first.1.1 ∙ second.1.1) in
    let rest = one_reading first.0 xs ys r s stuck other first.2 (subst (λ t. AreEvents t ys s) (sym left) second.2) in
    ((λ i. same i ∷ rest.0 i), rest.1)

-- no list of first events is longer than that up to where no event begins
longest : (text : List ℕ) (xs ys : List Event) (r s : List ℕ) → IsStuck r → AreEvents text xs r → AreEvents text ys s → length ys ≤ length xs
longest text xs [] r s stuck first second = omega arith
longest text [] (y ∷ ys) r s stuck first second = absurd (stuck y second.0 (subst (λ t. BeginsWith t y second.0) first second.1))
longest text (x ∷ xs) (y ∷ ys) r s stuck first second =
    let left : first.0 ≡ second.0 = same_text first.0 second.0 (sym first.1.1 ∙ second.1.1) in
    omega (arith, longest first.0 xs ys r s stuck first.2 (subst (λ t. AreEvents t ys s) (sym left) second.2))

-- a text has one list of events
pub one_schedule : (text : List ℕ) (xs ys : List Event) → IsScheduleText text xs → IsScheduleText text ys → xs ≡ ys
one_schedule text xs ys first second = (one_reading text xs ys [] [] nothing_begins nothing_begins first.0 second.0).0

-- its first line that is not an event is at one place
pub one_fault : (text : List ℕ) (p q : ℕ) → FirstFault text p → FirstFault text q → p ≡ q
one_fault text p q first second =
    let same = one_reading text first.events second.events first.rest second.rest first.fault second.fault first.before second.before in
    omega (arith, first.begins, second.begins, ap length same.1)

-- no text has two of the three: events, a line that is none, too many events
pub schedule_or_fault : (text : List ℕ) (xs : List Event) (p : ℕ) → IsScheduleText text xs → FirstFault text p → ⊥
schedule_or_fault text xs p schedule fault =
    fault.more (sym (one_reading text xs fault.events [] fault.rest nothing_begins fault.fault schedule.0 fault.before).1)

pub schedule_or_full : (text : List ℕ) (xs : List Event) → IsScheduleText text xs → IsTooLong text → ⊥
schedule_or_full text xs schedule full =
    omega (arith, longest text xs full.events [] full.rest nothing_begins schedule.0 full.before, full.many, schedule.1)

pub fault_or_full : (text : List ℕ) (p : ℕ) → FirstFault text p → IsTooLong text → ⊥
fault_or_full text p fault full =
    omega (arith, longest text fault.events full.events fault.rest full.rest fault.fault fault.before full.before, full.many, fault.few)
