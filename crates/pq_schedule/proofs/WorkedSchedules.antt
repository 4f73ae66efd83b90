-- Worked texts of schedules, against the definitions.
use Rattle.std.specs.Prelude.{[], ◌∷◌, length, codes}
use Rattle.std.proofs.Common.{refl, ap, arith}
use Rattle.std.proofs.lemmas.Option.{none-some}
use Rattle.pq_model.specs.declared.event.Event.TheVariants.{Hop, Lose}
use Rattle.pq_schedule.specs.Schedules.{IsScheduleText, FirstFault}

-- nothing is a schedule without events
empty : IsScheduleText (codes "") []
empty = (refl, omega arith)

two-lines : IsScheduleText (codes "hop 0\nlose 1\n") (Hop 0 ∷ Lose 1 ∷ [])
two-lines = ((codes "lose 1\n", (refl, refl), ([], (refl, refl), refl)), omega arith)

-- the second line is not an event
second-line : FirstFault (codes "hop 0\nhop x\n") 6
second-line = record {
  events = Hop 0 ∷ [];
  rest = codes "hop x\n";
  before = (codes "hop x\n", (refl, refl), refl);
  few = omega arith;
  begins = refl;
  more = λ none. omega (arith, ap length none);
  fault = λ e left begins. none-some e begins.0;
}

-- an empty line is none
empty-line : FirstFault (codes "hop 0\n\n") 6
empty-line = record {
  events = Hop 0 ∷ [];
  rest = codes "\n";
  before = (codes "\n", (refl, refl), refl);
  few = omega arith;
  begins = refl;
  more = λ none. omega (arith, ap length none);
  fault = λ e left begins. none-some e begins.0;
}

-- and neither is one that is not ended
unended-line : FirstFault (codes "hop 0") 0
unended-line = record {
  events = [];
  rest = codes "hop 0";
  before = refl;
  few = omega arith;
  begins = refl;
  more = λ none. omega (arith, ap length none);
  fault = λ e left begins. none-some left begins.1;
}
