-- What predicates tell of observations.
use Rattle.std.specs.Prelude.{List, map}
use Rattle.pq_fields.specs.Pred.{PredTree, holds}
use Rattle.pq_model.specs.Word.{Observation, In, Out, Word}
use Rattle.pq_expr.specs.declared.side.Side.TheVariants.{In as Inward, Out as Outward}
use Rattle.pq_expr.specs.Word.{HalfStep, Word as HalfSteps}

-- an observation as a half step: its side, and for each predicate of the list whether it holds of the packet
abbrev pub half_step : List PredTree → Observation → HalfStep
half_step ps (In x) = record { side = Inward; truth = map (λ p. holds p x) ps }
half_step ps (Out x) = record { side = Outward; truth = map (λ p. holds p x) ps }

-- a word of observations as a word of half steps
abbrev pub half_steps : List PredTree → Word → HalfSteps
half_steps ps w = map (half_step ps) w
