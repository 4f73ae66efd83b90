-- The order of the copies that a switch sends.
use Rattle.std.specs.Prelude.{ℕ, List, ◌∷◌}
use Rattle.pq_model.specs.declared.tagged.Sent.{Sent}
use Rattle.pq_model.specs.declared.tagged.Sent.TheVariants.{Port, Controller}
use Rattle.pq_model.specs.Tagged.{tagged_numbers}

-- copies to ports are before those to the controller
abbrev pub sent_numbers : Sent → List ℕ
sent_numbers (Port x) = 0 ∷ tagged_numbers x
sent_numbers (Controller x) = 1 ∷ tagged_numbers x
