-- The report: which instances hold the words of classes.
use Rattle.std.specs.Prelude.{ℕ, zero, suc, ◌<◌, ◌≤◌, List, [], ◌∷◌, ◌++◌, All, length, if◌then◌else◌}
use Rattle.pq_auto.specs.Machine.{Machine, accepted_at}
use Rattle.pq_join.specs.Tags.{captures_at}
use Rattle.pq_layout.specs.Emission.{instances_at}
use Rattle.pq_model.specs.Buckets.{Instance, instance_numbers}
use Rattle.pq_model.specs.Install.{AscendsBy, IsLawfulPair}
use Rattle.pq_model.specs.Lawful.{Ascends}
use Rattle.pq_model.specs.TablesMachine.{Report}

-- the numbers of the instances that hold the words of a class ascend, and are below this one
abbrev pub AreHeldBelow : ℕ → Machine → Type 0
AreHeldBelow n m = (c : ℕ) → c < length m.rows → Ascends (accepted_at m c) × All (λ i. i < n) (accepted_at m c)

-- at most 1,024 instances in ascending order, each of one of this many queries
pub record AreInstances (queries : ℕ) (instances : List Instance) : Type 0 where
  pub few : length instances ≤ 1024
  pub ascend : AscendsBy instance_numbers instances
  pub lawful : All (IsLawfulPair queries) instances

-- the row of a class, where an instance holds its words
abbrev pub row_at : Machine → List Instance → ℕ → Report
row_at m instances c = if captures_at m c then record { tag = suc c; pairs = instances_at instances (accepted_at m c) } ∷ [] else []

-- the rows of the first classes
abbrev pub report_to : Machine → List Instance → ℕ → Report
report_to m instances zero = []
report_to m instances (suc c) = report_to m instances c ++ row_at m instances c
