-- Trees that entries can stand for.
use Rattle.std.specs.Prelude.{◌≡◌, ◌⊎◌, ◌≤◌, ℕ, List, [], map, All, IfSome, nat_eq}
use Rattle.std.specs.declared.option.Option.{Option}
use Rattle.std.specs.declared.option.Option.TheVariants.{None, Some}
use Rattle.std.specs.List.{IsDistinct}
use Rattle.pq_fields.specs.declared.field.Field.{Field}
use Rattle.pq_fields.specs.declared.field.Field.TheVariants.{Switch, Port}
use Rattle.pq_fields.specs.Packet.{Numbers, Fit}
use Rattle.pq_fields.specs.Writes.{AllFit}
use Rattle.pq_model.specs.MatchFields.{IsPortNumber, IsTagWord}
use Rattle.pq_rewrite.specs.declared.outgoing.Outgoing.{Outgoing}
use Rattle.pq_rewrite.specs.declared.trees.Arrive.{Arrive}
use Rattle.pq_rewrite.specs.Rewriting.{ChangesAll}
use Rattle.pq_store.specs.declared.test.Test.TheVariants.{Equal}
use Rattle.pq_store.specs.Diagram.{IsDiagram}
use Rattle.pq_store.specs.Laws.{IsUntested, StandsBelow}
use Rattle.pq_store.specs.Tree.{Tree, value, IsTested}
use Rattle.pq_store.specs.Tree.Tree.{Tip, Fork}
use Rattle.pq_layout.specs.Messages.{ArrivingTrees, LeavingTrees}

-- the numbers of the ports that the tree tests are those of ports
abbrev pub TestsPorts : {L : Type 0} → Tree L → Type 0
TestsPorts t = (v : ℕ) → IsTested (Equal Port v) t → IsPortNumber v

-- the tree has no test of the switch, each test is below its prerequisites, and tested ports are numbers of ports
pub record IsMatchable {L : Type 0} (t : Tree L) : Type 0 where
  pub diagram : IsDiagram t
  pub switch : IsUntested Switch t
  pub prerequisites : (f : Field) → StandsBelow f [] t
  pub ports : TestsPorts t

-- each leaf of the tree is such
abbrev pub AllLeaves : {L : Type 0} → (L → Type 0) → Tree L → Type 0
AllLeaves P (Tip l) = P l
AllLeaves P (Fork t y n) = AllLeaves P y × AllLeaves P n

-- the number of a tag
abbrev pub IsTagNumber : ℕ → Type 0
IsTagNumber t = (1 ≤ t) × (t ≤ 4094)

abbrev pub IsSoundArrival : Option Arrive → Type 0
IsSoundArrival None = Unit {0}
IsSoundArrival (Some a) = IsTagNumber a.tag

-- numbers fit, tags are such, and a written port is the number of a port
pub record IsSoundCopy (c : Outgoing) : Type 0 where
  pub tag : IfSome c.tag IsTagNumber
  pub fit : AllFit c.writes
  pub port : IfSome c.writes.port IsPortNumber

-- what the tree's copies write changes each packet that they are copies of
abbrev pub IsIdleFree : Tree (List Outgoing) → Type 0
IsIdleFree t = (x : Numbers) → Fit x → All (λ c. ChangesAll x c.writes) (value t x)

pub record IsSoundArriving (word : ℕ) (t : Tree (Option Arrive)) : Type 0 where
  pub vlan : (word ≡ 0) ⊎ IsTagWord word
  pub matchable : IsMatchable t
  pub leaves : AllLeaves IsSoundArrival t

pub record IsSoundLeaving (word : ℕ) (t : Tree (List Outgoing)) : Type 0 where
  pub vlan : IsTagWord word
  pub matchable : IsMatchable t
  pub leaves : AllLeaves (All IsSoundCopy) t
  pub idle_free : IsIdleFree t

-- the trees of table 0, and those of table 1, each for packets with another VLAN_VID word
pub record AreSoundArriving (trees : ArrivingTrees) : Type 0 where
  pub words : IsDistinct nat_eq (map (λ p. p.0) trees)
  pub each : All (λ p. IsSoundArriving p.0 p.1) trees

pub record AreSoundLeaving (trees : LeavingTrees) : Type 0 where
  pub words : IsDistinct nat_eq (map (λ p. p.0) trees)
  pub each : All (λ p. IsSoundLeaving p.0 p.1) trees
