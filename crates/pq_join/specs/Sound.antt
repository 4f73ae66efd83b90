-- What makes the trees of a switch such that entries can stand for them.
use Rattle.std.specs.Prelude.{ℕ, ◌≡◌, ◌≤◌, ◌<◌, ◌^◌, ◌⊎◌, false, List, [], All, Some, length, slice_get}
use Rattle.pq_fields.specs.declared.field.Field.{Field}
use Rattle.pq_fields.specs.declared.field.Field.TheVariants.{Switch, Port}
use Rattle.pq_fields.specs.Packet.{has_field}
use Rattle.pq_fields.specs.Writes.{Written}
use Rattle.pq_model.specs.Install.{IsLawfulTopology}
use Rattle.pq_model.specs.MatchFields.{IsPortNumber}
use Rattle.pq_model.specs.Topology.{Topology}
use Rattle.pq_auto.specs.Machine.{IsMachine, Machine}
use Rattle.pq_letters.specs.Letters.{IsLettered, LettersValue}
use Rattle.pq_layout.specs.Leaves.{departing}
use Rattle.pq_layout.specs.Sound.{AllLeaves, IsIdleFree as IsIdleFreeLeaving, IsSoundArrival, IsSoundCopy, TestsPorts}
use Rattle.pq_layout.specs.Trees.{IsArriving, IsLeaving}
use Rattle.pq_rewrite.specs.declared.outgoing.Outgoing.{Outgoing}
use Rattle.pq_rewrite.specs.declared.trees.Arrive.{Arrive}
use Rattle.pq_rewrite.specs.declared.trees.Key.{Key}
use Rattle.pq_rewrite.specs.declared.trees.Key.TheVariants.{Plain, Tag}
use Rattle.pq_rewrite.specs.Rewriting.{IsIdleFree}
use Rattle.std.specs.declared.option.Option.{Option}
use Rattle.pq_store.specs.declared.test.Test.TheVariants.{Equal}
use Rattle.pq_store.specs.Diagram.{IsDiagram}
use Rattle.pq_store.specs.Laws.{Ignores, IsUntested, StandsBelow}
use Rattle.pq_store.specs.Tree.{Tree, IsTested, value}
use Rattle.pq_join.specs.Tags.{tagging_of}

-- a lawful topology, and at most 4,094 classes of words over letters of packets
pub record HasTags (T : Topology) (a : LettersValue) (m : Machine) : Type 0 where
  pub lawful : IsLawfulTopology T
  pub lettered : IsLettered a
  pub letters : m.letters ≡ length a.least
  pub machine : IsMachine m
  pub few : length m.rows ≤ 4094

-- the tag of a class
abbrev pub IsTagOf : Machine → ℕ → Type 0
IsTagOf m t = (1 ≤ t) × (t ≤ length m.rows)

abbrev pub IsKeyOf : Machine → Key → Type 0
IsKeyOf m Plain = Unit {0}
IsKeyOf m (Tag t) = IsTagOf m t

-- no test of the switch, and tags of classes at the leaves
pub record IsSoundFirst (t : Tree (Option Arrive)) : Type 0 where
  pub switch : IsUntested Switch t
  pub leaves : AllLeaves IsSoundArrival t

-- no test of the switch, sound copies at the leaves, and these change the packets that reach them
pub record IsSoundSecond (t : Tree (List Outgoing)) : Type 0 where
  pub switch : IsUntested Switch t
  pub leaves : AllLeaves (All IsSoundCopy) t
  pub idle_free : IsIdleFreeLeaving t

-- so are the trees of the first table
abbrev pub ArrivingAreSound : Type 0
ArrivingAreSound =
    (T : Topology) (a : LettersValue) (m : Machine) (d : ℕ) → HasTags T a m → d < 2 ^ 64
    → (k : Key) (t : Tree (Option Arrive)) → IsKeyOf m k → IsArriving T (tagging_of a m) d k t → IsSoundFirst t

-- and those of the second, for an idle-free policy
abbrev pub LeavingAreSound : Type 0
LeavingAreSound =
    (T : Topology) (a : LettersValue) (m : Machine) (d : ℕ) → HasTags T a m → d < 2 ^ 64 → (p : Tree (List Written)) → IsIdleFree p
    → (b : ℕ) (t : Tree (List Outgoing)) → IsTagOf m b → IsLeaving T (tagging_of a m) (departing T (value p)) d b t → IsSoundSecond t

-- the value doesn't depend on the number in a field that the packet lacks
abbrev pub IgnoresLacking : {L : Type 0} → Tree L → Type 0
IgnoresLacking t = (f : Field) → Ignores f (λ x. has_field f x ≡ false) t

-- where letters don't depend on numbers that packets lack, each test of a tree of the first table is below its prerequisites
abbrev pub ArrivingStandBelow : Type 0
ArrivingStandBelow =
    (T : Topology) (a : LettersValue) (m : Machine) (d : ℕ) → d < 2 ^ 64 → (lt : Tree ℕ) → slice_get a.trees a.root ≡ Some lt → IgnoresLacking lt
    → (k : Key) (t : Tree (Option Arrive)) → IsArriving T (tagging_of a m) d k t → (f : Field) → StandsBelow f [] t

-- and each of the second, where the policy doesn't depend on them either
abbrev pub LeavingStandBelow : Type 0
LeavingStandBelow =
    (T : Topology) (a : LettersValue) (m : Machine) (d : ℕ) → d < 2 ^ 64 → (lt : Tree ℕ) → slice_get a.trees a.root ≡ Some lt → IgnoresLacking lt
    → (p : Tree (List Written)) → IsIdleFree p → IgnoresLacking p
    → (b : ℕ) (t : Tree (List Outgoing)) → IsLeaving T (tagging_of a m) (departing T (value p)) d b t → (f : Field) → StandsBelow f [] t

-- tested ports are numbers of ports, or 0
abbrev pub TestsPortsOrZero : {L : Type 0} → Tree L → Type 0
TestsPortsOrZero t = (v : ℕ) → IsTested (Equal Port v) t → IsPortNumber v ⊎ (v ≡ 0)

-- the trees of the first table don't test port 0, which no packet arrives at
abbrev pub ArrivingTestPorts : Type 0
ArrivingTestPorts =
    (T : Topology) (a : LettersValue) (m : Machine) (d : ℕ) → IsLawfulTopology T → d < 2 ^ 64
    → (k : Key) (t : Tree (Option Arrive)) → IsArriving T (tagging_of a m) d k t → TestsPortsOrZero t → TestsPorts t

-- nor do those of the second, where the policy doesn't
abbrev pub LeavingTestPorts : Type 0
LeavingTestPorts =
    (T : Topology) (a : LettersValue) (m : Machine) (d : ℕ) → IsLawfulTopology T → d < 2 ^ 64 → (p : Tree (List Written)) → IsDiagram p → TestsPorts p
    → (b : ℕ) (t : Tree (List Outgoing)) → IsLeaving T (tagging_of a m) (departing T (value p)) d b t → TestsPortsOrZero t → TestsPorts t
