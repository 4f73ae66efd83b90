-- What the tables of a document's network are made from.
use Rattle.std.specs.Prelude.{◌≡◌, ◌<◌, ◌≤◌, ◌^◌, ℕ, List, map, length, All, Some}
use Rattle.std.specs.declared.option.Option.{Option}
use Rattle.std.specs.declared.option.Option.TheVariants.{None}
use Rattle.pq_fields.specs.declared.field.Field.{Field}
use Rattle.pq_fields.specs.Writes.{Written}
use Rattle.pq_auto.specs.Machine.{Machine}
use Rattle.pq_letters.specs.Letters.{LettersValue}
use Rattle.pq_model.specs.Buckets.{Instance}
use Rattle.pq_model.specs.Classes.{HasClasses, Languages}
use Rattle.pq_policy.specs.Policy.{PolicyTree}
use Rattle.pq_query.specs.Atoms.{query_atoms}
use Rattle.pq_query.specs.Instances.{IsCause, instances_of, label_sum}
use Rattle.pq_query.specs.Languages.{IsHeld}
use Rattle.pq_query.specs.Query.{QueryTree}
use Rattle.pq_query.specs.declared.listing.InstancesFault.TheVariants as listing
use Rattle.pq_classes.specs.Letters.{IgnoresLacking, TestsQueries}
use Rattle.pq_classes.specs.Told.{AreClasses}
use Rattle.pq_classes.specs.declared.classes.QueryClasses.{QueryClasses}
use Rattle.pq_values.specs.Limits.{first_full}
use Rattle.pq_values.specs.Stated.{stated}
use Rattle.pq_compile.specs.Documents.{DocumentTree}
use Rattle.pq_compile.specs.Lawful.{IsLawfulDocument}
use Rattle.pq_store.specs.Store.{HasAt}
use Rattle.pq_store.specs.Tree.{Tree}
use Rattle.pq_emit.specs.Network.{AreTreesAt}
use Rattle.pq_emit.specs.Switches.{IsSoundAt}
use Rattle.pq_meaning.specs.Parts.{IsUnionOfParts}
use Rattle.pq_compile.specs.declared.preparing.NetworkTrees.{NetworkTrees}
use Rattle.pq_compile.specs.declared.preparing.Prepared.{Prepared}
use Rattle.pq_compile.specs.declared.preparing.TreeSources.{TreeSources}
use Rattle.pq_compile.specs.declared.preparing.PrepareFault.{PrepareFault}
use Rattle.pq_compile.specs.declared.preparing.PrepareFault.TheVariants.{ValuesFull, InstancesFull, TagWidth, Memory}

-- the policies and the queries of a document, without their names
abbrev pub parts_in : DocumentTree → List PolicyTree
parts_in d = map (λ p. p.1) d.parts

abbrev pub queries_in : DocumentTree → List QueryTree
queries_in d = map (λ q. q.1) d.queries

-- the words that each instance holds, by its number
abbrev pub languages_in : DocumentTree → Languages
languages_in d = IsHeld (queries_in d) (instances_of d.topology (queries_in d))

-- a document that may be compiled: it is lawful, and each query has fewer than 2^19 atoms
pub record IsCompilable (d : DocumentTree) : Type 0 where
  pub lawful : IsLawfulDocument d
  pub atoms : All (λ q. query_atoms q < 2 ^ 19) (queries_in d)

-- the first field for which the document states more numbers than its limit allows, with how many these are
abbrev pub full_field : DocumentTree → Option (Field × ℕ)
full_field d = first_full (stated d.topology (parts_in d) (queries_in d))

-- no field is above its limit of stated values
abbrev pub HasFewValues : DocumentTree → Type 0
HasFewValues d = full_field d ≡ None

-- there are at most 1,024 instances
abbrev pub HasFewInstances : DocumentTree → Type 0
HasFewInstances d = label_sum d.topology (queries_in d) ≤ 1024

-- there are at most 4,094 classes of words
abbrev pub HasFewClasses : DocumentTree → Type 0
HasFewClasses d = (n : ℕ) × HasClasses (languages_in d) n × (n ≤ 4094)

-- the document is within the limits on what tables are made from
pub record IsWithin (d : DocumentTree) : Type 0 where
  pub values : HasFewValues d
  pub instances : HasFewInstances d
  pub classes : HasFewClasses d

-- the first limit on what tables are made from that the document is beyond; running out of memory may come at any time
abbrev pub IsPrepareFault : DocumentTree → PrepareFault → Type 0
IsPrepareFault d (ValuesFull field count) = full_field d ≡ Some (field, count)
IsPrepareFault d (InstancesFull count) = HasFewValues d × IsCause (listing.InstancesFull count) (label_sum d.topology (queries_in d))
IsPrepareFault d (TagWidth classes) = HasFewValues d × HasFewInstances d × HasClasses (languages_in d) classes × (4094 < classes)
IsPrepareFault d Memory = Unit {0}

-- the instances of the document's queries, letters that tell them apart, and the classes of words
pub record AreTold (d : DocumentTree) (all : List Instance) (a : LettersValue) (m : Machine) : Type 0 where
  pub instances : all ≡ instances_of d.topology (queries_in d)
  pub few : length all ≤ 1024
  pub within : All (λ i. i.query < length d.queries) all
  pub sum : HasFewInstances d
  pub classes : AreClasses (languages_in d) a m
  pub tests : TestsQueries d.topology (queries_in d) a
  pub ignores : IgnoresLacking a

abbrev pub IsTold : DocumentTree → QueryClasses → Type 0
IsTold d c = AreTold d c.instances.items c.letters c.classes

-- and there are at most 4,094 classes
pub record AreClassified (d : DocumentTree) (all : List Instance) (a : LettersValue) (m : Machine) : Type 0 where
  pub told : AreTold d all a m
  pub tags : length m.rows ≤ 4094

abbrev pub IsClassified : DocumentTree → QueryClasses → Type 0
IsClassified d c = AreClassified d c.instances.items c.letters c.classes

-- the tree at the place is that of what the document's parts forward
abbrev pub ForwardsAt : DocumentTree → List (Tree (List Written)) → ℕ → Type 0
ForwardsAt d forward policy = HasAt (IsUnionOfParts d.topology (parts_in d)) forward policy

-- what trees of switches are made from is that of the document
pub record AreTreeSources (d : DocumentTree) (s : TreeSources) : Type 0 where
  pub few : HasFewValues d
  pub policy : ForwardsAt d s.forward s.policy
  pub classified : IsClassified d s.told

-- the trees of all switches that are made from these; entries can stand for them
pub record AreNetworkTrees (d : DocumentTree) (forward : List (Tree (List Written))) (policy : ℕ) (a : LettersValue) (m : Machine)
    (t : NetworkTrees) : Type 0 where
  pub trees : AreTreesAt d.topology forward policy a m t.first t.second t.switches.items
  pub sound : All (IsSoundAt t.first t.second) t.switches.items

-- diagrams, letters and classes of the document, and the trees of all switches that are made from them
pub record IsPrepared (d : DocumentTree) (p : Prepared) : Type 0 where
  pub few : HasFewValues d
  pub policy : ForwardsAt d p.forward p.policy
  pub classified : AreClassified d p.instances.items p.letters p.classes
  pub trees : AreTreesAt d.topology p.forward p.policy p.letters p.classes p.first p.second p.trees.items
  pub sound : All (IsSoundAt p.first p.second) p.trees.items
