-- Laws that join diagrams, tags and tables.
use Rattle.std.specs.Prelude.{◌≡◌, ◌<◌, ◌^◌, ℕ, false, List}
use Rattle.pq_fields.specs.declared.field.Field.{Field}
use Rattle.pq_fields.specs.Packet.{has_field}
use Rattle.pq_fields.specs.Writes.{Written}
use Rattle.pq_model.specs.Headline.{Implements}
use Rattle.pq_model.specs.Install.{Install, IsLawfulTopology}
use Rattle.pq_model.specs.Meaning.{Meaning}
use Rattle.pq_model.specs.Topology.{Topology}
use Rattle.pq_policy.specs.Policy.{PolicyTree}
use Rattle.pq_query.specs.Instances.{instances_of}
use Rattle.pq_query.specs.Languages.{IsHeld}
use Rattle.pq_query.specs.Query.{QueryTree}
use Rattle.pq_store.specs.Laws.{Ignores}
use Rattle.pq_store.specs.Tree.{Tree, value}
use Rattle.pq_rewrite.specs.Rewriting.{IsIdleFree}
use Rattle.pq_layout.specs.Emission.{AreTrees}
use Rattle.pq_layout.specs.Leaves.{AreDepartures, Departures, departing}
use Rattle.pq_layout.specs.Messages.{ArrivingTrees, LeavingTrees}
use Rattle.pq_layout.specs.Tagging.{Tagging}
use Rattle.pq_headline.specs.LaidOut.{IsLaidOut}
use Rattle.pq_meaning.specs.Compiled.{IsCompiled, IsFilled, IsLaid}
use Rattle.pq_meaning.specs.Meaning.{IsMeaning, departs}
use Rattle.pq_meaning.specs.Parts.{AreLawful, IsUnionOfParts}

-- of what the diagram of all parts writes, what leaves at a port is the departures
abbrev pub PartsDepart : Type 0
PartsDepart = (T : Topology) (ps : List PolicyTree) (t : Tree (List Written)) → IsUnionOfParts T ps t → AreDepartures (departs T ps) (departing T (value t))

-- and it is idle-free
abbrev pub PartsAreIdleFree : Type 0
PartsAreIdleFree = (T : Topology) (ps : List PolicyTree) (t : Tree (List Written)) → IsUnionOfParts T ps t → IsIdleFree t

-- departures and tags of a document's parts and queries are laid out for its meaning
abbrev pub MeaningsAreLaidOut : Type 0
MeaningsAreLaidOut =
    (T : Topology) (ps : List PolicyTree) (qs : List QueryTree) (m : Meaning) (g : Tagging) (writes : Departures)
    → IsLawfulTopology T → IsMeaning T ps qs m → IsLaid T ps qs g writes → IsLaidOut T m (IsHeld qs (instances_of T qs)) g writes

-- the install of a document implements its meaning, where its messages come from trees that entries can stand for
abbrev pub CompiledImplements : Type 0
CompiledImplements =
    (T : Topology) (names : List (List ℕ)) (ps : List PolicyTree) (qs : List QueryTree) (i : Install) (m : Meaning)
    → IsLawfulTopology T → (c : IsCompiled T names ps qs i) → IsFilled T c.tags c.writes i → IsMeaning T ps qs m → Implements i m

-- where the parts are lawful, the value of their diagram doesn't depend on the number in a field that the packet lacks
abbrev pub PartsIgnoreLacking : Type 0
PartsIgnoreLacking =
    (T : Topology) (ps : List PolicyTree) (t : Tree (List Written)) → AreLawful ps → IsUnionOfParts T ps t
    → (f : Field) → Ignores f (λ x. has_field f x ≡ false) t

-- a document has one install
abbrev pub HasOneInstall : Type 0
HasOneInstall =
    (T : Topology) (names : List (List ℕ)) (ps : List PolicyTree) (qs : List QueryTree) (i j : Install)
    → IsLawfulTopology T → IsCompiled T names ps qs i → IsCompiled T names ps qs j → i ≡ j

-- by whatever departures and tags a document is laid out, its trees are the same, at each datapath number
abbrev pub HasOneSetOfTrees : Type 0
HasOneSetOfTrees =
    (T : Topology) (ps : List PolicyTree) (qs : List QueryTree) (g h : Tagging) (writes more : Departures) → IsLaid T ps qs g writes → IsLaid T ps qs h more
    → (d : ℕ) → d < 2 ^ 64 → (a : ArrivingTrees) (b : LeavingTrees) → AreTrees T g writes d a b → AreTrees T h more d a b

-- where departures and tags are laid out for a document, the document has a meaning
abbrev pub HasMeaning : Type 0
HasMeaning =
    (T : Topology) (ps : List PolicyTree) (qs : List QueryTree) (g : Tagging) (writes : Departures)
    → IsLaid T ps qs g writes → (m : Meaning) × IsMeaning T ps qs m
