-- The messages of the install before a change.
use Rattle.std.proofs.Common.{◌≡◌, ◌<◌, ◌^◌, ℕ, List, [], ◌∷◌, sym, subst, ◌∙◌}
use Rattle.std.specs.declared.option.Option.TheVariants.{None}
use Rattle.std.specs.List.{AllByRecursion, AllZip}
use Rattle.std.proofs.lemmas.List.Elements.{recursion_from_All}
use Rattle.std.proofs.lemmas.Option.{same_Some}
use Rattle.pq_lists.proofs.Paired.{zip_weaker}
use Rattle.pq_fields.specs.Writes.{Written}
use Rattle.pq_auto.specs.Machine.{Machine}
use Rattle.pq_letters.specs.Letters.{LettersValue}
use Rattle.pq_model.specs.declared.message.Message.{Message}
use Rattle.pq_model.specs.Buckets.{Instance}
use Rattle.pq_model.specs.Install.{Install, IsLawfulList, IsLawfulSwitch}
use Rattle.pq_model.specs.Topology.{Switch, Topology}
use Rattle.pq_policy.specs.Policy.{PolicyTree}
use Rattle.pq_query.specs.Instances.{instances_of}
use Rattle.pq_store.specs.Tree.{Tree, value}
use Rattle.pq_layout.specs.Emission.{AreMessages, AreTrees}
use Rattle.pq_layout.specs.Leaves.{Departures, departing}
use Rattle.pq_layout.specs.Messages.{ArrivingTrees, LeavingTrees}
use Rattle.pq_layout.specs.Tagging.{Tagging}
use Rattle.pq_lookup.specs.Sent.{AreFilled}
use Rattle.pq_join.specs.Tags.{tagging_of}
use Rattle.pq_meaning.specs.Laws.{HasOneSetOfTrees, PartsDepart}
use Rattle.pq_meaning.specs.Tags.{ClassesTag}
use Rattle.pq_emit.specs.Faults.{first_fault, group_fault, table_fault}
use Rattle.pq_emit.specs.Switches.{AreAllTrees, TablesTrees}
use Rattle.pq_compile.specs.Compiled.{IsLaidFor}
use Rattle.pq_compile.specs.Documents.{DocumentTree}
use Rattle.pq_compile.specs.Names.{Named}
use Rattle.pq_compile.specs.Prepared.{AreClassified, ForwardsAt, IsCompilable, parts_in, queries_in}
use Rattle.pq_local.specs.Local.{AreServedAt, IsBefore, IsServed, IsServedAt, with_parts}
use Rattle.pq_local.proofs.Small.{none_told, or_nothing}

-- Messages that come from trees.
module _ (T : Topology) (h : Tagging) (more : Departures) where
  -- messages of filled tables, from trees
  abbrev pub Comes : Switch → List Message → Type 0
  Comes s ms = (a : AreMessages T h more s.datapath ms) × AreFilled a.first a.second

  abbrev trees_in : (ss : List Switch) (all : List (List Message)) → AllZip Comes ss all → List TablesTrees
  trees_in [] [] come = []
  trees_in [] (ms ∷ all) come = absurd come
  trees_in (s ∷ ss) [] come = absurd come
  trees_in (s ∷ ss) (ms ∷ all) come = record { first = come.0.0.first; second = come.0.0.second } ∷ trees_in ss all come.1

  are_in : (ss : List Switch) (all : List (List Message)) (come : AllZip Comes ss all)
      → AllZip (λ s t. AreTrees T h more s.datapath t.first t.second) ss (trees_in ss all come)
  are_in [] [] come = tt
  are_in [] (ms ∷ all) come = absurd come
  are_in (s ∷ ss) [] come = absurd come
  are_in (s ∷ ss) (ms ∷ all) come = (come.0.0.trees, are_in ss all come.1)

  -- they serve the switches, also by other departures and tags that have the same trees
  module _ (g : Tagging) (writes : Departures)
      (move : (d : ℕ) → d < 2 ^ 64 → (a : ArrivingTrees) (b : LeavingTrees) → AreTrees T h more d a b → AreTrees T g writes d a b) where
    serve : (ss : List Switch) (all : List (List Message)) (come : AllZip Comes ss all) → first_fault table_fault ss (trees_in ss all come) ≡ None
        → first_fault group_fault ss (trees_in ss all come) ≡ None → AllByRecursion IsLawfulSwitch ss → AllByRecursion IsLawfulList all
        → AllZip (IsServed T g writes) ss all
    serve [] [] come tables groups switches lists = tt
    serve [] (ms ∷ all) come tables groups switches lists = absurd come
    serve (s ∷ ss) [] come tables groups switches lists = absurd come
    serve (s ∷ ss) (ms ∷ all) come tables groups switches lists =
        let t : TablesTrees = record { first = come.0.0.first; second = come.0.0.second } in
        let rest = trees_in ss all come.1 in
        let table = or_nothing (table_fault s t) (first_fault table_fault ss rest) tables in
        let group = or_nothing (group_fault s t) (first_fault group_fault ss rest) groups in (
          record {
            trees = t;
            are = move s.datapath switches.0.0 t.first t.second come.0.0.trees;
            made = record { messages = come.0.0.messages; filled = come.0.1 };
            tables = table.0;
            groups = group.0;
            lawful = lists.0;
          },
          serve ss all come.1 table.1 group.1 switches.1 lists.1,
        )

module _ (depart : PartsDepart) (tag : ClassesTag) (d : DocumentTree) (is : List Instance) (a : LettersValue) (m : Machine)
    (classified : AreClassified d is a m) where
  -- what the diagram of some parts leaves at ports, and the tags of the classes, are the document's with these parts
  pub laid_with : (ps : List (Named PolicyTree)) (forward : List (Tree (List Written))) (k : ℕ) (at : ForwardsAt (with_parts d ps) forward k)
      → IsLaidFor (with_parts d ps) (tagging_of a m) (departing d.topology (value at.0))
  laid_with ps forward k at = record {
    departures = depart d.topology (parts_in (with_parts d ps)) at.0 at.2;
    tagging = tag (queries_in d) (instances_of d.topology (queries_in d)) a m classified.told.classes;
    few = classified.tags;
  }

  -- the old messages serve the switches by what the old diagram leaves at ports, and by these tags
  pub served_before : HasOneSetOfTrees → IsCompilable d
      → (forward : List (Tree (List Written))) (before : ℕ) (old : Install) (was : IsBefore d forward before old)
      → AllZip (IsServed d.topology (tagging_of a m) (departing d.topology (value was.forwards.0))) d.topology.switches old.messages
  served_before one can forward before old was =
      let T = d.topology in
      let g = tagging_of a m in
      let writes = departing T (value was.forwards.0) in
      let install = was.installed.install in
      let come = was.installed.filled in
      let trees = trees_in T install.tags install.writes T.switches old.messages come in
      let are : AreAllTrees T install.tags install.writes trees = are_in T install.tags install.writes T.switches old.messages come in
      let none = none_told T install.tags install.writes trees are (was.within install.tags install.writes install.laid) in
      let both = or_nothing (first_fault table_fault T.switches trees) (first_fault group_fault T.switches trees) none in
      let move = one T (parts_in (with_parts d was.parts)) (queries_in d) install.tags g install.writes writes install.laid
      (laid_with was.parts forward before was.forwards) in
      serve T install.tags install.writes g writes move T.switches old.messages come both.0 both.1
      (recursion_from_All IsLawfulSwitch T.switches can.lawful.topology.lawful.switches)
      (recursion_from_All IsLawfulList old.messages was.installed.lawful.messages)

  pub served_at_before : HasOneSetOfTrees → IsCompilable d → (forward : List (Tree (List Written))) (before : ℕ) (old : Install) → IsBefore d forward before old
      → AreServedAt d.topology forward before a m old.messages
  served_at_before one can forward before old was =
      let T = d.topology in
      let q = was.forwards in
      zip_weaker (IsServed T (tagging_of a m) (departing T (value q.0))) (IsServedAt T forward before a m)
      (λ s ms served p at. subst (λ t. IsServed T (tagging_of a m) (departing T (value t)) s ms) (same_Some q.0 p (sym q.1 ∙ at)) served)
      T.switches old.messages (served_before one can forward before old was)
