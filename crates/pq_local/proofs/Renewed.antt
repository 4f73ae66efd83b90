-- The install whose messages serve the switches by the new policy.
use Rattle.std.proofs.Common.{◌≡◌, ◌∙◌, ℕ, List, [], ◌∷◌, length, refl, sym, ap}
use Rattle.std.specs.declared.option.Option.{Option}
use Rattle.std.specs.declared.option.Option.TheVariants.{None}
use Rattle.std.specs.List.{AllZip}
use Rattle.std.proofs.lemmas.Slice.Zip.{AllZip-long}
use Rattle.pq_lists.proofs.Paired.{zip_weaker, zip_right}
use Rattle.pq_fields.specs.Writes.{Written}
use Rattle.pq_auto.specs.Machine.{Machine}
use Rattle.pq_letters.specs.Letters.{LettersValue}
use Rattle.pq_model.specs.declared.message.Message.{Message}
use Rattle.pq_model.specs.Buckets.{Instance}
use Rattle.pq_model.specs.Install.{Install, IsLawfulInstall, IsLawfulList}
use Rattle.pq_model.specs.Topology.{Switch, Topology}
use Rattle.pq_query.specs.Instances.{instances_of}
use Rattle.pq_store.specs.Tree.{Tree, value}
use Rattle.pq_layout.specs.Emission.{AreMessages, AreTrees, IsEmission, report_of}
use Rattle.pq_layout.specs.Leaves.{Departures, departing}
use Rattle.pq_layout.specs.Tagging.{Tagging}
use Rattle.pq_join.specs.Tags.{tagging_of}
use Rattle.pq_rules.specs.declared.fault.RulesFault.{RulesFault}
use Rattle.pq_meaning.specs.Compiled.{IsCompiled, IsFilled}
use Rattle.pq_meaning.specs.Laws.{CompiledImplements, HasOneInstall, HasOneSetOfTrees, PartsDepart}
use Rattle.pq_meaning.specs.Tags.{ClassesTag}
use Rattle.pq_emit.specs.Faults.{fault_of, first_fault, group_fault, table_fault}
use Rattle.pq_emit.specs.Switches.{TablesTrees}
use Rattle.pq_emit.proofs.Concluded.{no_fault}
use Rattle.pq_compile.specs.Compiled.{AreTablesWithin, IsInstalled}
use Rattle.pq_compile.specs.Documents.{DocumentTree}
use Rattle.pq_compile.specs.Lawful.{names_in}
use Rattle.pq_compile.specs.Prepared.{AreClassified, ForwardsAt, IsCompilable, parts_in, queries_in}
use Rattle.pq_compile.proofs.OneFault.{tables_within}
use Rattle.pq_local.specs.Local.{AreServedAt, IsBefore, IsServed, IsServedAt, with_parts}
use Rattle.pq_local.proofs.Before.{laid_with, served_before, Comes}
use Rattle.pq_local.proofs.Small.{nothing_or}

-- Messages that serve switches.
module _ (T : Topology) (g : Tagging) (writes : Departures) where
  pub all_from : (ss : List Switch) (all : List (List Message)) → AllZip (IsServed T g writes) ss all → AllZip (Comes T g writes) ss all
  all_from ss all served =
      zip_weaker (IsServed T g writes) (Comes T g writes)
      (λ s ms is. (record { first = is.trees.first; second = is.trees.second; trees = is.are; messages = is.made.messages }, is.made.filled)) ss all served

  pub all_messages : (ss : List Switch) (all : List (List Message)) → AllZip (IsServed T g writes) ss all
      → AllZip (λ s ms. AreMessages T g writes s.datapath ms) ss all
  all_messages ss all served =
      zip_weaker (Comes T g writes) (λ s ms. AreMessages T g writes s.datapath ms) (λ s ms from. from.0) ss all (all_from ss all served)

  abbrev trees_in : (ss : List Switch) (all : List (List Message)) → AllZip (IsServed T g writes) ss all → List TablesTrees
  trees_in [] [] served = []
  trees_in [] (ms ∷ all) served = absurd served
  trees_in (s ∷ ss) [] served = absurd served
  trees_in (s ∷ ss) (ms ∷ all) served = served.0.trees ∷ trees_in ss all served.1

  are_in : (ss : List Switch) (all : List (List Message)) (served : AllZip (IsServed T g writes) ss all)
      → AllZip (λ s t. AreTrees T g writes s.datapath t.first t.second) ss (trees_in ss all served)
  are_in [] [] served = tt
  are_in [] (ms ∷ all) served = absurd served
  are_in (s ∷ ss) [] served = absurd served
  are_in (s ∷ ss) (ms ∷ all) served = (served.0.are, are_in ss all served.1)

  none_in : (fault : Switch → TablesTrees → Option RulesFault) → ((s : Switch) (ms : List Message) (is : IsServed T g writes s ms) → fault s is.trees ≡ None)
      → (ss : List Switch) (all : List (List Message)) (served : AllZip (IsServed T g writes) ss all) → first_fault fault ss (trees_in ss all served) ≡ None
  none_in fault none [] [] served = refl
  none_in fault none [] (ms ∷ all) served = absurd served
  none_in fault none (s ∷ ss) [] served = absurd served
  none_in fault none (s ∷ ss) (ms ∷ all) served =
      nothing_or (fault s served.0.trees) (first_fault fault ss (trees_in ss all served.1)) (none s ms served.0) (none_in fault none ss all served.1)

  -- so no table is too large
  none_full : (all : List (List Message)) (served : AllZip (IsServed T g writes) T.switches all) → fault_of T.switches (trees_in T.switches all served) ≡ None
  none_full all served =
      let trees = trees_in T.switches all served in
      nothing_or (first_fault table_fault T.switches trees) (first_fault group_fault T.switches trees)
      (none_in table_fault (λ s ms is. is.tables) T.switches all served) (none_in group_fault (λ s ms is. is.groups) T.switches all served)

module _ (depart : PartsDepart) (tag : ClassesTag) (d : DocumentTree) (is : List Instance) (a : LettersValue) (m : Machine)
    (classified : AreClassified d is a m) (can : IsCompilable d)
    (forward : List (Tree (List Written))) (policy : ℕ) (forwards : ForwardsAt d forward policy) (all : List (List Message))
    (at : AreServedAt d.topology forward policy a m all) where
  abbrev tags : Tagging
  tags = tagging_of a m

  abbrev writes : Departures
  writes = departing d.topology (value forwards.0)

  served : AllZip (IsServed d.topology tags writes) d.topology.switches all
  served =
      zip_weaker (IsServedAt d.topology forward policy a m) (IsServed d.topology tags writes)
      (λ s ms serves. serves forwards.0 forwards.1) d.topology.switches all at

  -- all tables are within the limits
  pub tables_small : AreTablesWithin d
  tables_small =
      tables_within d can.lawful.topology.lawful tags writes (laid_with depart tag d is a m classified d.parts forward policy forwards)
      (no_fault d.topology tags writes (trees_in d.topology tags writes d.topology.switches all served)
      (are_in d.topology tags writes d.topology.switches all served)
      (none_full d.topology tags writes all served))

  module _ (one : HasOneSetOfTrees) (only : HasOneInstall) (before : ℕ) (old : Install) (was : IsBefore d forward before old) where
    -- the old report is that of these tags
    old_report : old.report ≡ report_of tags (instances_of d.topology (queries_in d))
    old_report =
        let more = departing d.topology (value was.forwards.0) in
        let emission = was.installed.install.emission in
        let instances = instances_of d.topology (queries_in d) in
        let same : Install = record { topology = old.topology; queries = old.queries; report = report_of tags instances; messages = old.messages } in
        let compiled : IsCompiled d.topology (names_in d.queries) (parts_in (with_parts d was.parts)) (queries_in d) same = record {
          writes = more;
          tags = tags;
          laid = laid_with depart tag d is a m classified was.parts forward before was.forwards;
          emission = record {
            topology = emission.topology;
            queries = emission.queries;
            report = refl;
            messages = all_messages d.topology tags more d.topology.switches old.messages
                (served_before depart tag d is a m classified one can forward before old was);
          };
        } in
        ap (λ (i : Install). i.report)
        (only d.topology (names_in d.queries) (parts_in (with_parts d was.parts))
        (queries_in d) old same can.lawful.topology.lawful was.installed.install compiled)

    abbrev pub new_install : Install
    new_install = record { topology = old.topology; queries = old.queries; report = old.report; messages = all }

    new_emission : IsEmission d.topology (names_in d.queries) writes tags (instances_of d.topology (queries_in d)) new_install
    new_emission =
        let emission = was.installed.install.emission in
        record {
          topology = emission.topology;
          queries = emission.queries;
          report = old_report;
          messages =
              all_messages d.topology tags writes d.topology.switches all served;
        }

    new_lawful : IsLawfulInstall new_install
    new_lawful =
        let lawful = was.installed.lawful in
        record {
          topology = lawful.topology;
          few_queries = lawful.few_queries;
          names = lawful.names;
          names_differ = lawful.names_differ;
          rows = lawful.rows;
          tags_ascend = lawful.tags_ascend;
          listed = AllZip-long (IsServed d.topology tags writes) d.topology.switches all served
              ∙ ap (λ (t : Topology). length t.switches) (sym was.installed.install.emission.topology);
          messages = zip_right (IsServed d.topology tags writes) IsLawfulList (λ s ms serves. serves.lawful) d.topology.switches all served;
        }

    -- the old install with these messages is the document's
    pub is_installed : CompiledImplements → IsInstalled d new_install
    is_installed implement =
        let install : IsCompiled d.topology (names_in d.queries) (parts_in d) (queries_in d) new_install = record {
          writes = writes;
          tags = tags;
          laid = laid_with depart tag d is a m classified d.parts forward policy forwards;
          emission = new_emission;
        } in
        let filled : IsFilled d.topology tags writes new_install = all_from d.topology tags writes d.topology.switches all served in
        record {
          install = install;
          filled = filled;
          lawful = new_lawful;
          implements = λ m means. implement d.topology (names_in d.queries) (parts_in d)
              (queries_in d) new_install m can.lawful.topology.lawful install filled means;
        }
