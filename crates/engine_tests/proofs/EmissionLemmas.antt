-- What `emit` asks for, of a document that may be compiled.
use Rattle.std.proofs.Common.{◌≡◌, ◌≤◌, ℕ, List, length, sym, subst, arith}
use Rattle.std.specs.Prelude.{All}
use Rattle.pq_fields.specs.Writes.{Written}
use Rattle.pq_model.specs.Buckets.{Instance, instance_numbers}
use Rattle.pq_model.specs.Install.{AscendsBy, IsLawfulPair}
use Rattle.pq_auto.specs.Machine.{Machine}
use Rattle.pq_letters.specs.Letters.{LettersValue}
use Rattle.pq_query.specs.Instances.{instances_of}
use Rattle.pq_store.specs.Tree.{Tree, value}
use Rattle.pq_layout.specs.Leaves.{departing}
use Rattle.pq_join.specs.Tags.{tagging_of}
use Rattle.pq_meaning.specs.Laws.{HasMeaning, MeaningsAreLaidOut, PartsDepart}
use Rattle.pq_meaning.specs.Tags.{ClassesTag}
use Rattle.pq_sum.specs.Sum.{UnitesParts}
use Rattle.pq_emit.specs.Held.{AreInstances}
use Rattle.pq_compile.specs.Compiled.{IsLaidFor}
use Rattle.pq_compile.specs.Documents.{DocumentTree}
use Rattle.pq_compile.specs.Lawful.{names_in}
use Rattle.pq_compile.specs.Prepared.{AreClassified, IsCompilable, parts_in, queries_in}
use Rattle.pq_compile.proofs.InstallLemmas.{names_long}
use Rattle.pq_compile.proofs.Labelled.{lawful_instances}
use Rattle.pq_compile.proofs.Values.{bare_long, lawful_queries}

pub names_few : (d : DocumentTree) → IsCompilable d → (names : List (List ℕ)) → names ≡ names_in d.queries → length names ≤ 256
names_few d can names are =
    let long = names_long d names are in
    let bare = bare_long d.queries in
    let few = can.lawful.few_queries in
    omega (arith, long, bare, few)

module _ (depart : PartsDepart) (tag : ClassesTag) (exists : HasMeaning) (lay : MeaningsAreLaidOut) (d : DocumentTree) (can : IsCompilable d)
    (forward : List (Tree (List Written))) (total : ℕ) (unites : UnitesParts d.topology forward (parts_in d) total)
    (all : List Instance) (a : LettersValue) (m : Machine) (classified : AreClassified d all a m) where
  laid : IsLaidFor d (tagging_of a m) (departing d.topology (value unites.0))
  laid = record {
    departures = depart d.topology (parts_in d) unites.0 unites.2;
    tagging = tag (queries_in d) (instances_of d.topology (queries_in d)) a m classified.told.classes;
    few = classified.tags;
  }

  -- the instances ascend, as those of each meaning do
  ascending : AscendsBy instance_numbers (instances_of d.topology (queries_in d))
  ascending =
      let found = exists d.topology (parts_in d) (queries_in d) (tagging_of a m) (departing d.topology (value unites.0)) laid in
      let out = lay d.topology (parts_in d) (queries_in d) found.0 (tagging_of a m)
      (departing d.topology (value unites.0)) can.lawful.topology.lawful found.1 laid in
      subst (AscendsBy instance_numbers) found.1.instances out.instances

  -- the instances are those that reports need
  pub are_instances : (names : List (List ℕ)) → names ≡ names_in d.queries → AreInstances (length names) all
  are_instances names named =
      let same = classified.told.instances in
      record {
        few = classified.told.few;
        ascend = subst (AscendsBy instance_numbers) (sym same) ascending;
        lawful = subst (λ n. All (IsLawfulPair n) all) (sym (names_long d names named))
            (subst (All (IsLawfulPair (length (queries_in d)))) (sym same)
            (lawful_instances d.topology (queries_in d) can.lawful.topology (lawful_queries d can) can.atoms));
      }
