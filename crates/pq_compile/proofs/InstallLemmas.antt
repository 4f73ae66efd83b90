-- The install of a document whose trees are made.
use Rattle.std.proofs.Common.{◌≡◌, ◌<◌, ℕ, suc, List, [], ◌∷◌, get_or, length, map, refl, sym, ap, subst, ◌∙◌, arith}
use Rattle.std.specs.Prelude.{All}
use Rattle.std.specs.List.{AllZip}
use Rattle.std.proofs.lemmas.List.{length-map}
use Rattle.std.proofs.lemmas.List.Elements.{Contains-get_or}
use Rattle.std.proofs.lemmas.Option.{slice_get_within}
use Rattle.pq_fields.specs.Writes.{Written}
use Rattle.pq_model.specs.Buckets.{Instance, instance_numbers}
use Rattle.pq_model.specs.Classes.{IsPath}
use Rattle.pq_model.specs.Lawful.{Ascends}
use Rattle.pq_model.specs.Word.{Word}
use Rattle.pq_model.specs.Install.{AscendsBy, Install, IsLawfulInstall, IsLawfulPair}
use Rattle.pq_auto.specs.Machine.{Machine, accepted_at}
use Rattle.pq_query.specs.declared.query.Query.{Query}
use Rattle.pq_query.specs.Instances.{instances_of}
use Rattle.pq_classes.specs.Told.{AreClasses, class_of}
use Rattle.pq_letters.specs.Letters.{LettersValue}
use Rattle.pq_layout.specs.Emission.{IsEmission}
use Rattle.pq_layout.specs.Leaves.{Departures, departing}
use Rattle.pq_layout.specs.Tagging.{Tagging}
use Rattle.pq_rules.specs.declared.fault.RulesFault.{RulesFault}
use Rattle.pq_rules.specs.declared.fault.RulesFault.TheVariants as rules
use Rattle.pq_store.specs.Tree.{Tree, value}
use Rattle.pq_emit.specs.Faults.{HasNoFault, IsEmitFault}
use Rattle.pq_emit.specs.Held.{AreHeldBelow, AreInstances}
use Rattle.pq_emit.specs.Switches.{AreSwitchesAt, IsFilled, IsSwitchAt}
use Rattle.pq_join.specs.Tags.{tagging_of}
use Rattle.pq_meaning.specs.Compiled.{IsCompiled}
use Rattle.pq_meaning.specs.Laws.{CompiledImplements, HasMeaning, MeaningsAreLaidOut, PartsDepart}
use Rattle.pq_meaning.specs.Tags.{ClassesTag}
use Rattle.pq_compile.specs.declared.document.Document.{Document}
use Rattle.pq_compile.specs.declared.preparing.NetworkTrees.{NetworkTrees}
use Rattle.pq_compile.specs.Compiled.{AreTablesFault, AreTablesWithin, IsCompileFault, IsInstalled, IsLaidFor, rules_fault}
use Rattle.pq_compile.specs.Documents.{DocumentTree, document_tree, named_query_tree}
use Rattle.pq_compile.specs.Lawful.{names_in}
use Rattle.pq_compile.specs.Prepared.{AreClassified, AreNetworkTrees, ForwardsAt, HasFewValues, IsCompilable, IsWithin, languages_in, parts_in, queries_in}
use Rattle.pq_compile.proofs.Labelled.{lawful_instances}
use Rattle.pq_compile.proofs.OneFault.{tables_within}
use Rattle.pq_compile.proofs.Values.{bare_long, lawful_queries}

-- the names of the queries
names_kept : (qs : List (List ℕ × Query)) → names_in (map named_query_tree qs) ≡ map (λ q. q.0) qs
names_kept [] = refl
names_kept (q ∷ qs) = ap (λ ns. q.0 ∷ ns) (names_kept qs)

pub names_are : (d : Document) (qs : List (List ℕ × Query)) (names : List (List ℕ)) → qs ≡ d.queries.items → names ≡ map (λ q. q.0) qs
    → names ≡ names_in (document_tree d).queries
names_are d qs names same is = is ∙ ap (map (λ q. q.0)) same ∙ sym (names_kept d.queries.items)

pub names_long : (d : DocumentTree) (names : List (List ℕ)) → names ≡ names_in d.queries → length names ≡ length (queries_in d)
names_long d names is = ap length is ∙ length-map d.queries (λ q. q.0) ∙ sym (bare_long d.queries)

-- the numbers of instances that hold words are below their number
held_at : (d : DocumentTree) (is : List Instance) (a : LettersValue) (m : Machine) → is ≡ instances_of d.topology (queries_in d)
    → AreClasses (languages_in d) a m
    → (w : Word) → IsPath w → Ascends (accepted_at m (class_of a m w)) × All (λ i. i < length is) (accepted_at m (class_of a m w))
held_at d is a m same are w path =
    let told = are.told w path in
    let numbers = accepted_at m (class_of a m w) in (
      told.accepted.ascend,
      λ k n within.
          let held = (told.accepted.exact (get_or numbers k n)).0 (Contains-get_or numbers k n within) in
          let long = ap length same in
          let below = slice_get_within (instances_of d.topology (queries_in d)) (get_or numbers k n) held.instance held.at in
          omega (arith, below, long),
    )

pub held_below : (d : DocumentTree) (is : List Instance) (a : LettersValue) (m : Machine) → is ≡ instances_of d.topology (queries_in d)
    → AreClasses (languages_in d) a m → AreHeldBelow (length is) m
held_below d is a m same are c within =
    let found = are.reached c within in
    subst (λ e. Ascends (accepted_at m e) × All (λ i. i < length is) (accepted_at m e)) found.2 (held_at d is a m same are found.0 found.1)

-- lists that are related place by place are as long
zip_long : {A B : Type 0} (R : A → B → Type 0) (xs : List A) (ys : List B) → AllZip R xs ys → length xs ≡ length ys
zip_long R [] [] all = refl
zip_long R [] (y ∷ ys) all = absurd all
zip_long R (x ∷ xs) [] all = absurd all
zip_long R (x ∷ xs) (y ∷ ys) all = ap suc (zip_long R xs ys all.1)

-- Departures and tags.

-- a document's network whose trees are made
pub record Made (d : DocumentTree) : Type 0 where
  pub forward : List (Tree (List Written))
  pub policy : ℕ
  pub all : List Instance
  pub letters : LettersValue
  pub classes : Machine
  pub trees : NetworkTrees
  pub forwards : ForwardsAt d forward policy
  pub classified : AreClassified d all letters classes
  pub are_trees : AreNetworkTrees d forward policy letters classes trees

module _ (depart : PartsDepart) (tag : ClassesTag) (d : DocumentTree) (made : Made d) where
  abbrev pub tags : Tagging
  tags = tagging_of made.letters made.classes

  abbrev pub writes : Departures
  writes = departing d.topology (value made.forwards.0)

  pub laid : IsLaidFor d tags writes
  laid = record {
    departures = depart d.topology (parts_in d) made.forwards.0 made.forwards.2;
    tagging = tag (queries_in d) (instances_of d.topology (queries_in d)) made.letters made.classes made.classified.told.classes;
    few = made.classified.tags;
  }

  -- the instances ascend, as those of each meaning do
  ascending : HasMeaning → MeaningsAreLaidOut → IsCompilable d → AscendsBy instance_numbers (instances_of d.topology (queries_in d))
  ascending exists lay can =
      let found = exists d.topology (parts_in d) (queries_in d) tags writes laid in
      let out = lay d.topology (parts_in d) (queries_in d) found.0 tags writes can.lawful.topology.lawful found.1 laid in
      subst (AscendsBy instance_numbers) found.1.instances out.instances

  -- they are those that reports need
  pub are_instances : HasMeaning → MeaningsAreLaidOut → IsCompilable d → (names : List (List ℕ)) → names ≡ names_in d.queries
      → AreInstances (length names) made.all
  are_instances exists lay can names named =
      let same = made.classified.told.instances in
      record {
        few = made.classified.told.few;
        ascend = subst (AscendsBy instance_numbers) (sym same) (ascending exists lay can);
        lawful = subst (λ n. All (IsLawfulPair n) made.all) (sym (names_long d names named))
            (subst (All (IsLawfulPair (length (queries_in d)))) (sym same)
            (lawful_instances d.topology (queries_in d) can.lawful.topology (lawful_queries d can) can.atoms));
      }

  pub switches : AreSwitchesAt d.topology tags writes made.trees.first made.trees.second made.trees.switches.items
  switches = made.are_trees.trees made.forwards.0 made.forwards.1

  pub listed : length made.trees.switches.items ≡ length d.topology.switches
  listed = sym (zip_long (IsSwitchAt d.topology tags writes made.trees.first made.trees.second) d.topology.switches made.trees.switches.items switches)

  -- the install is the document's, and does what the document means
  pub is_installed : CompiledImplements → IsCompilable d → (names : List (List ℕ)) → names ≡ names_in d.queries → (i : Install)
      → IsEmission d.topology names writes tags made.all i → IsFilled d.topology tags writes i → IsLawfulInstall i → IsInstalled d i
  is_installed implement can names named i emission filled lawful =
      let install : IsCompiled d.topology (names_in d.queries) (parts_in d) (queries_in d) i = record {
        writes = writes;
        tags = tags;
        laid = laid;
        emission = subst (λ ns. IsEmission d.topology ns writes tags (instances_of d.topology (queries_in d)) i) named
            (subst (λ all. IsEmission d.topology names writes tags all i) made.classified.told.instances emission);
      } in
      record {
        install = install;
        filled = filled;
        lawful = lawful;
        implements = λ m means. implement d.topology (names_in d.queries) (parts_in d) (queries_in d) i m can.lawful.topology.lawful install filled means;
      }

  pub tables_fault : (fault : RulesFault) → IsEmitFault d.topology tags writes fault → AreTablesFault d fault
  tables_fault (rules.TableFull switch table entries) full = (tags, writes, laid, full)
  tables_fault (rules.GroupFull switch copies) full = (tags, writes, laid, full)
  tables_fault rules.Memory full = tt

  pub all_within : IsCompilable d → HasNoFault d.topology tags writes → AreTablesWithin d
  all_within can none = tables_within d can.lawful.topology.lawful tags writes laid none

-- a document whose queries' words are classified, and which states few values, is within the limits on what trees are made from
pub is_within : (d : DocumentTree) (all : List Instance) (a : LettersValue) (m : Machine) → HasFewValues d → AreClassified d all a m → IsWithin d
is_within d all a m few is = record { values = few; instances = is.told.sum; classes = (length m.rows, is.told.classes.count, is.tags) }

pub rules_cause : (d : DocumentTree) → IsWithin d → (fault : RulesFault) → AreTablesFault d fault → IsCompileFault d (rules_fault fault)
rules_cause d within (rules.TableFull switch table entries) full = (within, full)
rules_cause d within (rules.GroupFull switch copies) full = (within, full)
rules_cause d within rules.Memory full = tt
