use Rattle.std.proofs.Common.{List, length, sym, ap, subst, ◌∙◌}
use Rattle.std.specs.Prelude.{bytes_eq}
use Rattle.std.specs.List.{IsDistinct}
use Rattle.pq_model.specs.Buckets.{Instance}
use Rattle.pq_rewrite.specs.declared.trees.SwitchTrees.{SwitchTrees}
use Rattle.pq_layout.specs.Emission.{IsEmission}
use Rattle.pq_emit.specs.Held.{AreHeldBelow, AreInstances}
use Rattle.pq_emit.specs.Switches.{AreSwitchesAt}
use Rattle.pq_compile.specs.Documents.{document_tree}
use Rattle.pq_compile.proofs.InstallLemmas.{Made, all_within, are_instances, held_below, is_installed, listed, names_are, switches, tables_fault, tags, writes}
use Rattle.pq_compile.proofs.compiling.entered.Goals as goal

pub assembled-requires-clause-names_differ : goal.assembled-requires-clause-names_differ
assembled-requires-clause-names_differ c =
    let named = names_are c.args.document.now c.deref.result.now c.in-Ok.names.items c.deref.ensures.value c.in-Ok.ensures in
    subst (IsDistinct bytes_eq) (sym (c.deref-2.ensures.value ∙ named)) c.requires.compilable.lawful.query_names.differ

pub assembled-requires-clause-instances : goal.assembled-requires-clause-instances
assembled-requires-clause-instances c =
    let made : Made (document_tree c.args.document.now) = record {
      forward = c.args.forward.now;
      policy = c.args.policy;
      all = c.args.told.now.instances.items;
      letters = c.args.told.now.letters;
      classes = c.args.told.now.classes;
      trees = c.args.trees.now;
      forwards = c.requires.policy;
      classified = c.requires.told;
      are_trees = c.requires.trees;
    } in
    let named = names_are c.args.document.now c.deref.result.now c.in-Ok.names.items c.deref.ensures.value c.in-Ok.ensures in
    subst (AreInstances (length c.deref-2.result.now)) (sym c.deref-3.ensures.value)
    (are_instances c.parts_depart.ensures.departures c.classes_tag.ensures (document_tree c.args.document.now) made
    c.meaning_exists.ensures c.meanings_are_laid_out.ensures c.requires.compilable c.deref-2.result.now (c.deref-2.ensures.value ∙ named))

pub assembled-requires-clause-held : goal.assembled-requires-clause-held
assembled-requires-clause-held c =
    let told = c.requires.told.told in
    let of = c.args.told.now in
    subst (λ (is : List Instance). AreHeldBelow (length is) of.classes) (sym c.deref-3.ensures.value)
    (held_below (document_tree c.args.document.now) of.instances.items of.letters of.classes told.instances told.classes)

pub assembled-requires-clause-listed : goal.assembled-requires-clause-listed
assembled-requires-clause-listed c =
    let made : Made (document_tree c.args.document.now) = record {
      forward = c.args.forward.now;
      policy = c.args.policy;
      all = c.args.told.now.instances.items;
      letters = c.args.told.now.letters;
      classes = c.args.told.now.classes;
      trees = c.args.trees.now;
      forwards = c.requires.policy;
      classified = c.requires.told;
      are_trees = c.requires.trees;
    } in
    ap length c.deref-4.ensures.value ∙ listed c.parts_depart.ensures.departures c.classes_tag.ensures (document_tree c.args.document.now) made

pub returns-in-Ok-assembled-clause-installed : goal.returns-in-Ok-assembled-clause-installed
returns-in-Ok-assembled-clause-installed c =
    let d = document_tree c.args.document.now in
    let made : Made (document_tree c.args.document.now) = record {
      forward = c.args.forward.now;
      policy = c.args.policy;
      all = c.args.told.now.instances.items;
      letters = c.args.told.now.letters;
      classes = c.args.told.now.classes;
      trees = c.args.trees.now;
      forwards = c.requires.policy;
      classified = c.requires.told;
      are_trees = c.requires.trees;
    } in
    let trees = c.args.trees.now in
    let depart = c.parts_depart.ensures.departures in
    let tag = c.classes_tag.ensures in
    let named = names_are c.args.document.now c.deref.result.now c.in-Ok.names.items c.deref.ensures.value c.in-Ok.ensures in
    let at = subst (λ (ts : List SwitchTrees). AreSwitchesAt d.topology (tags depart tag d made)
    (writes depart tag d made) trees.first trees.second ts) (sym c.deref-4.ensures.value) (switches depart tag d made) in
    let emission = c.in-Ok-assembled.ensures.ok made.letters (writes depart tag d made) at in
    is_installed depart tag d made c.compiled_implements.ensures c.requires.compilable c.deref-2.result.now (c.deref-2.ensures.value
    ∙ named) c.in-Ok-assembled.install
    (subst (λ (all : List Instance). IsEmission d.topology c.deref-2.result.now (writes depart tag d made)
    (tags depart tag d made) all c.in-Ok-assembled.install) c.deref-3.ensures.value emission)
    (c.in-Ok-assembled.ensures.filled made.letters (writes depart tag d made) at)
    c.in-Ok-assembled.ensures.lawful

pub returns-in-Ok-assembled-clause-complete : goal.returns-in-Ok-assembled-clause-complete
returns-in-Ok-assembled-clause-complete c =
    let d = document_tree c.args.document.now in
    let made : Made (document_tree c.args.document.now) = record {
      forward = c.args.forward.now;
      policy = c.args.policy;
      all = c.args.told.now.instances.items;
      letters = c.args.told.now.letters;
      classes = c.args.told.now.classes;
      trees = c.args.trees.now;
      forwards = c.requires.policy;
      classified = c.requires.told;
      are_trees = c.requires.trees;
    } in
    let trees = c.args.trees.now in
    let depart = c.parts_depart.ensures.departures in
    let tag = c.classes_tag.ensures in
    let at = subst (λ (ts : List SwitchTrees). AreSwitchesAt d.topology (tags depart tag d made)
    (writes depart tag d made) trees.first trees.second ts) (sym c.deref-4.ensures.value) (switches depart tag d made) in
    all_within depart tag d made c.requires.compilable (c.in-Ok-assembled.ensures.complete made.letters (writes depart tag d made) at)

pub returns-clause-cause : goal.returns-clause-cause
returns-clause-cause c =
    let d = document_tree c.args.document.now in
    let made : Made (document_tree c.args.document.now) = record {
      forward = c.args.forward.now;
      policy = c.args.policy;
      all = c.args.told.now.instances.items;
      letters = c.args.told.now.letters;
      classes = c.args.told.now.classes;
      trees = c.args.trees.now;
      forwards = c.requires.policy;
      classified = c.requires.told;
      are_trees = c.requires.trees;
    } in
    let trees = c.args.trees.now in
    let depart = c.parts_depart.ensures.departures in
    let tag = c.classes_tag.ensures in
    let at = subst (λ (ts : List SwitchTrees). AreSwitchesAt d.topology (tags depart tag d made)
    (writes depart tag d made) trees.first trees.second ts) (sym c.deref-4.ensures.value) (switches depart tag d made) in
    tables_fault depart tag d made c.in-Err-assembled.fault (c.in-Err-assembled.ensures.cause made.letters (writes depart tag d made) at)
