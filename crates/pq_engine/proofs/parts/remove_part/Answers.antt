use Rattle.std.proofs.Common.{◌∙◌, ℕ, List, map, refl, ap, subst}
use Rattle.pq_policy.specs.declared.policy.Policy.{Policy}
use Rattle.pq_policy.specs.Policy.{policy_tree}
use Rattle.pq_compile.specs.declared.document.Document.{Document}
use Rattle.pq_compile.specs.Compiled.{IsCompileFault}
use Rattle.pq_compile.specs.Documents.{document_tree}
use Rattle.pq_edit.specs.Edits.{PartRemoved}
use Rattle.pq_engine.specs.Changes.{IsPartsChange}
use Rattle.pq_engine.specs.Places.{place_in}
use Rattle.pq_engine.proofs.DocumentLemmas.{part_removal_awaits, part_removal_work, part_removed_tree, removal_undone, renewable_after}
use Rattle.pq_engine.proofs.EditedLemmas.{plain_within, same_document}
use Rattle.pq_engine.proofs.parts.remove_part.Goals as goal

pub remove_at-old-requires : goal.remove_at-old-requires
remove_at-old-requires g c =
    let d = c.args.document.now in
    let at = c.place_of-place.ensures ∙ ap (λ (xs : List (List ℕ × Policy)). place_in c.args.name (map (λ n. n.0) xs)) c.deref.ensures.value in
    plain_within policy_tree c.args.name c.place_of-place.result d.parts.items at c.requires.lawful

pub part_removed-requires-clause-renewable : goal.part_removed-requires-clause-renewable
part_removed-requires-clause-renewable g c =
    let d = c.args.document.now in
    let at = c.place_of-place.ensures ∙ ap (λ (xs : List (List ℕ × Policy)). place_in c.args.name (map (λ n. n.0) xs)) c.deref.ensures.value in
    let e : Document = record { topology = d.topology; parts = c.remove_at-old.new.named; queries = d.queries } in
    let same = part_removed_tree d e c.args.name c.place_of-place.result at refl refl c.remove_at-old.ensures.removed in
    renewable_after c.edited_documents_are_lawful.ensures (document_tree d) c.args.kept.now c.requires.kept
    (PartRemoved c.args.name) c.requires.lawful (document_tree e) same

pub part_removed-requires-clause-awaits : goal.part_removed-requires-clause-awaits
part_removed-requires-clause-awaits g c =
    let d = c.args.document.now in
    let at = c.place_of-place.ensures ∙ ap (λ (xs : List (List ℕ × Policy)). place_in c.args.name (map (λ n. n.0) xs)) c.deref.ensures.value in
    let e : Document = record { topology = d.topology; parts = c.remove_at-old.new.named; queries = d.queries } in
    part_removal_awaits d e c.args.name c.place_of-place.result at refl refl c.remove_at-old.ensures.removed c.args.kept.now c.requires.kept c.requires.lawful

pub returns-in-Ok-clause-document : goal.returns-in-Ok-clause-document
returns-in-Ok-clause-document g c =
    let d = c.args.document.now in
    let at = c.place_of-place.ensures ∙ ap (λ (xs : List (List ℕ × Policy)). place_in c.args.name (map (λ n. n.0) xs)) c.deref.ensures.value in
    let e : Document = record { topology = d.topology; parts = c.remove_at-old.new.named; queries = d.queries } in
    let same = part_removed_tree d e c.args.name c.place_of-place.result at refl refl c.remove_at-old.ensures.removed in
    same

pub returns-in-Ok-clause-change : goal.returns-in-Ok-clause-change
returns-in-Ok-clause-change g c =
    let d = c.args.document.now in
    let at = c.place_of-place.ensures ∙ ap (λ (xs : List (List ℕ × Policy)). place_in c.args.name (map (λ n. n.0) xs)) c.deref.ensures.value in
    let e : Document = record { topology = d.topology; parts = c.remove_at-old.new.named; queries = d.queries } in
    let same = part_removed_tree d e c.args.name c.place_of-place.result at refl refl c.remove_at-old.ensures.removed in
    subst (λ t. IsPartsChange t c.args.kept.now.install c.in-Ok.change) same c.in-Ok.ensures.change

pub returns-in-Ok-clause-unions : goal.returns-in-Ok-clause-unions
returns-in-Ok-clause-unions g c =
    let d = c.args.document.now in
    let at = c.place_of-place.ensures ∙ ap (λ (xs : List (List ℕ × Policy)). place_in c.args.name (map (λ n. n.0) xs)) c.deref.ensures.value in
    let e : Document = record { topology = d.topology; parts = c.remove_at-old.new.named; queries = d.queries } in
    part_removal_work d e c.args.name c.place_of-place.result at refl refl c.remove_at-old.ensures.removed c.requires.lawful
    c.args.unions.now c.part_removed.new.unions c.part_removed.ensures.steps

pub returns-in-Err-clause-unions : goal.returns-in-Err-clause-unions
returns-in-Err-clause-unions g c =
    let d = c.args.document.now in
    let at = c.place_of-place.ensures ∙ ap (λ (xs : List (List ℕ × Policy)). place_in c.args.name (map (λ n. n.0) xs)) c.deref.ensures.value in
    let e : Document = record { topology = d.topology; parts = c.remove_at-old.new.named; queries = d.queries } in
    part_removal_work d e c.args.name c.place_of-place.result at refl refl c.remove_at-old.ensures.removed c.requires.lawful
    c.args.unions.now c.part_removed.new.unions c.part_removed.ensures.steps

pub returns-in-Err-clause-kept : goal.returns-in-Err-clause-kept
returns-in-Err-clause-kept g c =
    let d = c.args.document.now in
    let at = c.place_of-place.ensures ∙ ap (λ (xs : List (List ℕ × Policy)). place_in c.args.name (map (λ n. n.0) xs)) c.deref.ensures.value in
    let e : Document = record { topology = d.topology; parts = c.insert_back.new.named; queries = d.queries } in
    same_document d e refl
    (removal_undone d.parts.items c.remove_at-old.new.named.items c.insert_back.new.named.items c.place_of-place.result
    c.remove_at-old.result (plain_within policy_tree c.args.name c.place_of-place.result d.parts.items at c.requires.lawful)
    c.remove_at-old.ensures.removed c.remove_at-old.ensures.old c.insert_back.ensures) refl

pub returns-in-Err-clause-cause : goal.returns-in-Err-clause-cause
returns-in-Err-clause-cause g c =
    let d = c.args.document.now in
    let at = c.place_of-place.ensures ∙ ap (λ (xs : List (List ℕ × Policy)). place_in c.args.name (map (λ n. n.0) xs)) c.deref.ensures.value in
    let e : Document = record { topology = d.topology; parts = c.remove_at-old.new.named; queries = d.queries } in
    let same = part_removed_tree d e c.args.name c.place_of-place.result at refl refl c.remove_at-old.ensures.removed in
    subst (λ t. IsCompileFault t c.in-Err.fault) same c.in-Err.ensures.cause

pub part_removed-requires-clause-was : goal.part_removed-requires-clause-was
part_removed-requires-clause-was g c = record { parts = (document_tree c.args.document.now).parts; engine = c.requires.kept }
