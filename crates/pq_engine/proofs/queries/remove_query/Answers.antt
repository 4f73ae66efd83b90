use Rattle.std.proofs.Common.{◌∙◌, ℕ, List, map, refl, ap, subst}
use Rattle.pq_query.specs.declared.query.Query.{Query}
use Rattle.pq_query.specs.Query.{query_tree}
use Rattle.pq_compile.specs.declared.document.Document.{Document}
use Rattle.pq_compile.specs.Compiled.{IsCompileFault}
use Rattle.pq_compile.specs.Documents.{document_tree}
use Rattle.pq_edit.specs.Edits.{QueryRemoved}
use Rattle.pq_engine.specs.Changes.{IsQueriesChange}
use Rattle.pq_engine.specs.Places.{place_in}
use Rattle.pq_engine.proofs.DocumentLemmas.{query_removed_tree, removal_undone, renewable_after}
use Rattle.pq_engine.proofs.EditedLemmas.{plain_within, same_document}
use Rattle.pq_engine.proofs.queries.remove_query.Goals as goal

pub remove_at-old-requires : goal.remove_at-old-requires
remove_at-old-requires g c =
    let d = c.args.document.now in
    let at = c.place_of-place.ensures ∙ ap (λ (xs : List (List ℕ × Query)). place_in c.args.name (map (λ n. n.0) xs)) c.deref.ensures.value in
    plain_within query_tree c.args.name c.place_of-place.result d.queries.items at c.requires.lawful

pub queries_changed-requires-clause-renewable : goal.queries_changed-requires-clause-renewable
queries_changed-requires-clause-renewable g c =
    let d = c.args.document.now in
    let at = c.place_of-place.ensures ∙ ap (λ (xs : List (List ℕ × Query)). place_in c.args.name (map (λ n. n.0) xs)) c.deref.ensures.value in
    let e : Document = record { topology = d.topology; parts = d.parts; queries = c.remove_at-old.new.named } in
    let same = query_removed_tree d e c.args.name c.place_of-place.result at refl refl c.remove_at-old.ensures.removed in
    renewable_after c.edited_documents_are_lawful.ensures (document_tree d) c.args.kept.now c.requires.kept
    (QueryRemoved c.args.name) c.requires.lawful (document_tree e) same

pub returns-in-Ok-clause-document : goal.returns-in-Ok-clause-document
returns-in-Ok-clause-document g c =
    let d = c.args.document.now in
    let at = c.place_of-place.ensures ∙ ap (λ (xs : List (List ℕ × Query)). place_in c.args.name (map (λ n. n.0) xs)) c.deref.ensures.value in
    let e : Document = record { topology = d.topology; parts = d.parts; queries = c.remove_at-old.new.named } in
    let same = query_removed_tree d e c.args.name c.place_of-place.result at refl refl c.remove_at-old.ensures.removed in
    same

pub returns-in-Ok-clause-change : goal.returns-in-Ok-clause-change
returns-in-Ok-clause-change g c =
    let d = c.args.document.now in
    let at = c.place_of-place.ensures ∙ ap (λ (xs : List (List ℕ × Query)). place_in c.args.name (map (λ n. n.0) xs)) c.deref.ensures.value in
    let e : Document = record { topology = d.topology; parts = d.parts; queries = c.remove_at-old.new.named } in
    let same = query_removed_tree d e c.args.name c.place_of-place.result at refl refl c.remove_at-old.ensures.removed in
    subst (λ t. IsQueriesChange t c.args.kept.now.install c.in-Ok.change) same c.in-Ok.ensures.change

pub returns-in-Err-clause-kept : goal.returns-in-Err-clause-kept
returns-in-Err-clause-kept g c =
    let d = c.args.document.now in
    let at = c.place_of-place.ensures ∙ ap (λ (xs : List (List ℕ × Query)). place_in c.args.name (map (λ n. n.0) xs)) c.deref.ensures.value in
    let e : Document = record { topology = d.topology; parts = d.parts; queries = c.insert_back.new.named } in
    same_document d e refl refl
    (removal_undone d.queries.items c.remove_at-old.new.named.items c.insert_back.new.named.items c.place_of-place.result
    c.remove_at-old.result (plain_within query_tree c.args.name c.place_of-place.result d.queries.items at c.requires.lawful)
    c.remove_at-old.ensures.removed c.remove_at-old.ensures.old c.insert_back.ensures)

pub returns-in-Err-clause-cause : goal.returns-in-Err-clause-cause
returns-in-Err-clause-cause g c =
    let d = c.args.document.now in
    let at = c.place_of-place.ensures ∙ ap (λ (xs : List (List ℕ × Query)). place_in c.args.name (map (λ n. n.0) xs)) c.deref.ensures.value in
    let e : Document = record { topology = d.topology; parts = d.parts; queries = c.remove_at-old.new.named } in
    let same = query_removed_tree d e c.args.name c.place_of-place.result at refl refl c.remove_at-old.ensures.removed in
    subst (λ t. IsCompileFault t c.in-Err.fault) same c.in-Err.ensures.cause
