use Rattle.std.proofs.Common.{◌∙◌, ℕ, List, map, refl, ap, subst}
use Rattle.pq_query.specs.declared.query.Query.{Query}
use Rattle.pq_query.specs.Query.{query_tree}
use Rattle.pq_compile.specs.declared.document.Document.{Document}
use Rattle.pq_compile.specs.Compiled.{IsCompileFault}
use Rattle.pq_compile.specs.Documents.{document_tree}
use Rattle.pq_edit.specs.Edits.{QueryPut}
use Rattle.pq_engine.specs.Changes.{IsQueriesChange}
use Rattle.pq_engine.specs.Places.{place_in}
use Rattle.pq_engine.proofs.DocumentLemmas.{back_last, back_within, put_undone, query_put_tree, renewable_after}
use Rattle.pq_engine.proofs.EditedLemmas.{place_long, same_document}
use Rattle.pq_engine.proofs.queries.put_query.Goals as goal

pub put_at-requires : goal.put_at-requires
put_at-requires g c =
    let d = c.args.document.now in
    let at = c.place_of-place.ensures ∙ ap (λ (xs : List (List ℕ × Query)). place_in c.args.name (map (λ n. n.0) xs)) c.deref.ensures.value in
    place_long query_tree c.args.name c.place_of-place.result d.queries.items at

pub queries_changed-requires-clause-renewable : goal.queries_changed-requires-clause-renewable
queries_changed-requires-clause-renewable g c =
    let d = c.args.document.now in
    let at = c.place_of-place.ensures ∙ ap (λ (xs : List (List ℕ × Query)). place_in c.args.name (map (λ n. n.0) xs)) c.deref.ensures.value in
    let e : Document = record { topology = d.topology; parts = d.parts; queries = c.put_at.new.named } in
    let same = query_put_tree d e c.args.name c.place_of-place.result at refl refl c.args.query c.in-Ok.ensures.put in
    renewable_after c.edited_documents_are_lawful.ensures (document_tree d) c.args.kept.now c.requires.kept
    (QueryPut (c.args.name, query_tree c.args.query)) c.requires.lawful (document_tree e) same

pub put_back-requires-clause-place : goal.put_back-requires-clause-place
put_back-requires-clause-place g c =
    let d = c.args.document.now in
    let at = c.place_of-place.ensures ∙ ap (λ (xs : List (List ℕ × Query)). place_in c.args.name (map (λ n. n.0) xs)) c.deref.ensures.value in
    back_within d.queries.items c.put_at.new.named.items c.place_of-place.result (c.args.name, c.args.query) c.in-Ok.old
    (place_long query_tree c.args.name c.place_of-place.result d.queries.items at) c.in-Ok.ensures.put c.in-Ok.ensures.old

pub put_back-requires-clause-last : goal.put_back-requires-clause-last
put_back-requires-clause-last g c =
    let d = c.args.document.now in
    let at = c.place_of-place.ensures ∙ ap (λ (xs : List (List ℕ × Query)). place_in c.args.name (map (λ n. n.0) xs)) c.deref.ensures.value in
    back_last d.queries.items c.put_at.new.named.items c.place_of-place.result (c.args.name, c.args.query) c.in-Ok.old
    (place_long query_tree c.args.name c.place_of-place.result d.queries.items at) c.in-Ok.ensures.put c.in-Ok.ensures.old

pub returns-in-Ok-queries_changed-clause-document : goal.returns-in-Ok-queries_changed-clause-document
returns-in-Ok-queries_changed-clause-document g c =
    let d = c.args.document.now in
    let at = c.place_of-place.ensures ∙ ap (λ (xs : List (List ℕ × Query)). place_in c.args.name (map (λ n. n.0) xs)) c.deref.ensures.value in
    let e : Document = record { topology = d.topology; parts = d.parts; queries = c.put_at.new.named } in
    let same = query_put_tree d e c.args.name c.place_of-place.result at refl refl c.args.query c.in-Ok.ensures.put in
    same

pub returns-in-Ok-queries_changed-clause-change : goal.returns-in-Ok-queries_changed-clause-change
returns-in-Ok-queries_changed-clause-change g c =
    let d = c.args.document.now in
    let at = c.place_of-place.ensures ∙ ap (λ (xs : List (List ℕ × Query)). place_in c.args.name (map (λ n. n.0) xs)) c.deref.ensures.value in
    let e : Document = record { topology = d.topology; parts = d.parts; queries = c.put_at.new.named } in
    let same = query_put_tree d e c.args.name c.place_of-place.result at refl refl c.args.query c.in-Ok.ensures.put in
    subst (λ t. IsQueriesChange t c.args.kept.now.install c.in-Ok-queries_changed.change) same c.in-Ok-queries_changed.ensures.change

pub returns-in-Err-queries_changed-clause-kept : goal.returns-in-Err-queries_changed-clause-kept
returns-in-Err-queries_changed-clause-kept g c =
    let d = c.args.document.now in
    let at = c.place_of-place.ensures ∙ ap (λ (xs : List (List ℕ × Query)). place_in c.args.name (map (λ n. n.0) xs)) c.deref.ensures.value in
    let e : Document = record { topology = d.topology; parts = d.parts; queries = c.put_back.new.named } in
    same_document d e refl refl (put_undone d.queries.items c.put_at.new.named.items c.place_of-place.result (
      c.args.name,
      c.args.query,
    ) c.in-Ok.old (place_long query_tree c.args.name c.place_of-place.result d.queries.items at) c.in-Ok.ensures.put
    c.in-Ok.ensures.old c.put_back.new.named.items c.put_back.ensures)

pub returns-in-Err-queries_changed-clause-cause : goal.returns-in-Err-queries_changed-clause-cause
returns-in-Err-queries_changed-clause-cause g c =
    let d = c.args.document.now in
    let at = c.place_of-place.ensures ∙ ap (λ (xs : List (List ℕ × Query)). place_in c.args.name (map (λ n. n.0) xs)) c.deref.ensures.value in
    let e : Document = record { topology = d.topology; parts = d.parts; queries = c.put_at.new.named } in
    let same = query_put_tree d e c.args.name c.place_of-place.result at refl refl c.args.query c.in-Ok.ensures.put in
    subst (λ t. IsCompileFault t c.in-Err-queries_changed.fault) same c.in-Err-queries_changed.ensures.cause
