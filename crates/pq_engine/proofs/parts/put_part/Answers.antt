use Rattle.std.proofs.Common.{◌∙◌, ℕ, List, map, refl, ap, subst}
use Rattle.pq_policy.specs.declared.policy.Policy.{Policy}
use Rattle.pq_policy.specs.Policy.{policy_tree}
use Rattle.pq_compile.specs.declared.document.Document.{Document}
use Rattle.pq_compile.specs.Compiled.{IsCompileFault}
use Rattle.pq_compile.specs.Documents.{document_tree}
use Rattle.pq_edit.specs.Edits.{PartPut}
use Rattle.pq_engine.specs.Changes.{IsPartsChange}
use Rattle.pq_engine.specs.Places.{place_in}
use Rattle.pq_engine.proofs.DocumentLemmas.{back_last, back_within, part_awaits, part_put_tree, part_work, put_undone, renewable_after}
use Rattle.pq_engine.proofs.EditedLemmas.{place_long, same_document}
use Rattle.pq_engine.proofs.parts.put_part.Goals as goal

pub put_at-requires : goal.put_at-requires
put_at-requires g c =
    let d = c.args.document.now in
    let at = c.place_of-place.ensures ∙ ap (λ (xs : List (List ℕ × Policy)). place_in c.args.name (map (λ n. n.0) xs)) c.deref.ensures.value in
    place_long policy_tree c.args.name c.place_of-place.result d.parts.items at

pub part_put-requires-clause-renewable : goal.part_put-requires-clause-renewable
part_put-requires-clause-renewable g c =
    let d = c.args.document.now in
    let at = c.place_of-place.ensures ∙ ap (λ (xs : List (List ℕ × Policy)). place_in c.args.name (map (λ n. n.0) xs)) c.deref.ensures.value in
    let e : Document = record { topology = d.topology; parts = c.put_at.new.named; queries = d.queries } in
    let same = part_put_tree d e c.args.name c.place_of-place.result at refl refl c.args.policy c.in-Ok.ensures.put in
    renewable_after c.edited_documents_are_lawful.ensures (document_tree d) c.args.kept.now c.requires.kept
    (PartPut (c.args.name, policy_tree c.args.policy)) c.requires.lawful (document_tree e) same

pub part_put-requires-clause-awaits : goal.part_put-requires-clause-awaits
part_put-requires-clause-awaits g c =
    let d = c.args.document.now in
    let at = c.place_of-place.ensures ∙ ap (λ (xs : List (List ℕ × Policy)). place_in c.args.name (map (λ n. n.0) xs)) c.deref.ensures.value in
    let e : Document = record { topology = d.topology; parts = c.put_at.new.named; queries = d.queries } in
    part_awaits d e c.args.name c.place_of-place.result at refl refl c.args.policy c.in-Ok.ensures.put c.args.kept.now c.requires.kept

pub put_back-requires-clause-place : goal.put_back-requires-clause-place
put_back-requires-clause-place g c =
    let d = c.args.document.now in
    let at = c.place_of-place.ensures ∙ ap (λ (xs : List (List ℕ × Policy)). place_in c.args.name (map (λ n. n.0) xs)) c.deref.ensures.value in
    back_within d.parts.items c.put_at.new.named.items c.place_of-place.result (c.args.name, c.args.policy) c.in-Ok.old
    (place_long policy_tree c.args.name c.place_of-place.result d.parts.items at) c.in-Ok.ensures.put c.in-Ok.ensures.old

pub put_back-requires-clause-last : goal.put_back-requires-clause-last
put_back-requires-clause-last g c =
    let d = c.args.document.now in
    let at = c.place_of-place.ensures ∙ ap (λ (xs : List (List ℕ × Policy)). place_in c.args.name (map (λ n. n.0) xs)) c.deref.ensures.value in
    back_last d.parts.items c.put_at.new.named.items c.place_of-place.result (c.args.name, c.args.policy) c.in-Ok.old
    (place_long policy_tree c.args.name c.place_of-place.result d.parts.items at) c.in-Ok.ensures.put c.in-Ok.ensures.old

pub returns-in-Ok-part_put-clause-document : goal.returns-in-Ok-part_put-clause-document
returns-in-Ok-part_put-clause-document g c =
    let d = c.args.document.now in
    let at = c.place_of-place.ensures ∙ ap (λ (xs : List (List ℕ × Policy)). place_in c.args.name (map (λ n. n.0) xs)) c.deref.ensures.value in
    let e : Document = record { topology = d.topology; parts = c.put_at.new.named; queries = d.queries } in
    let same = part_put_tree d e c.args.name c.place_of-place.result at refl refl c.args.policy c.in-Ok.ensures.put in
    same

pub returns-in-Ok-part_put-clause-change : goal.returns-in-Ok-part_put-clause-change
returns-in-Ok-part_put-clause-change g c =
    let d = c.args.document.now in
    let at = c.place_of-place.ensures ∙ ap (λ (xs : List (List ℕ × Policy)). place_in c.args.name (map (λ n. n.0) xs)) c.deref.ensures.value in
    let e : Document = record { topology = d.topology; parts = c.put_at.new.named; queries = d.queries } in
    let same = part_put_tree d e c.args.name c.place_of-place.result at refl refl c.args.policy c.in-Ok.ensures.put in
    subst (λ t. IsPartsChange t c.args.kept.now.install c.in-Ok-part_put.change) same c.in-Ok-part_put.ensures.change

pub returns-in-Ok-part_put-clause-unions : goal.returns-in-Ok-part_put-clause-unions
returns-in-Ok-part_put-clause-unions g c =
    let d = c.args.document.now in
    let at = c.place_of-place.ensures ∙ ap (λ (xs : List (List ℕ × Policy)). place_in c.args.name (map (λ n. n.0) xs)) c.deref.ensures.value in
    let e : Document = record { topology = d.topology; parts = c.put_at.new.named; queries = d.queries } in
    part_work d e c.args.name c.place_of-place.result at refl refl c.args.policy c.in-Ok.ensures.put c.args.unions.now c.part_put.new.unions
    c.part_put.ensures.steps

pub returns-in-Err-part_put-clause-unions : goal.returns-in-Err-part_put-clause-unions
returns-in-Err-part_put-clause-unions g c =
    let d = c.args.document.now in
    let at = c.place_of-place.ensures ∙ ap (λ (xs : List (List ℕ × Policy)). place_in c.args.name (map (λ n. n.0) xs)) c.deref.ensures.value in
    let e : Document = record { topology = d.topology; parts = c.put_at.new.named; queries = d.queries } in
    part_work d e c.args.name c.place_of-place.result at refl refl c.args.policy c.in-Ok.ensures.put c.args.unions.now c.part_put.new.unions
    c.part_put.ensures.steps

pub returns-in-Err-part_put-clause-kept : goal.returns-in-Err-part_put-clause-kept
returns-in-Err-part_put-clause-kept g c =
    let d = c.args.document.now in
    let at = c.place_of-place.ensures ∙ ap (λ (xs : List (List ℕ × Policy)). place_in c.args.name (map (λ n. n.0) xs)) c.deref.ensures.value in
    let e : Document = record { topology = d.topology; parts = c.put_back.new.named; queries = d.queries } in
    same_document d e refl
    (put_undone d.parts.items c.put_at.new.named.items c.place_of-place.result (c.args.name, c.args.policy) c.in-Ok.old
    (place_long policy_tree c.args.name c.place_of-place.result d.parts.items at) c.in-Ok.ensures.put c.in-Ok.ensures.old
    c.put_back.new.named.items c.put_back.ensures) refl

pub returns-in-Err-part_put-clause-cause : goal.returns-in-Err-part_put-clause-cause
returns-in-Err-part_put-clause-cause g c =
    let d = c.args.document.now in
    let at = c.place_of-place.ensures ∙ ap (λ (xs : List (List ℕ × Policy)). place_in c.args.name (map (λ n. n.0) xs)) c.deref.ensures.value in
    let e : Document = record { topology = d.topology; parts = c.put_at.new.named; queries = d.queries } in
    let same = part_put_tree d e c.args.name c.place_of-place.result at refl refl c.args.policy c.in-Ok.ensures.put in
    subst (λ t. IsCompileFault t c.in-Err-part_put.fault) same c.in-Err-part_put.ensures.cause

pub part_put-requires-clause-was : goal.part_put-requires-clause-was
part_put-requires-clause-was g c = record { parts = (document_tree c.args.document.now).parts; engine = c.requires.kept }
