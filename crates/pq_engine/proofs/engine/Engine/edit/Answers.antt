use Rattle.std.proofs.Common.{refl, sym, subst}
use Rattle.pq_policy.specs.Policy.{policy_tree}
use Rattle.pq_query.specs.Query.{query_tree}
use Rattle.pq_compile.specs.Documents.{document_tree}
use Rattle.pq_edit.specs.Edits.{IsLawfulEdit, PartPut, PartRemoved, QueryPut, QueryRemoved, edit_tree, edited, put, without}
use Rattle.pq_engine.specs.Engine.{IsEngine, engine_of}
use Rattle.pq_engine.proofs.EngineLemmas.{parts_engine, queries_engine}
use Rattle.pq_engine.proofs.engine.Engine.edit.Goals as goal

pub put_part-requires-clause-lawful : goal.put_part-requires-clause-lawful
put_part-requires-clause-lawful g c =
    subst (λ e. IsLawfulEdit (document_tree c.self.inside.document) (edit_tree e)) c.in-PutPart.is
    (subst (λ s. IsLawfulEdit s.document (edit_tree c.args.edit)) (sym c.self.view_is) c.requires)

pub invariant_of-self : goal.invariant_of-self
invariant_of-self g c =
    let d = document_tree c.self.inside.document in
    subst (λ t. IsEngine (engine_of t c.take_parts.new.self)) (sym c.in-Ok.ensures.document)
    (subst (λ k. IsEngine (engine_of (edited d (PartPut (c.in-PutPart.name, policy_tree c.in-PutPart.policy))) k)) (sym c.take_parts.ensures.kept)
    (parts_engine d c.self.inside.kept c.self.invariant (put (c.in-PutPart.name, policy_tree c.in-PutPart.policy) d.parts) c.in-Ok.change
    c.in-Ok.ensures.change))

pub invariant_of-self-in-Err : goal.invariant_of-self-in-Err
invariant_of-self-in-Err g c =
    subst (λ t. IsEngine (engine_of t c.self.inside.kept)) (sym c.in-Err.ensures.kept) c.self.invariant

pub returns-in-Ok-clause-delta : goal.returns-in-Ok-clause-delta
returns-in-Ok-clause-delta g c =
    rw (c.take_parts.ensures.messages, c.take_parts.ensures.kept, ← c.self.view_is) c.in-Ok.ensures.change.renewed.delta

pub returns-in-Ok-clause-few : goal.returns-in-Ok-clause-few
returns-in-Ok-clause-few g c =
    rw c.take_parts.ensures.messages c.in-Ok.ensures.change.renewed.few

pub returns-in-Ok-clause-complete : goal.returns-in-Ok-clause-complete
returns-in-Ok-clause-complete g c =
    rw (← c.self.view_is, c.in-PutPart.is) c.in-Ok.ensures.change.renewed.within

pub returns-in-Ok-clause-unions : goal.returns-in-Ok-clause-unions
returns-in-Ok-clause-unions g c =
    rw (← c.self.view_is, c.in-PutPart.is) c.put_part.ensures.unions

pub returns-in-Err-clause-cause : goal.returns-in-Err-clause-cause
returns-in-Err-clause-cause g c =
    rw (← c.self.view_is, c.in-PutPart.is) c.in-Err.ensures.cause

pub invariant_of-self-in-Ok-remove_part : goal.invariant_of-self-in-Ok-remove_part
invariant_of-self-in-Ok-remove_part g c =
    let d = document_tree c.self.inside.document in
    subst (λ t. IsEngine (engine_of t c.take_parts-in-Ok-remove_part.new.self)) (sym c.in-Ok-remove_part.ensures.document)
    (subst (λ k. IsEngine (engine_of (edited d (PartRemoved c.in-RemovePart.name)) k)) (sym c.take_parts-in-Ok-remove_part.ensures.kept)
    (parts_engine d c.self.inside.kept c.self.invariant (without c.in-RemovePart.name d.parts) c.in-Ok-remove_part.change c.in-Ok-remove_part.ensures.change))

pub invariant_of-self-in-Err-remove_part : goal.invariant_of-self-in-Err-remove_part
invariant_of-self-in-Err-remove_part g c =
    subst (λ t. IsEngine (engine_of t c.self.inside.kept)) (sym c.in-Err-remove_part.ensures.kept) c.self.invariant

pub returns-in-Ok-remove_part-clause-delta : goal.returns-in-Ok-remove_part-clause-delta
returns-in-Ok-remove_part-clause-delta g c =
    rw (
      c.take_parts-in-Ok-remove_part.ensures.messages,
      c.take_parts-in-Ok-remove_part.ensures.kept,
      ← c.self.view_is,
    ) c.in-Ok-remove_part.ensures.change.renewed.delta

pub returns-in-Ok-remove_part-clause-few : goal.returns-in-Ok-remove_part-clause-few
returns-in-Ok-remove_part-clause-few g c =
    rw c.take_parts-in-Ok-remove_part.ensures.messages c.in-Ok-remove_part.ensures.change.renewed.few

pub returns-in-Ok-remove_part-clause-complete : goal.returns-in-Ok-remove_part-clause-complete
returns-in-Ok-remove_part-clause-complete g c =
    rw (← c.self.view_is, c.in-RemovePart.is) c.in-Ok-remove_part.ensures.change.renewed.within

pub returns-in-Ok-remove_part-clause-unions : goal.returns-in-Ok-remove_part-clause-unions
returns-in-Ok-remove_part-clause-unions g c =
    rw (← c.self.view_is, c.in-RemovePart.is) c.remove_part.ensures.unions

pub returns-in-Err-remove_part-clause-cause : goal.returns-in-Err-remove_part-clause-cause
returns-in-Err-remove_part-clause-cause g c =
    rw (← c.self.view_is, c.in-RemovePart.is) c.in-Err-remove_part.ensures.cause

pub put_query-requires-clause-lawful : goal.put_query-requires-clause-lawful
put_query-requires-clause-lawful g c =
    subst (λ e. IsLawfulEdit (document_tree c.self.inside.document) (edit_tree e)) c.in-PutQuery.is
    (subst (λ s. IsLawfulEdit s.document (edit_tree c.args.edit)) (sym c.self.view_is) c.requires)

pub invariant_of-self-in-Ok-put_query : goal.invariant_of-self-in-Ok-put_query
invariant_of-self-in-Ok-put_query g c =
    let d = document_tree c.self.inside.document in
    subst (λ t. IsEngine (engine_of t c.take_queries.new.self)) (sym c.in-Ok-put_query.ensures.document)
    (subst (λ k. IsEngine (engine_of (edited d (QueryPut (c.in-PutQuery.name, query_tree c.in-PutQuery.query))) k)) (sym c.take_queries.ensures.kept)
    (queries_engine d c.self.inside.kept c.self.invariant (edited d (QueryPut (c.in-PutQuery.name, query_tree c.in-PutQuery.query)))
    c.in-Ok-put_query.change refl refl c.in-Ok-put_query.ensures.change))

pub invariant_of-self-in-Err-put_query : goal.invariant_of-self-in-Err-put_query
invariant_of-self-in-Err-put_query g c =
    subst (λ t. IsEngine (engine_of t c.self.inside.kept)) (sym c.in-Err-put_query.ensures.kept) c.self.invariant

pub returns-in-Ok-put_query-clause-delta : goal.returns-in-Ok-put_query-clause-delta
returns-in-Ok-put_query-clause-delta g c =
    rw (c.take_queries.ensures.messages, c.take_queries.ensures.kept, ← c.self.view_is) c.in-Ok-put_query.ensures.change.renewed.delta

pub returns-in-Ok-put_query-clause-few : goal.returns-in-Ok-put_query-clause-few
returns-in-Ok-put_query-clause-few g c =
    rw c.take_queries.ensures.messages c.in-Ok-put_query.ensures.change.renewed.few

pub returns-in-Ok-put_query-clause-complete : goal.returns-in-Ok-put_query-clause-complete
returns-in-Ok-put_query-clause-complete g c =
    rw (← c.self.view_is, c.in-PutQuery.is) c.in-Ok-put_query.ensures.change.renewed.within

pub returns-in-Err-put_query-clause-cause : goal.returns-in-Err-put_query-clause-cause
returns-in-Err-put_query-clause-cause g c =
    rw (← c.self.view_is, c.in-PutQuery.is) c.in-Err-put_query.ensures.cause

pub invariant_of-self-in-Ok-remove_query : goal.invariant_of-self-in-Ok-remove_query
invariant_of-self-in-Ok-remove_query g c =
    let d = document_tree c.self.inside.document in
    subst (λ t. IsEngine (engine_of t c.take_queries-in-Ok-remove_query.new.self)) (sym c.in-Ok-remove_query.ensures.document)
    (subst (λ k. IsEngine (engine_of (edited d (QueryRemoved c.in-RemoveQuery.name)) k)) (sym c.take_queries-in-Ok-remove_query.ensures.kept)
    (queries_engine d c.self.inside.kept c.self.invariant (edited d (QueryRemoved c.in-RemoveQuery.name)) c.in-Ok-remove_query.change refl
    refl c.in-Ok-remove_query.ensures.change))

pub invariant_of-self-in-Err-remove_query : goal.invariant_of-self-in-Err-remove_query
invariant_of-self-in-Err-remove_query g c =
    subst (λ t. IsEngine (engine_of t c.self.inside.kept)) (sym c.in-Err-remove_query.ensures.kept) c.self.invariant

pub returns-in-Ok-remove_query-clause-delta : goal.returns-in-Ok-remove_query-clause-delta
returns-in-Ok-remove_query-clause-delta g c =
    rw (
      c.take_queries-in-Ok-remove_query.ensures.messages,
      c.take_queries-in-Ok-remove_query.ensures.kept,
      ← c.self.view_is,
    ) c.in-Ok-remove_query.ensures.change.renewed.delta

pub returns-in-Ok-remove_query-clause-few : goal.returns-in-Ok-remove_query-clause-few
returns-in-Ok-remove_query-clause-few g c =
    rw c.take_queries-in-Ok-remove_query.ensures.messages c.in-Ok-remove_query.ensures.change.renewed.few

pub returns-in-Ok-remove_query-clause-complete : goal.returns-in-Ok-remove_query-clause-complete
returns-in-Ok-remove_query-clause-complete g c =
    rw (← c.self.view_is, c.in-RemoveQuery.is) c.in-Ok-remove_query.ensures.change.renewed.within

pub returns-in-Err-remove_query-clause-cause : goal.returns-in-Err-remove_query-clause-cause
returns-in-Err-remove_query-clause-cause g c =
    rw (← c.self.view_is, c.in-RemoveQuery.is) c.in-Err-remove_query.ensures.cause
