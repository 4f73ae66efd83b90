-- Documents of the program, before and after an edit.
use Rattle.std.proofs.Common.{ℕ, suc, ◌+◌, ◌*◌, ◌^◌, ◌<◌, ◌≤◌, ◌≡◌, ◌∙◌, List, [], ◌∷◌, ◌++◌, take, drop, length, map, sym, ap, ap₂, subst, arith}
use Rattle.std.specs.Prelude.{Option, sum_by}
use Rattle.std.specs.declared.option.Option.TheVariants.{None}
use Rattle.std.proofs.lemmas.List.{length-map}
use Rattle.pq_policy.specs.declared.policy.Policy.{Policy}
use Rattle.pq_policy.specs.Policy.{PolicyTree, policy_tree}
use Rattle.pq_query.specs.declared.query.Query.{Query}
use Rattle.pq_query.specs.Query.{QueryTree, query_tree}
use Rattle.pq_forward.specs.Forward.{work}
use Rattle.pq_sum.specs.Cells.{at_place}
use Rattle.pq_sum.specs.Sum.{replaced}
use Rattle.pq_compile.specs.declared.document.Document.{Document}
use Rattle.pq_compile.specs.Documents.{DocumentTree, document_tree, part_tree}
use Rattle.pq_compile.specs.Names.{Named}
use Rattle.pq_compile.specs.Prepared.{IsCompilable, parts_in}
use Rattle.pq_edit.specs.Edits.{EditTree, PartPut, PartRemoved, QueryPut, QueryRemoved, IsLawfulEdit, IsNamedIn, edited}
use Rattle.pq_engine.specs.declared.kept.Kept.{Kept}
use Rattle.pq_engine.specs.Changes.{IsRenewable, IsUnionWork}
use Rattle.pq_engine.specs.Engine.{IsEngine, engine_of}
use Rattle.pq_engine.specs.Places.{listed, place_in}
use Rattle.pq_engine.specs.Sums.{AwaitsPart, AwaitsRemoval}
use Rattle.pq_engine.proofs.EditedLemmas.{plain_place, plain_put, plain_without}
use Rattle.pq_engine.proofs.EngineLemmas.{put_awaits, put_work, removal_awaits, removal_work, renewable}
use Rattle.pq_engine.proofs.PlacesLemmas.{inserted_again, put_again, put_last, put_within}

-- the document with other parts, and with other queries
abbrev with_parts : DocumentTree → List (Named PolicyTree) → DocumentTree
with_parts d ps = record { topology = d.topology; parts = ps; queries = d.queries }

abbrev with_queries : DocumentTree → List (Named QueryTree) → DocumentTree
with_queries d qs = record { topology = d.topology; parts = d.parts; queries = qs }

-- that lawful edits leave documents that may be compiled
abbrev pub StaysCompilable : Type 0
StaysCompilable = (d : DocumentTree) (e : EditTree) → IsCompilable d → IsLawfulEdit d e → IsCompilable (edited d e)

module _ (stays : StaysCompilable) (d : DocumentTree) (k : Kept) (is : IsEngine (engine_of d k)) (e : EditTree) (lawful : IsLawfulEdit d e)
    (now : DocumentTree) (same : now ≡ edited d e) where
  pub renewable_after : IsRenewable now k
  renewable_after = subst (λ t. IsRenewable t k) (sym same) (renewable d k is e (stays d e is.compilable lawful))

-- What was put is taken back.

module _ {X : Type 0} (xs ys : List X) (place : ℕ) (new : X) (old : Option X) (within : place ≤ length xs)
    (put : ys ≡ replaced place (new ∷ []) xs) (was : listed old ≡ take 1 (drop place xs)) where
  pub back_within : place < length ys
  back_within = subst (λ l. place < length l) (sym put) (put_within place new xs within)

  pub back_last : old ≡ None → length ys ≡ suc place
  back_last none = ap length put ∙ put_last place new xs within (sym (ap listed none) ∙ was)

  pub put_undone : (zs : List X) → zs ≡ replaced place (listed old) ys → zs ≡ xs
  put_undone zs back = back ∙ ap₂ (λ o l. replaced place o l) was put ∙ put_again place new xs within

pub removal_undone : {X : Type 0} (xs ys zs : List X) (place : ℕ) (old : X) → place < length xs → ys ≡ replaced place [] xs → old ∷ [] ≡ take 1 (drop place xs)
    → zs ≡ take place ys ++ (old ∷ drop place ys) → zs ≡ xs
removal_undone xs ys zs place old within removed was back = back ∙ ap (λ l. take place l ++ (old ∷ drop place l)) removed
    ∙ inserted_again place old xs within was

-- Parts.

module _ (d e : Document) (name : List ℕ) (place : ℕ) (at : place ≡ place_in name (map (λ n. n.0) d.parts.items))
    (topology : e.topology ≡ d.topology) (queries : e.queries.items ≡ d.queries.items) where
  tree_is : (ps : List (Named PolicyTree)) → map part_tree e.parts.items ≡ ps → document_tree e ≡ with_parts (document_tree d) ps
  tree_is ps parts = cc (topology, queries, parts)

  module _ (policy : Policy) (put : e.parts.items ≡ replaced place ((name, policy) ∷ []) d.parts.items) where
    pub part_put_tree : document_tree e ≡ edited (document_tree d) (PartPut (name, policy_tree policy))
    part_put_tree = tree_is _ (plain_put policy_tree name place d.parts.items at policy e.parts.items put)

    pub part_awaits : (k : Kept) → IsEngine (engine_of (document_tree d) k) → AwaitsPart (document_tree e) k.forward k.sum place
    part_awaits k is =
        subst (λ t. AwaitsPart t k.forward k.sum place) (sym part_put_tree)
        (put_awaits (document_tree d) k is (name, policy_tree policy) place (plain_place policy_tree name place d.parts.items at))

    pub part_work : (before after : ℕ)
        → ((k : ℕ) → length e.parts.items ≤ 2 ^ k → after ≤ before + sum_by work (at_place place (parts_in (document_tree e))) + k)
        → IsUnionWork (document_tree d) (PartPut (name, policy_tree policy)) before after
    part_work before after steps =
        put_work (document_tree d) (name, policy_tree policy) place before after (plain_place policy_tree name place d.parts.items at)
        (subst (λ t. (k : ℕ) → length t.parts ≤ 2 ^ k → after ≤ before + sum_by work (at_place place (parts_in t)) + k) part_put_tree
        (λ k few. let long = length-map e.parts.items part_tree in steps k (omega (arith, few, long))))

  module _ (removed : e.parts.items ≡ replaced place [] d.parts.items) where
    pub part_removed_tree : document_tree e ≡ edited (document_tree d) (PartRemoved name)
    part_removed_tree = tree_is _ (plain_without policy_tree name place d.parts.items at e.parts.items removed)

    pub part_removal_awaits : (k : Kept) → IsEngine (engine_of (document_tree d) k) → IsNamedIn name (document_tree d).parts
        → AwaitsRemoval (document_tree e) k.forward k.sum place
    part_removal_awaits k is there =
        subst (λ t. AwaitsRemoval t k.forward k.sum place) (sym part_removed_tree)
        (removal_awaits (document_tree d) k is name place (plain_place policy_tree name place d.parts.items at) there)

    pub part_removal_work : IsNamedIn name (document_tree d).parts → (before after : ℕ)
        → ((k : ℕ) → suc (length e.parts.items) ≤ 2 ^ k → after ≤ before + 2 * k)
        → IsUnionWork (document_tree d) (PartRemoved name) before after
    part_removal_work there before after steps =
        removal_work (document_tree d) name there before after
        (subst (λ t. (k : ℕ) → suc (length t.parts) ≤ 2 ^ k → after ≤ before + 2 * k) part_removed_tree
        (λ k few. let long = length-map e.parts.items part_tree in steps k (omega (arith, few, long))))

-- Queries.

module _ (d e : Document) (name : List ℕ) (place : ℕ) (at : place ≡ place_in name (map (λ n. n.0) d.queries.items))
    (topology : e.topology ≡ d.topology) (parts : e.parts.items ≡ d.parts.items) where
  pub query_put_tree : (query : Query) → e.queries.items ≡ replaced place ((name, query) ∷ []) d.queries.items
      → document_tree e ≡ edited (document_tree d) (QueryPut (name, query_tree query))
  query_put_tree query put = let queries = plain_put query_tree name place d.queries.items at query e.queries.items put in cc (topology, parts, queries)

  pub query_removed_tree : e.queries.items ≡ replaced place [] d.queries.items → document_tree e ≡ edited (document_tree d) (QueryRemoved name)
  query_removed_tree removed = let queries = plain_without query_tree name place d.queries.items at e.queries.items removed in cc (topology, parts, queries)
