-- A document that may be compiled may be so after a lawful edit.
use Rattle.std.specs.Prelude.{◌≡◌, ℕ, ◌<◌, ◌^◌, Bool, true, false, List, [], ◌∷◌, map, All, IsTrue}
use Rattle.std.specs.Cmp.Lexicographic.{nat_list_eq_equiv}
use Rattle.std.proofs.Common.{arith, refl, sym, subst}
use Rattle.std.proofs.lemmas.List.Elements.{All-cons, All-head, All-tail, All-nil, All-push, All-map, All-from_recursion, recursion_from_All}
use Rattle.std.proofs.lemmas.Map.Keys.{IsDistinct-push}
use Rattle.pq_term.specs.Names.{is_name}
use Rattle.pq_pred.specs.Named.{MayStand}
use Rattle.pq_policy.specs.Policy.{IsLawfulPolicy, IsPolicyOver}
use Rattle.pq_query.specs.Atoms.{query_atoms}
use Rattle.pq_query.specs.Lawful.{IsLawfulQuery, IsQueryOver}
use Rattle.pq_query.specs.Query.{QueryTree}
use Rattle.pq_compile.specs.Documents.{DocumentTree}
use Rattle.pq_compile.specs.Lawful.{AreLawfulNames, names_in}
use Rattle.pq_compile.specs.Names.{Named}
use Rattle.pq_compile.specs.Prepared.{IsCompilable}
use Rattle.pq_edit.specs.Edits.{EditTree, PartPut, PartRemoved, QueryPut, QueryRemoved, IsLawfulEdit, edited, put, without}
use Rattle.pq_edit.specs.Reading.{is_among}
use Rattle.pq_edit.proofs.Changed.{all_put, all_without, differ_without, names_kept, names_more, names_without, without_few}

module _ {A : Type 0} where
  -- names stay lawful with one put
  put_names : (p : Named A) (ns : List (Named A)) → IsTrue (is_name p.0) → AreLawfulNames (names_in ns) → AreLawfulNames (names_in (put p ns))
  put_names p ns name are = by (is_among p.0 (names_in ns)) refl
    where
      by : (b : Bool) → is_among p.0 (names_in ns) ≡ b → AreLawfulNames (names_in (put p ns))
      by true among = subst AreLawfulNames (sym (names_kept p ns among)) are
      by false new = subst AreLawfulNames (sym (names_more p ns new)) (record {
        each = All-push (λ name. IsTrue (is_name name)) (names_in ns) p.0 are.each name;
        differ = IsDistinct-push nat_list_eq_equiv (names_in ns) p.0 are.differ new;
      })

  -- and with one removed
  without_names : (name : List ℕ) (ns : List (Named A)) → AreLawfulNames (names_in ns) → AreLawfulNames (names_in (without name ns))
  without_names name ns are = record {
    each = All-from_recursion (λ name. IsTrue (is_name name)) (names_in (without name ns))
        (names_without (λ name. IsTrue (is_name name)) name ns (recursion_from_All (λ name. IsTrue (is_name name)) (names_in ns) are.each));
    differ = differ_without name ns are.differ;
  }

  -- a fact of all bodies is one of all that is named
  of_named : (P : A → Type 0) (ns : List (Named A)) → All P (map (λ n. n.1) ns) → All (λ (n : Named A). P n.1) ns
  of_named P [] all = All-nil (λ (n : Named A). P n.1)
  of_named P (n ∷ ns) all = All-cons (λ (n : Named A). P n.1) n ns (All-head P n.1 (map (λ n. n.1) ns) all)
      (of_named P ns (All-tail P n.1 (map (λ n. n.1) ns) all))

-- the query has fewer than 2^19 atoms
abbrev HasFewAtoms : Named QueryTree → Type 0
HasFewAtoms q = query_atoms q.1 < 2 ^ 19

few_atoms : (qs : List (Named QueryTree)) → All HasFewAtoms qs → All (λ q. query_atoms q < 2 ^ 19) (map (λ q. q.1) qs)
few_atoms qs all = All-map (λ q. query_atoms q < 2 ^ 19) (λ q. q.1) qs all

-- the document after an edit may be compiled
pub edited_compilable : (d : DocumentTree) (e : EditTree) → IsCompilable d → IsLawfulEdit d e → IsCompilable (edited d e)
edited_compilable d (PartPut p) is lawful = record {
  lawful = record {
    topology = is.lawful.topology;
    few_parts = lawful.few;
    part_names = put_names p d.parts lawful.name is.lawful.part_names;
    parts = all_put (λ p. IsLawfulPolicy p.1) p d.parts lawful.policy is.lawful.parts;
    named_parts = all_put (λ p. IsPolicyOver (MayStand d.topology) p.1) p d.parts lawful.named is.lawful.named_parts;
    few_queries = is.lawful.few_queries;
    query_names = is.lawful.query_names;
    queries = is.lawful.queries;
    named_queries = is.lawful.named_queries;
  };
  atoms = is.atoms;
}
edited_compilable d (PartRemoved name) is lawful = record {
  lawful = record {
    topology = is.lawful.topology;
    few_parts = (let few = without_few name d.parts in let before = is.lawful.few_parts in omega (arith, few, before));
    part_names = without_names name d.parts is.lawful.part_names;
    parts = all_without (λ p. IsLawfulPolicy p.1) name d.parts is.lawful.parts;
    named_parts = all_without (λ p. IsPolicyOver (MayStand d.topology) p.1) name d.parts is.lawful.named_parts;
    few_queries = is.lawful.few_queries;
    query_names = is.lawful.query_names;
    queries = is.lawful.queries;
    named_queries = is.lawful.named_queries;
  };
  atoms = is.atoms;
}
edited_compilable d (QueryPut q) is lawful = record {
  lawful = record {
    topology = is.lawful.topology;
    few_parts = is.lawful.few_parts;
    part_names = is.lawful.part_names;
    parts = is.lawful.parts;
    named_parts = is.lawful.named_parts;
    few_queries = lawful.few;
    query_names = put_names q d.queries lawful.name is.lawful.query_names;
    queries = all_put (λ q. IsLawfulQuery q.1) q d.queries lawful.query is.lawful.queries;
    named_queries = all_put (λ q. IsQueryOver (MayStand d.topology) q.1) q d.queries lawful.named is.lawful.named_queries;
  };
  atoms = few_atoms (put q d.queries) (all_put HasFewAtoms q d.queries lawful.atoms (of_named (λ q. query_atoms q < 2 ^ 19) d.queries is.atoms));
}
edited_compilable d (QueryRemoved name) is lawful = record {
  lawful = record {
    topology = is.lawful.topology;
    few_parts = is.lawful.few_parts;
    part_names = is.lawful.part_names;
    parts = is.lawful.parts;
    named_parts = is.lawful.named_parts;
    few_queries = (let few = without_few name d.queries in let before = is.lawful.few_queries in omega (arith, few, before));
    query_names = without_names name d.queries is.lawful.query_names;
    queries = all_without (λ q. IsLawfulQuery q.1) name d.queries is.lawful.queries;
    named_queries = all_without (λ q. IsQueryOver (MayStand d.topology) q.1) name d.queries is.lawful.named_queries;
  };
  atoms = few_atoms (without name d.queries) (all_without HasFewAtoms name d.queries (of_named (λ q. query_atoms q < 2 ^ 19) d.queries is.atoms));
}
