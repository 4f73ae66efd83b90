-- Documents as plain data, and their stated values and room.
use Rattle.std.proofs.Common.{◌≡◌, ◌<◌, ℕ, List, [], ◌∷◌, length, map, refl, sym, ap, ap₂, subst, ◌∙◌}
use Rattle.std.specs.Prelude.{All}
use Rattle.std.proofs.lemmas.List.{length-map}
use Rattle.std.proofs.lemmas.List.Elements.{All-nil, All-cons, All-head, All-tail}
use Rattle.pq_model.specs.Buckets.{Instance}
use Rattle.pq_policy.specs.declared.policy.Policy.{Policy}
use Rattle.pq_policy.specs.Policy.{policy_tree}
use Rattle.pq_query.specs.declared.query.Query.{Query}
use Rattle.pq_query.specs.Query.{query_tree}
use Rattle.pq_query.specs.Instances.{named_trees}
use Rattle.pq_classes.specs.Room.{FitAsQueries}
use Rattle.pq_values.specs.Room.{AreOver, HaveRoom}
use Rattle.pq_values.specs.Stated.{part_trees, stated}
use Rattle.pq_compile.specs.declared.document.Document.{Document}
use Rattle.pq_compile.specs.Documents.{DocumentTree, document_tree, named_query_tree, part_tree}
use Rattle.pq_compile.specs.Names.{Named}
use Rattle.pq_compile.specs.Prepared.{HasFewValues, IsCompilable, parts_in, queries_in}
use Rattle.pq_pred.specs.Named.{MayStand}
use Rattle.pq_policy.specs.Policy.{IsLawfulPolicy, IsPolicyOver}
use Rattle.pq_query.specs.Lawful.{IsLawfulQuery, IsQueryOver}
use Rattle.pq_values.proofs.Firsts.{few_stated}
use Rattle.pq_values.proofs.Rooms.{have_room}
use Rattle.pq_values.proofs.Serving.{queries_fit}

-- names are left out of plain data
without_names : (qs : List (List ℕ × Query)) → map (λ q. q.1) (map named_query_tree qs) ≡ named_trees qs
without_names [] = refl
without_names (q ∷ qs) = ap (λ rest. query_tree q.1 ∷ rest) (without_names qs)

without_part_names : (ps : List (List ℕ × Policy)) → map (λ p. p.1) (map part_tree ps) ≡ part_trees ps
without_part_names [] = refl
without_part_names (p ∷ ps) = ap (λ rest. policy_tree p.1 ∷ rest) (without_part_names ps)

pub queries_are : (d : Document) (qs : List (List ℕ × Query)) → qs ≡ d.queries.items → named_trees qs ≡ queries_in (document_tree d)
queries_are d qs is = ap named_trees is ∙ sym (without_names d.queries.items)

pub parts_are : (d : Document) (ps : List (List ℕ × Policy)) → ps ≡ d.parts.items → part_trees ps ≡ parts_in (document_tree d)
parts_are d ps is = ap part_trees is ∙ sym (without_part_names d.parts.items)

pub stated_are : (d : Document) (ps : List (List ℕ × Policy)) (qs : List (List ℕ × Query)) → ps ≡ d.parts.items → qs ≡ d.queries.items
    → stated d.topology (part_trees ps) (named_trees qs) ≡ stated d.topology (parts_in (document_tree d)) (queries_in (document_tree d))
stated_are d ps qs ps_is qs_is = ap₂ (stated d.topology) (parts_are d ps ps_is) (queries_are d qs qs_is)

-- what holds of each with its name holds without it
pub bare : {A : Type 0} (P : A → Type 0) (xs : List (Named A)) → All (λ x. P x.1) xs → All P (map (λ x. x.1) xs)
bare P [] all = All-nil P
bare {A} P (x ∷ xs) all = All-cons P x.1 (map (λ x. x.1) xs) (All-head (λ (y : Named A). P y.1) x xs all)
    (bare P xs (All-tail (λ (y : Named A). P y.1) x xs all))

pub bare_long : {A : Type 0} (xs : List (Named A)) → length (map (λ x. x.1) xs) ≡ length xs
bare_long {A} xs = length-map xs (λ (x : Named A). x.1)

module _ (d : DocumentTree) (is : IsCompilable d) where
  -- the document's parts and queries are over its topology
  pub over : AreOver d.topology (parts_in d) (queries_in d)
  over = record {
    topology = is.lawful.topology;
    policies = bare (IsPolicyOver (MayStand d.topology)) d.parts is.lawful.named_parts;
    queries = bare (IsQueryOver (MayStand d.topology)) d.queries is.lawful.named_queries;
  }

  pub lawful_queries : All IsLawfulQuery (queries_in d)
  lawful_queries = bare IsLawfulQuery d.queries is.lawful.queries

  pub lawful_parts : All IsLawfulPolicy (parts_in d)
  lawful_parts = bare IsLawfulPolicy d.parts is.lawful.parts

  -- where it states few values, there is room for all of them
  pub room : HasFewValues d → HaveRoom d.topology (parts_in d) (queries_in d)
  room few = have_room d.topology (parts_in d) (queries_in d) over (few_stated (stated d.topology (parts_in d) (queries_in d)) few)

  pub query_room : HasFewValues d → FitAsQueries d.topology (queries_in d)
  query_room few = queries_fit d.topology (parts_in d) (queries_in d) (room few)

-- instances of queries that were given are instances of the document's
pub within_long : (d : Document) (qs : List (List ℕ × Query)) (is : List Instance) → qs ≡ d.queries.items
    → All (λ i. i.query < length qs) is → All (λ i. i.query < length (document_tree d).queries) is
within_long d qs is same all =
    let long : length qs ≡ length (document_tree d).queries = ap length same ∙ sym (length-map d.queries.items named_query_tree) in
    subst (λ n. All (λ i. i.query < n) is) long all
