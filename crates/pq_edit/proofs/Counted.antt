-- A query that is put has fewer atoms than its text has bytes.
use Rattle.std.specs.Prelude.{◌≡◌, ℕ, ◌<◌, ◌≤◌, Bool, true, false, if◌then◌else◌, List, length, Some, None, Ok}
use Rattle.std.proofs.Common.{suc, arith, sym, ap, subst, ◌∙◌}
use Rattle.std.proofs.lemmas.List.{length-map}
use Rattle.pq_term.specs.declared.token.Token.{Token}
use Rattle.pq_term.specs.Names.{is_name}
use Rattle.pq_term.proofs.Few.{few_tokens}
use Rattle.pq_grammar.specs.declared.sort.Sort.{Sort}
use Rattle.pq_tree.specs.Reading.{IsForestOf}
use Rattle.pq_tree.specs.Texts.{text_in}
use Rattle.pq_tree.specs.Trees.{Forest, nothing, grown, Tree}
use Rattle.pq_tree.proofs.Sizes.{forest_size, nodes, tokens_in}
use Rattle.pq_model.specs.Topology.{Topology}
use Rattle.pq_topo.specs.Naming.{next}
use Rattle.pq_topo.proofs.Readings.{next_ok}
use Rattle.pq_pred.specs.Values.{name_in}
use Rattle.pq_query.specs.Atoms.{query_atoms}
use Rattle.pq_query.specs.Query.{QueryTree}
use Rattle.pq_query.specs.Resolved.{query_of}
use Rattle.pq_query.proofs.AtomsOfTrees.{query_few}
use Rattle.pq_compile.specs.Names.{Named}
use Rattle.pq_edit.specs.Reading.{keyword_at, put_of, put_under}

module _ (T : Topology) (bytes : List ℕ) where
  -- what is put under a name has at most as many atoms as its tree has nodes
  under_few : (names : List (List ℕ)) (keyword t : Token) (body : Tree) (text : List ℕ) (q : Named QueryTree)
      → put_under 256 (query_of T bytes) names keyword t body (name_in text) ≡ Ok q
      → query_atoms q.1 ≤ suc (nodes body.below)
  under_few names keyword t body text q e = by (is_name text) e
    where
      by : (b : Bool) → put_under 256 (query_of T bytes) names keyword t body (if b then Some text else None) ≡ Ok q → query_atoms q.1 ≤ suc (nodes body.below)
      by true e =
          let begun = next_ok (keyword_at 256 names keyword text) (λ _. next (query_of T bytes body) (λ value. Ok (text, value))) q e in
          let valued = next_ok (query_of T bytes body) (λ value. Ok (text, value)) q begun.2 in
          let same : (text, valued.0) ≡ q = cc in
          subst (λ (q : Named QueryTree). query_atoms q.1 ≤ suc (nodes body.below)) same (query_few T bytes body valued.0 valued.1)
      by false e = absurd cc

  statement_few : (names : List (List ℕ)) (keyword : Token) (below : Forest) (q : Named QueryTree)
      → put_of bytes 256 (query_of T bytes) names keyword below ≡ Ok q → query_atoms q.1 ≤ nodes below
  statement_few names keyword nothing q e = absurd cc
  statement_few names keyword (grown name x nothing) q e = absurd cc
  statement_few names keyword (grown name x (grown head below rest)) q e =
      let few = under_few names keyword name (record { head = head; below = below }) (text_in bytes name) q e in
      omega (arith, few)

  -- so a query that is put has fewer atoms than its text has bytes
  pub put_few : (sort : Sort) (names : List (List ℕ)) (keyword : Token) (below rest : Forest) (q : Named QueryTree)
      → IsForestOf sort bytes (grown keyword below rest)
      → put_of bytes 256 (query_of T bytes) names keyword below ≡ Ok q → query_atoms q.1 < length bytes
  put_few sort names keyword below rest q is e =
      let trees : nodes (grown keyword below rest) ≤ tokens_in is.marks =
      subst (λ f. nodes f ≤ tokens_in is.marks) (sym is.same) (forest_size is.marks is.trees is.made) in
      let marks : tokens_in is.marks ≡ length is.tokens = ap length is.sentence.spelled ∙ length-map is.tokens _ in
      let most = few_tokens bytes 0 is.tokens (omega arith) is.divided in
      let few = statement_few names keyword below q e in
      omega (arith, trees, marks, most, few)
