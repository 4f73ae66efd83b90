-- A query has fewer atoms than its text has bytes.
use Rattle.std.specs.Prelude.{◌≡◌, ℕ, ◌+◌, ◌<◌, ◌≤◌, Bool, true, false, if◌then◌else◌, List, [], ◌∷◌, ◌++◌, length, map, All, Ok}
use Rattle.std.specs.List.{AllByRecursion}
use Rattle.std.proofs.Common.{suc, arith, sym, ap, subst, ◌∙◌}
use Rattle.std.proofs.lemmas.List.{length-map}
use Rattle.std.proofs.lemmas.List.Elements.{All-from_recursion}
use Rattle.pq_lists.proofs.Holding.{all_push}
use Rattle.pq_term.specs.declared.token.Token.{Token}
use Rattle.pq_term.proofs.Few.{few_tokens}
use Rattle.pq_grammar.specs.declared.class.Class.TheVariants.{QueryWord}
use Rattle.pq_grammar.specs.declared.sort.Sort.{Sort}
use Rattle.pq_tree.specs.Reading.{IsForestOf}
use Rattle.pq_tree.specs.Trees.{Forest, nothing, grown, Tree}
use Rattle.pq_tree.proofs.Sizes.{forest_size, nodes, tokens_in}
use Rattle.pq_model.specs.Topology.{Topology}
use Rattle.pq_topo.specs.Naming.{next}
use Rattle.pq_topo.specs.Statements.{begins_with}
use Rattle.pq_topo.proofs.Readings.{next_ok}
use Rattle.pq_query.specs.Atoms.{query_atoms}
use Rattle.pq_query.specs.Query.{QueryTree}
use Rattle.pq_query.specs.Resolved.{query_of}
use Rattle.pq_query.proofs.AtomsOfTrees.{query_few}
use Rattle.pq_compile.specs.Names.{Named, keyword_at, name_at, named_after, named_of}

module _ (T : Topology) (bytes : List ℕ) where
  -- the query has fewer atoms than this
  abbrev IsFewer : ℕ → Named QueryTree → Type 0
  IsFewer n s = query_atoms s.1 < n

  statement_few : (most : ℕ) (names : List (List ℕ)) (keyword : Token) (below : Forest) (s : Named QueryTree)
      → named_of bytes most (query_of T bytes) names keyword below ≡ Ok s → query_atoms s.1 < suc (nodes below)
  statement_few most names keyword nothing s e = absurd cc
  statement_few most names keyword (grown name x nothing) s e = absurd cc
  statement_few most names keyword (grown name x (grown head below rest)) s e =
      let body : Tree = record { head = head; below = below } in
      let read = query_of T bytes body in
      let begun = next_ok (keyword_at most (length names) keyword) (λ _. next (name_at bytes names name) (λ name. next read (λ value. Ok (name, value)))) s e in
      let named = next_ok (name_at bytes names name) (λ name. next read (λ value. Ok (name, value))) s begun.2 in
      let valued = next_ok read (λ value. Ok (named.0, value)) s named.2 in
      let same : (named.0, valued.0) ≡ s = cc in
      let few = query_few T bytes body valued.0 valued.1 in
      let some : query_atoms valued.0 < suc (suc (nodes x + suc (nodes below + nodes rest))) = omega (arith, few) in
      subst (λ s. query_atoms s.1 < suc (suc (nodes x + suc (nodes below + nodes rest)))) same some

  weaker : (m n : ℕ) → m ≤ n → (ss : List (Named QueryTree)) → AllByRecursion (IsFewer m) ss → AllByRecursion (IsFewer n) ss
  weaker m n less [] all = tt
  weaker m n less (s ∷ ss) all = (omega (arith, all.0, less), weaker m n less ss all.1)

  statements_few : (most n : ℕ) (earlier : List (Named QueryTree)) (f : Forest) (ss : List (Named QueryTree)) → nodes f ≤ n
      → AllByRecursion (IsFewer n) earlier → named_after bytes QueryWord most (query_of T bytes) earlier f ≡ Ok ss
      → AllByRecursion (IsFewer n) ss
  statements_few most n earlier nothing ss few all e = let same : earlier ≡ ss = cc in subst (AllByRecursion (IsFewer n)) same all
  statements_few most n earlier (grown head below rest) ss few all e =
      by (begins_with bytes QueryWord head) e (λ s more. statements_few most n (earlier ++ s ∷ []) rest ss (omega (arith, few)) more)
      (statements_few most n earlier rest ss (omega (arith, few)) all)
    where
      by : (b : Bool) → (if b then next (named_of bytes most (query_of T bytes) (map (λ s. s.0) earlier) head below)
          (λ s. named_after bytes QueryWord most (query_of T bytes) (earlier ++ s ∷ []) rest) else named_after bytes QueryWord most
          (query_of T bytes) earlier rest) ≡ Ok ss
          → ((s : Named QueryTree) → AllByRecursion (IsFewer n) (earlier ++ s ∷ [])
          → named_after bytes QueryWord most (query_of T bytes) (earlier ++ s ∷ []) rest ≡ Ok ss → AllByRecursion (IsFewer n) ss)
          → (named_after bytes QueryWord most (query_of T bytes) earlier rest ≡ Ok ss → AllByRecursion (IsFewer n) ss) → AllByRecursion (IsFewer n) ss
      by true e one more =
          let told = next_ok (named_of bytes most (query_of T bytes) (map (λ s. s.0) earlier) head below)
          (λ s. named_after bytes QueryWord most (query_of T bytes) (earlier ++ s ∷ []) rest) ss e in
          let fewer = statement_few most (map (λ s. s.0) earlier) head below told.0 told.1 in
          one told.0 (all_push (IsFewer n) earlier told.0 all (omega (arith, fewer, few))) told.2
      by false e one more = more e

-- Texts.

pub queries_few : (T : Topology) (bytes : List ℕ) (sort : Sort) (f : Forest) (ss : List (Named QueryTree)) → IsForestOf sort bytes f
    → named_after bytes QueryWord 256 (query_of T bytes) [] f ≡ Ok ss → All (λ s. query_atoms s.1 < length bytes) ss
queries_few T bytes sort f ss is e =
    let trees : nodes f ≤ tokens_in is.marks = subst (λ f. nodes f ≤ tokens_in is.marks) (sym is.same) (forest_size is.marks is.trees is.made) in
    let marks : tokens_in is.marks ≡ length is.tokens = ap length is.sentence.spelled ∙ length-map is.tokens _ in
    let most = few_tokens bytes 0 is.tokens (omega arith) is.divided in
    All-from_recursion (λ s. query_atoms s.1 < length bytes) ss (statements_few T bytes 256 (length bytes) [] f ss (omega (arith, trees, marks, most)) tt e)
