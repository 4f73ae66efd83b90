-- Documents that are read are lawful.
use Rattle.std.specs.Prelude.{◌≡◌, ℕ, ◌+◌, ◌<◌, ◌≤◌, Bool, true, false, if◌then◌else◌, List, [], ◌∷◌, ◌++◌, length, All, nat_le, bytes_eq}
use Rattle.std.specs.Prelude.{IsTrue, Some, None, Ok}
use Rattle.std.specs.List.{AllByRecursion, IsDistinct, list_any}
use Rattle.std.specs.Cmp.Lexicographic.{nat_list_eq_equiv}
use Rattle.std.proofs.Common.{arith, refl, sym, subst, length-append}
use Rattle.std.proofs.lemmas.Bool.Decides.{nat_tests}
use Rattle.std.proofs.lemmas.List.{map-append}
use Rattle.std.proofs.lemmas.List.Elements.{All-from_recursion}
use Rattle.std.proofs.lemmas.Map.Keys.{IsDistinct-push}
use Rattle.pq_lists.proofs.Holding.{all_push}
use Rattle.pq_term.specs.declared.token.Token.{Token}
use Rattle.pq_term.specs.Names.{is_name}
use Rattle.pq_grammar.specs.declared.class.Class.{Class}
use Rattle.pq_grammar.specs.declared.class.Class.TheVariants.{PartWord, QueryWord}
use Rattle.pq_grammar.specs.declared.sort.Sort.{Sort}
use Rattle.pq_tree.specs.Trees.{Forest, nothing, grown, Tree}
use Rattle.pq_tree.specs.Reading.{IsForestOf}
use Rattle.pq_tree.specs.Texts.{text_in}
use Rattle.pq_model.specs.Topology.{Topology}
use Rattle.pq_topo.specs.declared.fault.NameKind.TheVariants.{Many, Doubled}
use Rattle.pq_topo.specs.Named.{IsNamedTopology}
use Rattle.pq_topo.specs.Naming.{Reading, next}
use Rattle.pq_topo.specs.Statements.{begins_with, switches_after, by_datapath, switches_in_order, links_after, in_order, links_in_order, topology_of}
use Rattle.pq_topo.proofs.Readings.{next_ok, unless_ok}
use Rattle.pq_topo.proofs.SwitchRules.{network_of}
use Rattle.pq_topo.proofs.LinkRules.{network_with}
use Rattle.pq_pred.specs.Values.{name_in}
use Rattle.pq_policy.specs.Policy.{PolicyTree, IsLawfulPolicy, IsPolicyOver}
use Rattle.pq_policy.specs.Resolved.{policy_of}
use Rattle.pq_query.specs.Query.{QueryTree}
use Rattle.pq_query.specs.Resolved.{query_of}
use Rattle.pq_compile.specs.Names.{keyword_at, new_name, name_at, Named, named_of, named_after}
use Rattle.pq_compile.specs.Documents.{DocumentTree, parts_of, queries_of, document_of}
use Rattle.pq_fields.specs.Pred.{FitsField}
use Rattle.pq_pred.specs.Named.{MayStand}
use Rattle.pq_query.specs.Lawful.{IsLawfulQuery, IsQueryOver}
use Rattle.pq_compile.specs.Lawful.{AreLawfulNames, names_in, IsLawfulDocument}
use Rattle.pq_compile.proofs.Fits.{reads_fitting, reads_standing}
use Rattle.pq_query.specs.Atoms.{query_atoms}
use Rattle.pq_compile.proofs.Counted.{queries_few}
use Rattle.pq_compile.proofs.LawfulPolicies.{policy_over}
use Rattle.pq_compile.proofs.LawfulQueries.{query_over}

-- Names.

-- a new name is a name, and among no others
name_ok : (t : Token) (names : List (List ℕ)) (text n : List ℕ) → new_name t names (name_in text) ≡ Ok n
    → IsTrue (is_name n) × (list_any (bytes_eq n) names ≡ false)
name_ok t names text n e = by (is_name text) refl e
  where
    by : (b : Bool) → is_name text ≡ b → new_name t names (if b then Some text else None) ≡ Ok n → IsTrue (is_name n) × (list_any (bytes_eq n) names ≡ false)
    by true is e =
        let told = unless_ok t ((list_any (λ n. bytes_eq text n) names, Doubled) ∷ []) text n e in
        subst (λ n. IsTrue (is_name n) × (list_any (bytes_eq n) names ≡ false)) told.1 (is, told.0.0)
    by false is e = absurd cc

names_long : {A : Type 0} (named : List (Named A)) → length (names_in named) ≡ length named
names_long [] = refl
names_long (s ∷ ss) = let more = names_long ss in omega (arith, more)

-- Statements.

module _ (A : Type 0) (IsLawful : A → Type 0) (bytes : List ℕ) (class : Class) (most : ℕ) (read : Tree
    → Reading A) (lawful : (t : Tree) (v : A) → read t ≡ Ok v → IsLawful v) where
  -- statements of a sort that were read so far
  pub record AreReadStatements (named : List (Named A)) : Type 0 where
    pub few : length named ≤ most
    pub names : AllByRecursion (λ name. IsTrue (is_name name)) (names_in named)
    pub differ : IsDistinct bytes_eq (names_in named)
    pub each : AllByRecursion (λ (s : Named A). IsLawful s.1) named

  statement_kept : (earlier : List (Named A)) (keyword : Token) (f : Forest) (s : Named A)
      → named_of bytes most read (names_in earlier) keyword f ≡ Ok s → AreReadStatements earlier → AreReadStatements (earlier ++ s ∷ [])
  statement_kept earlier keyword nothing s e are = absurd cc
  statement_kept earlier keyword (grown name x nothing) s e are = absurd cc
  statement_kept earlier keyword (grown name x (grown head below rest)) s e are =
      let names = names_in earlier in
      let body : Tree = record { head = head; below = below } in
      let begun = next_ok (keyword_at most (length names) keyword)
      (λ _. next (name_at bytes names name) (λ name. next (read body) (λ value. Ok (name, value)))) s e in
      let room = unless_ok keyword ((nat_le most (length names), Many) ∷ []) keyword begun.0 begun.1 in
      let named = next_ok (name_at bytes names name) (λ name. next (read body) (λ value. Ok (name, value))) s begun.2 in
      let new = name_ok name names (text_in bytes name) named.0 named.1 in
      let valued = next_ok (read body) (λ value. Ok (named.0, value)) s named.2 in
      let same : (named.0, valued.0) ≡ s = cc in
      let made : Named A = (named.0, valued.0) in
      let long : length (earlier ++ made ∷ []) ≡ length earlier + 1 = length-append earlier (made ∷ []) in
      let count : length names ≡ length earlier = names_long earlier in
      let last : names_in (earlier ++ made ∷ []) ≡ names ++ named.0 ∷ [] = map-append (λ (s : Named A). s.0) earlier (made ∷ []) in
      subst (λ s. AreReadStatements (earlier ++ s ∷ [])) same (record {
        few = grind (arith, nat_tests, room.0.0, long, count);
        names = subst (AllByRecursion (λ name. IsTrue (is_name name))) (sym last) (all_push (λ name. IsTrue (is_name name)) names named.0 are.names new.0);
        differ = subst (IsDistinct bytes_eq) (sym last) (IsDistinct-push nat_list_eq_equiv names named.0 are.differ new.1);
        each = all_push (λ (s : Named A). IsLawful s.1) earlier made are.each (lawful body valued.0 valued.1);
      })

  statements_kept : (earlier : List (Named A)) (f : Forest) (named : List (Named A))
      → named_after bytes class most read earlier f ≡ Ok named → AreReadStatements earlier → AreReadStatements named
  statements_kept earlier nothing named e are = let same : earlier ≡ named = cc in subst AreReadStatements same are
  statements_kept earlier (grown head below rest) named e are =
      by (begins_with bytes class head) e (λ s. statements_kept (earlier ++ s ∷ []) rest named)
      (λ more. statements_kept earlier rest named more are)
    where
      by : (b : Bool) → (if b then next (named_of bytes most read (names_in earlier) head below)
          (λ s. named_after bytes class most read (earlier ++ s ∷ []) rest) else named_after bytes class most read earlier rest) ≡ Ok named
          → ((s : Named A) → named_after bytes class most read (earlier ++ s ∷ []) rest ≡ Ok named → AreReadStatements (earlier ++ s ∷ [])
          → AreReadStatements named) → (named_after bytes class most read earlier rest ≡ Ok named → AreReadStatements named)
          → AreReadStatements named
      by true e one more =
          let told = next_ok (named_of bytes most read (names_in earlier) head below)
          (λ s. named_after bytes class most read (earlier ++ s ∷ []) rest) named e in
          one told.0 told.2 (statement_kept earlier head below told.0 told.1 are)
      by false e one more = more e

  none_yet : AreReadStatements []
  unfolding IsDistinct
  none_yet = record { few = omega arith; names = tt; differ = tt; each = tt }

  -- the statements of a sort: so few, with names that differ, and with lawful bodies
  pub statements_lawful : (f : Forest) (named : List (Named A)) → named_after bytes class most read [] f ≡ Ok named
      → (length named ≤ most) × AreLawfulNames (names_in named) × All (λ (s : Named A). IsLawful s.1) named
  statements_lawful f named e =
      let are = statements_kept [] f named e none_yet in (
        are.few,
        record { each = All-from_recursion (λ name. IsTrue (is_name name)) (names_in named) are.names; differ = are.differ },
        All-from_recursion (λ (s : Named A). IsLawful s.1) named are.each,
      )

-- Documents.

topology_lawful : (bytes : List ℕ) (f : Forest) (T : Topology) → topology_of bytes f ≡ Ok T → IsNamedTopology T
topology_lawful bytes f T e =
    let switched = next_ok (switches_in_order bytes f)
    (λ switches. next (links_in_order bytes switches f) (λ links. Ok (record { switches = switches; links = links }))) T e in
    let switches = next_ok (switches_after bytes [] f) (λ switches. Ok (by_datapath switches)) switched.0 switched.1 in
    let sorted : by_datapath switches.0 ≡ switched.0 = cc in
    let network : IsNamedTopology (record { switches = switched.0; links = [] }) =
    subst (λ ss. IsNamedTopology (record { switches = ss; links = [] })) sorted (network_of bytes f switches.0 switches.1) in
    let linked = next_ok (links_in_order bytes switched.0 f) (λ links. Ok (record { switches = switched.0; links = links })) T switched.2 in
    let links = next_ok (links_after bytes switched.0 [] f) (λ links. Ok (in_order links)) linked.0 linked.1 in
    let ordered : in_order links.0 ≡ linked.0 = cc in
    let same : record { switches = switched.0; links = linked.0 } ≡ T = cc in
    subst IsNamedTopology same (subst (λ ls. IsNamedTopology (record { switches = switched.0; links = ls })) ordered
    (network_with bytes switched.0 f links.0 links.1 network))

-- what is in a document that is read for a network
described : (bytes : List ℕ) (f : Forest) (T : Topology) → IsNamedTopology T
    → (parts : List (Named PolicyTree)) (queries : List (Named QueryTree)) (d : DocumentTree) → parts_of T bytes f ≡ Ok parts
    → queries_of T bytes f ≡ Ok queries → record { topology = T; parts = parts; queries = queries } ≡ d → IsLawfulDocument d
described bytes f T network parts queries d parted asked same =
    let fitting = reads_fitting T network in
    let standing = reads_standing T in
    let policies = statements_lawful PolicyTree IsLawfulPolicy bytes PartWord 1024 (policy_of T bytes) (policy_over T FitsField fitting bytes) f parts parted in
    let named_policies = statements_lawful PolicyTree (IsPolicyOver (MayStand T)) bytes PartWord 1024 (policy_of T bytes)
    (policy_over T (MayStand T) standing bytes) f parts parted in
    let questions = statements_lawful QueryTree IsLawfulQuery bytes QueryWord 256 (query_of T bytes) (query_over T FitsField fitting bytes) f queries asked in
    let named_questions = statements_lawful QueryTree (IsQueryOver (MayStand T)) bytes QueryWord 256 (query_of T bytes)
    (query_over T (MayStand T) standing bytes) f queries asked in
    subst IsLawfulDocument same (record {
      topology = network;
      few_parts = policies.0;
      part_names = policies.1;
      parts = policies.2;
      named_parts = named_policies.2;
      few_queries = questions.0;
      query_names = questions.1;
      queries = questions.2;
      named_queries = named_questions.2;
    })

-- what statements describe is lawful
pub document_lawful : (bytes : List ℕ) (f : Forest) (d : DocumentTree) → document_of bytes f ≡ Ok d → IsLawfulDocument d
document_lawful bytes f d e =
    let made = next_ok (topology_of bytes f)
    (λ T. next (parts_of T bytes f)
    (λ parts. next (queries_of T bytes f) (λ queries. Ok (record { topology = T; parts = parts; queries = queries })))) d e in
    let T = made.0 in
    let parted = next_ok (parts_of T bytes f)
    (λ parts. next (queries_of T bytes f) (λ queries. Ok (record { topology = T; parts = parts; queries = queries }))) d made.2 in
    let asked = next_ok (queries_of T bytes f) (λ queries. Ok (record { topology = T; parts = parted.0; queries = queries })) d parted.2 in
    let same : record { topology = T; parts = parted.0; queries = asked.0 } ≡ d = cc in
    described bytes f T (topology_lawful bytes f T made.1) parted.0 asked.0 d parted.1 asked.1 same

-- and its queries have few atoms
pub document_few : (sort : Sort) (bytes : List ℕ) (f : Forest) (d : DocumentTree) → IsForestOf sort bytes f → document_of bytes f ≡ Ok d
    → All (λ q. query_atoms q.1 < length bytes) d.queries
document_few sort bytes f d is e =
    let made = next_ok (topology_of bytes f)
    (λ T. next (parts_of T bytes f)
    (λ parts. next (queries_of T bytes f) (λ queries. Ok (record { topology = T; parts = parts; queries = queries })))) d e in
    let T = made.0 in
    let parted = next_ok (parts_of T bytes f)
    (λ parts. next (queries_of T bytes f) (λ queries. Ok (record { topology = T; parts = parts; queries = queries }))) d made.2 in
    let asked = next_ok (queries_of T bytes f) (λ queries. Ok (record { topology = T; parts = parted.0; queries = queries })) d parted.2 in
    let same : record { topology = T; parts = parted.0; queries = asked.0 } ≡ d = cc in
    subst (λ d. All (λ q. query_atoms q.1 < length bytes) d.queries) same (queries_few T bytes sort f asked.0 is asked.1)
