-- Edits that are read are lawful.
use Rattle.std.specs.Prelude.{◌≡◌, ℕ, ◌+◌, ◌<◌, ◌≤◌, Bool, true, false, not, ◌&&◌, if◌then◌else◌, List, [], ◌∷◌, length, nat_le, IsTrue, Some, None, Ok}
use Rattle.std.proofs.Common.{arith, refl, ap, subst, ◌∙◌, length-append}
use Rattle.std.proofs.lemmas.Bool.Decides.{nat_tests}
use Rattle.std.proofs.lemmas.Bool.{not-false}
use Rattle.pq_term.specs.declared.token.Token.{Token}
use Rattle.pq_term.specs.Names.{is_name}
use Rattle.pq_grammar.specs.declared.class.Class.TheVariants.{PartWord, QueryWord, RemoveWord}
use Rattle.pq_grammar.specs.declared.sort.Sort.TheVariants.{Edit as EditSort}
use Rattle.pq_tree.specs.Reading.{IsForestOf}
use Rattle.pq_tree.specs.Texts.{text_in}
use Rattle.pq_tree.specs.Trees.{Forest, nothing, grown, Tree}
use Rattle.pq_model.specs.Topology.{Topology}
use Rattle.pq_topo.specs.declared.fault.NameKind.{NameKind}
use Rattle.pq_topo.specs.declared.fault.NameKind.TheVariants.{Many, BadValue, UnknownPart, UnknownQuery}
use Rattle.pq_topo.specs.Named.{IsNamedTopology}
use Rattle.pq_topo.specs.Naming.{Reading, faulty, next}
use Rattle.pq_topo.specs.Statements.{begins_with}
use Rattle.pq_topo.proofs.Readings.{next_ok, unless_ok}
use Rattle.pq_pred.specs.Named.{MayStand}
use Rattle.pq_pred.specs.Values.{name_in}
use Rattle.pq_policy.specs.Policy.{PolicyTree, IsLawfulPolicy, IsPolicyOver}
use Rattle.pq_policy.specs.Resolved.{policy_of}
use Rattle.pq_query.specs.Atoms.{query_atoms}
use Rattle.pq_query.specs.Lawful.{IsLawfulQuery, IsQueryOver}
use Rattle.pq_query.specs.Query.{QueryTree}
use Rattle.pq_query.specs.Resolved.{query_of}
use Rattle.pq_compile.specs.Documents.{DocumentTree}
use Rattle.pq_compile.specs.Lawful.{IsLawfulDocument, names_in}
use Rattle.pq_compile.specs.Names.{Named}
use Rattle.pq_edit.specs.Edits.{EditTree, PartPut, PartRemoved, QueryPut, QueryRemoved, IsLawfulEdit, IsLawfulPart, IsLawfulNamedQuery, put}
use Rattle.pq_edit.specs.Reading.{is_among, keyword_at, put_of, put_part, put_query, put_under, remove_part, remove_query, removed_name}
use Rattle.pq_edit.specs.Reading.{removed_of, removal_at, removal_of, statement_of, edit_of}
use Rattle.pq_edit.proofs.Counted.{put_few}
use Rattle.pq_edit.proofs.Changed.{names_kept, names_long, names_more}

-- What is put.

-- where `a` and not `b` together are false, and `b` is, `a` is false
only : (a b : Bool) → (a && not b) ≡ false → b ≡ false → a ≡ false
only true true none other = absurd cc
only true false none other = absurd cc
only false b none other = refl

module _ {A : Type 0} (bytes : List ℕ) (most : ℕ) (read : Tree → Reading A) (earlier : List (Named A)) where
  -- a name for which there is room, and a body that is read
  pub record IsPut (p : Named A) : Type 0 where
    pub name : IsTrue (is_name p.0)
    pub room : (nat_le most (length (names_in earlier)) && not (is_among p.0 (names_in earlier))) ≡ false
    pub body : Tree
    pub is_read : read body ≡ Ok p.1

  under_put : (keyword t : Token) (body : Tree) (text : List ℕ) (p : Named A)
      → put_under most read (names_in earlier) keyword t body (name_in text) ≡ Ok p → IsPut p
  under_put keyword t body text p e = by (is_name text) refl e
    where
      by : (b : Bool) → is_name text ≡ b → put_under most read (names_in earlier) keyword t body (if b then Some text else None) ≡ Ok p → IsPut p
      by true is e =
          let begun = next_ok (keyword_at most (names_in earlier) keyword text) (λ _. next (read body) (λ value. Ok (text, value))) p e in
          let room = unless_ok keyword ((nat_le most (length (names_in earlier)) && not (is_among text (names_in earlier)), Many) ∷ [])
          keyword begun.0 begun.1 in
          let valued = next_ok (read body) (λ value. Ok (text, value)) p begun.2 in
          let same : (text, valued.0) ≡ p = cc in
          subst IsPut same (record { name = is; room = room.0.0; body = body; is_read = valued.1 })
      by false is e = absurd cc

  put_is : (keyword : Token) (below : Forest) (p : Named A) → put_of bytes most read (names_in earlier) keyword below ≡ Ok p → IsPut p
  put_is keyword nothing p e = absurd cc
  put_is keyword (grown name x nothing) p e = absurd cc
  put_is keyword (grown name x (grown head below rest)) p e = under_put keyword name (record { head = head; below = below }) (text_in bytes name) p e

  -- there are no more than there may be
  put_fits : (p : Named A) → IsPut p → length earlier ≤ most → length (put p earlier) ≤ most
  put_fits p is few = by (is_among p.0 (names_in earlier)) refl
    where
      long : length (names_in (put p earlier)) ≡ length (put p earlier)
      long = names_long (put p earlier)

      before : length (names_in earlier) ≡ length earlier
      before = names_long earlier

      by : (b : Bool) → is_among p.0 (names_in earlier) ≡ b → length (put p earlier) ≤ most
      by true among = let kept : length (names_in (put p earlier)) ≡ length (names_in earlier) = ap length (names_kept p earlier among) in
          omega (arith, kept, long, before, few)
      by false new =
          let more : length (names_in (put p earlier)) ≡ length (names_in earlier) + 1 = ap length (names_more p earlier new)
          ∙ length-append (names_in earlier) (p.0 ∷ []) in
          let full = only (nat_le most (length (names_in earlier))) (is_among p.0 (names_in earlier)) is.room new in
          grind (arith, nat_tests, full, more, long, before)

-- What is removed.

name_is : (kind : NameKind) (names : List (List ℕ)) (t : Token) (text name : List ℕ) → removed_name kind names t (name_in text) ≡ Ok name
    → IsTrue (is_among name names)
name_is kind names t text name e = by (is_name text) e
  where
    by : (b : Bool) → removed_name kind names t (if b then Some text else None) ≡ Ok name → IsTrue (is_among name names)
    by true e =
        let told = unless_ok t ((not (is_among text names), kind) ∷ []) text name e in
        subst (λ name. IsTrue (is_among name names)) told.1 (not-false (is_among text names) told.0.0)
    by false e = absurd cc

removed_is : (bytes : List ℕ) (kind : NameKind) (names : List (List ℕ)) (keyword : Token) (below : Forest) (name : List ℕ)
    → removed_of bytes kind names keyword below ≡ Ok name
    → IsTrue (is_among name names)
removed_is bytes kind names keyword nothing name e = absurd cc
removed_is bytes kind names keyword (grown t x rest) name e = name_is kind names t (text_in bytes t) name e

-- Edits.

-- what is known of policies and of queries that are read
pub record AreReadLawful : Type 0 where
  pub policy : (T : Topology) → IsNamedTopology T → (bytes : List ℕ) (t : Tree) (p : PolicyTree) → policy_of T bytes t ≡ Ok p → IsLawfulPolicy p
  pub named_policy : (T : Topology) (bytes : List ℕ) (t : Tree) (p : PolicyTree) → policy_of T bytes t ≡ Ok p → IsPolicyOver (MayStand T) p
  pub query : (T : Topology) → IsNamedTopology T → (bytes : List ℕ) (t : Tree) (q : QueryTree) → query_of T bytes t ≡ Ok q → IsLawfulQuery q
  pub named_query : (T : Topology) (bytes : List ℕ) (t : Tree) (q : QueryTree) → query_of T bytes t ≡ Ok q → IsQueryOver (MayStand T) q

module _ (laws : AreReadLawful) (d : DocumentTree) (lawful : IsLawfulDocument d) (bytes : List ℕ) where
  part_lawful : (keyword : Token) (below : Forest) (p : Named PolicyTree)
      → put_of bytes 1024 (policy_of d.topology bytes) (names_in d.parts) keyword below ≡ Ok p → IsLawfulPart d p
  part_lawful keyword below p e =
      let is = put_is bytes 1024 (policy_of d.topology bytes) d.parts keyword below p e in
      record {
        name = is.name;
        policy = laws.policy d.topology lawful.topology bytes is.body p.1 is.is_read;
        named = laws.named_policy d.topology bytes is.body p.1 is.is_read;
        few = put_fits bytes 1024 (policy_of d.topology bytes) d.parts p is lawful.few_parts;
      }

  query_lawful : (keyword : Token) (below : Forest) (q : Named QueryTree)
      → put_of bytes 256 (query_of d.topology bytes) (names_in d.queries) keyword below ≡ Ok q → query_atoms q.1 < 524288
      → IsLawfulNamedQuery d q
  query_lawful keyword below q e few =
      let is = put_is bytes 256 (query_of d.topology bytes) d.queries keyword below q e in
      record {
        name = is.name;
        query = laws.query d.topology lawful.topology bytes is.body q.1 is.is_read;
        named = laws.named_query d.topology bytes is.body q.1 is.is_read;
        few = put_fits bytes 256 (query_of d.topology bytes) d.queries q is lawful.few_queries;
        atoms = few;
      }

  removal_lawful : (keyword : Token) (below : Forest) (e : EditTree) → removal_at d bytes keyword below ≡ Ok e → IsLawfulEdit d e
  removal_lawful keyword below e read = by (begins_with bytes PartWord keyword) (begins_with bytes QueryWord keyword) read
    where
      by : (a b : Bool) → (if a then remove_part d bytes keyword below else if b then remove_query d bytes keyword below else faulty keyword
          BadValue) ≡ Ok e → IsLawfulEdit d e
      by true b read =
          let told = next_ok (removed_of bytes UnknownPart (names_in d.parts) keyword below) (λ name. Ok (PartRemoved name)) e read in
          let same : PartRemoved told.0 ≡ e = cc in
          subst (IsLawfulEdit d) same (removed_is bytes UnknownPart (names_in d.parts) keyword below told.0 told.1)
      by false true read =
          let told = next_ok (removed_of bytes UnknownQuery (names_in d.queries) keyword below) (λ name. Ok (QueryRemoved name)) e read in
          let same : QueryRemoved told.0 ≡ e = cc in
          subst (IsLawfulEdit d) same (removed_is bytes UnknownQuery (names_in d.queries) keyword below told.0 told.1)
      by false false read = absurd cc

  remove_lawful : (keyword : Token) (below : Forest) (e : EditTree) → removal_of d bytes keyword below ≡ Ok e → IsLawfulEdit d e
  remove_lawful keyword nothing e read = absurd cc
  remove_lawful keyword (grown head below rest) e read = removal_lawful head below e read

  statement_lawful : (keyword : Token) (below rest : Forest) (e : EditTree) → IsForestOf EditSort bytes (grown keyword below rest) → length bytes ≤ 524288
      → statement_of d bytes keyword below ≡ Ok e → IsLawfulEdit d e
  statement_lawful keyword below rest e is short read = by (begins_with bytes PartWord keyword) (begins_with bytes QueryWord keyword)
      (begins_with bytes RemoveWord keyword) read
    where
      by : (a b c : Bool)
          → (if a then put_part d bytes keyword below else if b then put_query d bytes keyword below else if c then removal_of d bytes
          keyword below else faulty keyword BadValue) ≡ Ok e
          → IsLawfulEdit d e
      by true b c read =
          let told = next_ok (put_of bytes 1024 (policy_of d.topology bytes) (names_in d.parts) keyword below) (λ p. Ok (PartPut p)) e read in
          let same : PartPut told.0 ≡ e = cc in
          subst (IsLawfulEdit d) same (part_lawful keyword below told.0 told.1)
      by false true c read =
          let told = next_ok (put_of bytes 256 (query_of d.topology bytes) (names_in d.queries) keyword below) (λ q. Ok (QueryPut q)) e read in
          let same : QueryPut told.0 ≡ e = cc in
          let few = put_few d.topology bytes EditSort (names_in d.queries) keyword below rest told.0 is told.1 in
          subst (IsLawfulEdit d) same (query_lawful keyword below told.0 told.1 (omega (arith, few, short)))
      by false false true read = remove_lawful keyword below e read
      by false false false read = absurd cc

-- an edit that a text spells of a lawful document is lawful
pub edit_lawful : AreReadLawful → (d : DocumentTree) → IsLawfulDocument d → (bytes : List ℕ) (f : Forest) (e : EditTree)
    → IsForestOf EditSort bytes f → length bytes ≤ 524288
    → edit_of d bytes f ≡ Ok e → IsLawfulEdit d e
edit_lawful laws d lawful bytes nothing e is short read = absurd cc
edit_lawful laws d lawful bytes (grown keyword below rest) e is short read = statement_lawful laws d lawful bytes keyword below rest e is short read
