-- The edit that a text spells of a document.
use Rattle.std.specs.Prelude.{◌≡◌, ℕ, Bool, not, ◌&&◌, if◌then◌else◌, List, [], ◌∷◌, length, nat_le, bytes_eq, Option, Some, None, Ok, Err}
use Rattle.std.specs.List.{list_any}
use Rattle.pq_term.specs.declared.token.Token.{Token}
use Rattle.pq_term.specs.Division.{MeetsNoToken}
use Rattle.pq_grammar.specs.declared.sort.Sort.TheVariants.{Edit as EditSort}
use Rattle.pq_grammar.specs.declared.class.Class.TheVariants.{PartWord, QueryWord, RemoveWord}
use Rattle.pq_tree.specs.Trees.{Forest, nothing, grown, Tree}
use Rattle.pq_tree.specs.Texts.{text_in}
use Rattle.pq_tree.specs.Reading.{IsForestOf, IsSyntaxFault}
use Rattle.pq_topo.specs.declared.fault.NameKind.{NameKind}
use Rattle.pq_topo.specs.declared.fault.NameKind.TheVariants.{Many, BadValue, UnknownPart, UnknownQuery}
use Rattle.pq_topo.specs.Naming.{Reading, faulty, unless, next}
use Rattle.pq_topo.specs.Statements.{begins_with}
use Rattle.pq_pred.specs.Values.{name_in}
use Rattle.pq_policy.specs.Resolved.{policy_of}
use Rattle.pq_query.specs.Resolved.{query_of}
use Rattle.pq_compile.specs.Documents.{DocumentTree}
use Rattle.pq_compile.specs.Lawful.{names_in}
use Rattle.pq_compile.specs.Names.{Named}
use Rattle.pq_compile.specs.declared.fault.DocumentFault.{DocumentFault}
use Rattle.pq_compile.specs.declared.fault.DocumentFault.TheVariants.{Lex, Syntax, Name as NameFault, Memory}
use Rattle.pq_edit.specs.Edits.{EditTree, PartPut, PartRemoved, QueryPut, QueryRemoved}

-- one of the names
abbrev pub is_among : List ℕ → List (List ℕ) → Bool
is_among name names = list_any (bytes_eq name) names

-- the keyword of a statement that puts what has the name among what has these: it is one too many where there is the most already, and none has the name
abbrev pub keyword_at : ℕ → List (List ℕ) → Token → List ℕ → Reading Token
keyword_at most names keyword name = unless keyword ((nat_le most (length names) && not (is_among name names), Many) ∷ []) keyword

-- what is put under the name; what is not a name is in no sentence
abbrev pub put_under : {A : Type 0} → ℕ → (Tree → Reading A) → List (List ℕ) → Token → Token → Tree → Option (List ℕ) → Reading (Named A)
put_under most read names keyword t body None = faulty t BadValue
put_under most read names keyword t body (Some name) =
    next (keyword_at most names keyword name) (λ _.
    next (read body) (λ value. Ok (name, value)))

-- what a statement puts among what has these names, of which there is a most; statements without a name and a body are in no sentence
abbrev pub put_of : {A : Type 0} → List ℕ → ℕ → (Tree → Reading A) → List (List ℕ) → Token → Forest → Reading (Named A)
put_of bytes most read names keyword nothing = faulty keyword BadValue
put_of bytes most read names keyword (grown name x nothing) = faulty keyword BadValue
put_of bytes most read names keyword (grown name x (grown head below rest)) =
    put_under most read names keyword name (record { head = head; below = below }) (name_in (text_in bytes name))

-- the name of what is removed, which is one of these; what is not a name is in no sentence
abbrev pub removed_name : NameKind → List (List ℕ) → Token → Option (List ℕ) → Reading (List ℕ)
removed_name kind names t None = faulty t BadValue
removed_name kind names t (Some name) = unless t ((not (is_among name names), kind) ∷ []) name

-- the name after `remove part` or `remove query`; a removal without a name is in no sentence
abbrev pub removed_of : List ℕ → NameKind → List (List ℕ) → Token → Forest → Reading (List ℕ)
removed_of bytes kind names keyword nothing = faulty keyword BadValue
removed_of bytes kind names keyword (grown name x rest) = removed_name kind names name (name_in (text_in bytes name))

-- the part, or the query, that is removed from the document
abbrev pub remove_part : DocumentTree → List ℕ → Token → Forest → Reading EditTree
remove_part d bytes keyword below = next (removed_of bytes UnknownPart (names_in d.parts) keyword below) (λ name. Ok (PartRemoved name))

abbrev pub remove_query : DocumentTree → List ℕ → Token → Forest → Reading EditTree
remove_query d bytes keyword below = next (removed_of bytes UnknownQuery (names_in d.queries) keyword below) (λ name. Ok (QueryRemoved name))

-- what is removed from the document; what is neither a part nor a query is in no sentence
abbrev pub removal_at : DocumentTree → List ℕ → Token → Forest → Reading EditTree
removal_at d bytes keyword below =
    if begins_with bytes PartWord keyword then remove_part d bytes keyword below
    else if begins_with bytes QueryWord keyword then remove_query d bytes keyword below
    else faulty keyword BadValue

abbrev pub removal_of : DocumentTree → List ℕ → Token → Forest → Reading EditTree
removal_of d bytes remove nothing = faulty remove BadValue
removal_of d bytes remove (grown keyword below rest) = removal_at d bytes keyword below

-- the part, or the query, that is put into the document: there may be 1,024 parts and 256 queries
abbrev pub put_part : DocumentTree → List ℕ → Token → Forest → Reading EditTree
put_part d bytes keyword below = next (put_of bytes 1024 (policy_of d.topology bytes) (names_in d.parts) keyword below) (λ p. Ok (PartPut p))

abbrev pub put_query : DocumentTree → List ℕ → Token → Forest → Reading EditTree
put_query d bytes keyword below = next (put_of bytes 256 (query_of d.topology bytes) (names_in d.queries) keyword below) (λ q. Ok (QueryPut q))

-- the edit of a statement, by the keyword that begins it; no other statement is in a sentence
abbrev pub statement_of : DocumentTree → List ℕ → Token → Forest → Reading EditTree
statement_of d bytes keyword below =
    if begins_with bytes PartWord keyword then put_part d bytes keyword below
    else if begins_with bytes QueryWord keyword then put_query d bytes keyword below
    else if begins_with bytes RemoveWord keyword then removal_of d bytes keyword below
    else faulty keyword BadValue

-- the edit of the one statement of a text; no sentence is without it
abbrev pub edit_of : DocumentTree → List ℕ → Forest → Reading EditTree
edit_of d bytes nothing = Err (record { at = 0; kind = BadValue })
edit_of d bytes (grown keyword below rest) = statement_of d bytes keyword below

-- the text spells the edit of the document
pub record SpellsEdit (bytes : List ℕ) (d : DocumentTree) (e : EditTree) : Type 0 where
  pub statement : Forest
  pub sentence : IsForestOf EditSort bytes statement
  pub named : edit_of d bytes statement ≡ Ok e

-- the text is a sentence, whose first faulty token for this document begins at this byte and breaks this rule first
pub record IsEditNameFault (bytes : List ℕ) (d : DocumentTree) (at : ℕ) (kind : NameKind) : Type 0 where
  pub statement : Forest
  pub sentence : IsForestOf EditSort bytes statement
  pub faulty : edit_of d bytes statement ≡ Err (record { at = at; kind = kind })

-- the text spells no edit of the document: for what is not a token, for tokens that are not sentence, or for what they name; or memory is wanting
abbrev pub IsEditFault : List ℕ → DocumentTree → DocumentFault → Type 0
IsEditFault bytes d (Lex at) = MeetsNoToken bytes at
IsEditFault bytes d (Syntax at) = IsSyntaxFault EditSort bytes at
IsEditFault bytes d (NameFault at kind) = IsEditNameFault bytes d at kind
IsEditFault bytes d Memory = Unit {0}
