-- The document that a text spells.
use Rattle.std.specs.Prelude.{◌≡◌, ℕ, List, [], map, Ok, Err}
use Rattle.pq_term.specs.declared.name.Name.{Name}
use Rattle.pq_term.specs.Division.{MeetsNoToken}
use Rattle.pq_grammar.specs.declared.sort.Sort.TheVariants.{Document as DocumentSort}
use Rattle.pq_grammar.specs.declared.class.Class.TheVariants.{PartWord, QueryWord}
use Rattle.pq_tree.specs.Trees.{Forest}
use Rattle.pq_tree.specs.Reading.{IsForestOf, IsSyntaxFault}
use Rattle.pq_model.specs.Topology.{Topology}
use Rattle.pq_topo.specs.declared.fault.NameKind.{NameKind}
use Rattle.pq_topo.specs.Naming.{Reading, next}
use Rattle.pq_topo.specs.Statements.{topology_of}
use Rattle.pq_policy.specs.declared.policy.Policy.{Policy}
use Rattle.pq_policy.specs.Policy.{PolicyTree, policy_tree}
use Rattle.pq_policy.specs.Resolved.{policy_of}
use Rattle.pq_query.specs.declared.query.Query.{Query}
use Rattle.pq_query.specs.Query.{QueryTree, query_tree}
use Rattle.pq_query.specs.Resolved.{query_of}
use Rattle.pq_compile.specs.Names.{Named, named_after}
use Rattle.pq_compile.specs.declared.document.Document.{Document}
use Rattle.pq_compile.specs.declared.fault.DocumentFault.{DocumentFault}
use Rattle.pq_compile.specs.declared.fault.DocumentFault.TheVariants.{Lex, Syntax, Name as NameFault, Memory}

-- a document as plain data
pub record DocumentTree : Type 0 where
  pub topology : Topology
  pub parts : List (Named PolicyTree)
  pub queries : List (Named QueryTree)

-- a part as plain data
abbrev pub part_tree : Name × Policy → Named PolicyTree
part_tree p = (p.0, policy_tree p.1)

-- a query of a document as plain data
abbrev pub named_query_tree : Name × Query → Named QueryTree
named_query_tree q = (q.0, query_tree q.1)

abbrev pub document_tree : Document → DocumentTree
document_tree d = record { topology = d.topology; parts = map part_tree d.parts.items; queries = map named_query_tree d.queries.items }

-- the parts of the statements, of which there may be 1,024
abbrev pub parts_of : Topology → List ℕ → Forest → Reading (List (Named PolicyTree))
parts_of T bytes statements = named_after bytes PartWord 1024 (policy_of T bytes) [] statements

-- the queries of the statements, of which there may be 256
abbrev pub queries_of : Topology → List ℕ → Forest → Reading (List (Named QueryTree))
queries_of T bytes statements = named_after bytes QueryWord 256 (query_of T bytes) [] statements

-- the document of the statements
abbrev pub document_of : List ℕ → Forest → Reading DocumentTree
document_of bytes statements =
    next (topology_of bytes statements) (λ T.
    next (parts_of T bytes statements) (λ parts.
    next (queries_of T bytes statements) (λ queries. Ok (record { topology = T; parts = parts; queries = queries }))))

-- the text spells the document
pub record Spells (bytes : List ℕ) (d : DocumentTree) : Type 0 where
  pub statements : Forest
  pub sentence : IsForestOf DocumentSort bytes statements
  pub named : document_of bytes statements ≡ Ok d

-- the text is a sentence, whose first faulty token begins at this byte and breaks this rule first
pub record IsNameFault (bytes : List ℕ) (at : ℕ) (kind : NameKind) : Type 0 where
  pub statements : Forest
  pub sentence : IsForestOf DocumentSort bytes statements
  pub faulty : document_of bytes statements ≡ Err (record { at = at; kind = kind })

-- the text spells no document: for what is not a token, for tokens that are not sentence, or for what they name; or memory is wanting
abbrev pub IsDocumentFault : List ℕ → DocumentFault → Type 0
IsDocumentFault bytes (Lex at) = MeetsNoToken bytes at
IsDocumentFault bytes (Syntax at) = IsSyntaxFault DocumentSort bytes at
IsDocumentFault bytes (NameFault at kind) = IsNameFault bytes at kind
IsDocumentFault bytes Memory = Unit {0}
