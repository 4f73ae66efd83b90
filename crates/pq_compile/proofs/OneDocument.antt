-- A text spells one document at most, and has one fault at most, and not both.
use Rattle.std.specs.Prelude.{◌≡◌, ℕ, List, Ok, Err}
use Rattle.std.proofs.Common.{refl, sym, ◌∙◌, ap, subst}
use Rattle.pq_term.specs.declared.division.TermFault.{TermFault}
use Rattle.pq_term.specs.declared.division.TermFault.TheVariants.{Lex as LexTerm, Syntax as SyntaxTerm, Memory as MemoryTerm}
use Rattle.pq_grammar.specs.declared.sort.Sort.TheVariants.{Document as DocumentSort}
use Rattle.pq_tree.specs.Trees.{Forest}
use Rattle.pq_tree.specs.Reading.{IsForestOf, IsTextFault}
use Rattle.pq_tree.proofs.OneReading.{one_forest, one_text_fault, no_text_fault}
use Rattle.pq_topo.specs.declared.fault.NameKind.{NameKind}
use Rattle.pq_topo.specs.Naming.{Reading}
use Rattle.pq_compile.specs.declared.fault.DocumentFault.{DocumentFault}
use Rattle.pq_compile.specs.declared.fault.DocumentFault.TheVariants.{Lex, Syntax, Name as NameFault, Memory}
use Rattle.pq_compile.specs.Documents.{DocumentTree, Spells, IsNameFault, IsDocumentFault, document_of}

-- the value that is read
abbrev value_or : DocumentTree → Reading DocumentTree → DocumentTree
value_or d (Ok e) = e
value_or d (Err f) = d

-- the fault that is read
abbrev fault_in : Reading DocumentTree → DocumentFault
fault_in (Ok d) = Memory
fault_in (Err f) = NameFault f.at f.kind

-- whether a value is read
abbrev IsRead : Reading DocumentTree → Type 0
IsRead (Ok d) = Unit {0}
IsRead (Err f) = ⊥

-- the fault of a text, as one of a document
abbrev pub as_document : TermFault → DocumentFault
as_document (LexTerm i) = Lex i
as_document (SyntaxTerm i) = Syntax i
as_document MemoryTerm = Memory

-- what is not running out of memory
abbrev pub IsText : TermFault → Type 0
IsText (LexTerm i) = Unit {0}
IsText (SyntaxTerm i) = Unit {0}
IsText MemoryTerm = ⊥

-- so it does not say that memory ran out
pub not_memory : (f : TermFault) → IsText f → f ≡ MemoryTerm → ⊥
not_memory f text h = subst IsText h text

-- two faults of a text are one
same_fault : (bytes : List ℕ) (f g : TermFault) → IsText f → IsText g → IsTextFault DocumentSort bytes f → IsTextFault DocumentSort bytes g
    → as_document f ≡ as_document g
same_fault bytes f g some other first second = ap as_document (one_text_fault DocumentSort bytes f g first second (not_memory f some) (not_memory g other))

-- a text with statements has none
no_fault : (bytes : List ℕ) (statements : Forest) (f : TermFault) → IsText f → IsForestOf DocumentSort bytes statements → IsTextFault DocumentSort bytes f → ⊥
no_fault bytes statements f text whole fault = not_memory f text (no_text_fault DocumentSort bytes statements f whole fault)

-- a text spells one document
pub one_document : (bytes : List ℕ) (d e : DocumentTree) → Spells bytes d → Spells bytes e → d ≡ e
one_document bytes d e first second =
    let same : first.statements ≡ second.statements = one_forest DocumentSort bytes first.statements second.statements first.sentence second.sentence in
    ap (value_or d) (sym first.named ∙ ap (document_of bytes) same ∙ second.named)

-- its statements have one faulty token that comes first
one_name_fault : (bytes : List ℕ) (i j : ℕ) (k l : NameKind) → IsNameFault bytes i k → IsNameFault bytes j l → NameFault i k ≡ NameFault j l
one_name_fault bytes i j k l first second =
    let same : first.statements ≡ second.statements = one_forest DocumentSort bytes first.statements second.statements first.sentence second.sentence in
    ap fault_in (sym first.faulty ∙ ap (document_of bytes) same ∙ second.faulty)

-- the text has one fault, running out of memory aside
pub one_document_fault : (bytes : List ℕ) (f g : DocumentFault) → IsDocumentFault bytes f → IsDocumentFault bytes g → (f ≡ Memory → ⊥)
    → (g ≡ Memory → ⊥) → f ≡ g
one_document_fault bytes (Lex i) (Lex j) first second some other = same_fault bytes (LexTerm i) (LexTerm j) tt tt first second
one_document_fault bytes (Lex i) (Syntax j) first second some other = same_fault bytes (LexTerm i) (SyntaxTerm j) tt tt first second
one_document_fault bytes (Syntax i) (Lex j) first second some other = same_fault bytes (SyntaxTerm i) (LexTerm j) tt tt first second
one_document_fault bytes (Syntax i) (Syntax j) first second some other = same_fault bytes (SyntaxTerm i) (SyntaxTerm j) tt tt first second
one_document_fault bytes (Lex i) (NameFault j l) first second some other = absurd (no_fault bytes second.statements (LexTerm i) tt second.sentence first)
one_document_fault bytes (Syntax i) (NameFault j l) first second some other = absurd (no_fault bytes second.statements (SyntaxTerm i) tt second.sentence first)
one_document_fault bytes (NameFault i k) (Lex j) first second some other = absurd (no_fault bytes first.statements (LexTerm j) tt first.sentence second)
one_document_fault bytes (NameFault i k) (Syntax j) first second some other = absurd (no_fault bytes first.statements (SyntaxTerm j) tt first.sentence second)
one_document_fault bytes (NameFault i k) (NameFault j l) first second some other = one_name_fault bytes i j k l first second
one_document_fault bytes Memory g first second some other = absurd (some refl)
one_document_fault bytes (Lex i) Memory first second some other = absurd (other refl)
one_document_fault bytes (Syntax i) Memory first second some other = absurd (other refl)
one_document_fault bytes (NameFault i k) Memory first second some other = absurd (other refl)

-- where the text spells a document, it has none
pub no_document_fault : (bytes : List ℕ) (d : DocumentTree) (f : DocumentFault) → Spells bytes d → IsDocumentFault bytes f → f ≡ Memory
no_document_fault bytes d (Lex i) whole fault = absurd (no_fault bytes whole.statements (LexTerm i) tt whole.sentence fault)
no_document_fault bytes d (Syntax i) whole fault = absurd (no_fault bytes whole.statements (SyntaxTerm i) tt whole.sentence fault)
no_document_fault bytes d (NameFault i k) whole fault =
    let same : whole.statements ≡ fault.statements = one_forest DocumentSort bytes whole.statements fault.statements whole.sentence fault.sentence in
    absurd (subst IsRead (sym whole.named ∙ ap (document_of bytes) same ∙ fault.faulty) tt)
no_document_fault bytes d Memory whole fault = refl
