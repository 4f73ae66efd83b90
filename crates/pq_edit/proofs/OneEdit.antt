-- Over a document, a text spells one edit at most, and has one fault at most, and not both.
use Rattle.std.specs.Prelude.{◌≡◌, ℕ, List, Ok, Err}
use Rattle.std.proofs.Common.{refl, sym, ◌∙◌, ap, subst}
use Rattle.pq_term.specs.declared.division.TermFault.{TermFault}
use Rattle.pq_term.specs.declared.division.TermFault.TheVariants.{Lex as LexTerm, Syntax as SyntaxTerm}
use Rattle.pq_grammar.specs.declared.sort.Sort.TheVariants.{Edit as EditSort}
use Rattle.pq_tree.specs.Trees.{Forest}
use Rattle.pq_tree.specs.Reading.{IsForestOf, IsTextFault}
use Rattle.pq_tree.proofs.OneReading.{one_forest, one_text_fault, no_text_fault}
use Rattle.pq_topo.specs.declared.fault.NameKind.{NameKind}
use Rattle.pq_topo.specs.Naming.{Reading}
use Rattle.pq_compile.specs.declared.fault.DocumentFault.{DocumentFault}
use Rattle.pq_compile.specs.declared.fault.DocumentFault.TheVariants.{Lex, Syntax, Name as NameFault, Memory}
use Rattle.pq_compile.specs.Documents.{DocumentTree}
use Rattle.pq_compile.proofs.OneDocument.{as_document, IsText, not_memory}
use Rattle.pq_edit.specs.Edits.{EditTree}
use Rattle.pq_edit.specs.Reading.{SpellsEdit, IsEditNameFault, IsEditFault, edit_of}

-- the value that is read
abbrev value_or : EditTree → Reading EditTree → EditTree
value_or e (Ok other) = other
value_or e (Err fault) = e

-- the fault that is read
abbrev fault_in : Reading EditTree → DocumentFault
fault_in (Ok e) = Memory
fault_in (Err fault) = NameFault fault.at fault.kind

-- whether a value is read
abbrev IsRead : Reading EditTree → Type 0
IsRead (Ok e) = Unit {0}
IsRead (Err fault) = ⊥

-- two faults of a text are one
same_fault : (bytes : List ℕ) (f g : TermFault) → IsText f → IsText g → IsTextFault EditSort bytes f → IsTextFault EditSort bytes g
    → as_document f ≡ as_document g
same_fault bytes f g some other first second = ap as_document (one_text_fault EditSort bytes f g first second (not_memory f some) (not_memory g other))

-- a text with a statement has none
no_fault : (bytes : List ℕ) (statement : Forest) (f : TermFault) → IsText f → IsForestOf EditSort bytes statement → IsTextFault EditSort bytes f → ⊥
no_fault bytes statement f text whole fault = not_memory f text (no_text_fault EditSort bytes statement f whole fault)

module _ (bytes : List ℕ) (d : DocumentTree) where
  -- a text spells one edit
  pub one_edit : (e f : EditTree) → SpellsEdit bytes d e → SpellsEdit bytes d f → e ≡ f
  one_edit e f first second =
      let same : first.statement ≡ second.statement = one_forest EditSort bytes first.statement second.statement first.sentence second.sentence in
      ap (value_or e) (sym first.named ∙ ap (edit_of d bytes) same ∙ second.named)

  -- its statement has one faulty token that comes first
  one_name_fault : (i j : ℕ) (k l : NameKind) → IsEditNameFault bytes d i k → IsEditNameFault bytes d j l → NameFault i k ≡ NameFault j l
  one_name_fault i j k l first second =
      let same : first.statement ≡ second.statement = one_forest EditSort bytes first.statement second.statement first.sentence second.sentence in
      ap fault_in (sym first.faulty ∙ ap (edit_of d bytes) same ∙ second.faulty)

  -- the text has one fault, running out of memory aside
  pub one_edit_fault : (f g : DocumentFault) → IsEditFault bytes d f → IsEditFault bytes d g → (f ≡ Memory → ⊥) → (g ≡ Memory → ⊥) → f ≡ g
  one_edit_fault (Lex i) (Lex j) first second some other = same_fault bytes (LexTerm i) (LexTerm j) tt tt first second
  one_edit_fault (Lex i) (Syntax j) first second some other = same_fault bytes (LexTerm i) (SyntaxTerm j) tt tt first second
  one_edit_fault (Syntax i) (Lex j) first second some other = same_fault bytes (SyntaxTerm i) (LexTerm j) tt tt first second
  one_edit_fault (Syntax i) (Syntax j) first second some other = same_fault bytes (SyntaxTerm i) (SyntaxTerm j) tt tt first second
  one_edit_fault (Lex i) (NameFault j l) first second some other = absurd (no_fault bytes second.statement (LexTerm i) tt second.sentence first)
  one_edit_fault (Syntax i) (NameFault j l) first second some other = absurd (no_fault bytes second.statement (SyntaxTerm i) tt second.sentence first)
  one_edit_fault (NameFault i k) (Lex j) first second some other = absurd (no_fault bytes first.statement (LexTerm j) tt first.sentence second)
  one_edit_fault (NameFault i k) (Syntax j) first second some other = absurd (no_fault bytes first.statement (SyntaxTerm j) tt first.sentence second)
  one_edit_fault (NameFault i k) (NameFault j l) first second some other = one_name_fault i j k l first second
  one_edit_fault Memory g first second some other = absurd (some refl)
  one_edit_fault (Lex i) Memory first second some other = absurd (other refl)
  one_edit_fault (Syntax i) Memory first second some other = absurd (other refl)
  one_edit_fault (NameFault i k) Memory first second some other = absurd (other refl)

  -- where the text spells an edit, it has none
  pub no_edit_fault : (e : EditTree) (f : DocumentFault) → SpellsEdit bytes d e → IsEditFault bytes d f → f ≡ Memory
  no_edit_fault e (Lex i) whole fault = absurd (no_fault bytes whole.statement (LexTerm i) tt whole.sentence fault)
  no_edit_fault e (Syntax i) whole fault = absurd (no_fault bytes whole.statement (SyntaxTerm i) tt whole.sentence fault)
  no_edit_fault e (NameFault i k) whole fault =
      let same : whole.statement ≡ fault.statement = one_forest EditSort bytes whole.statement fault.statement whole.sentence fault.sentence in
      absurd (subst IsRead (sym whole.named ∙ ap (edit_of d bytes) same ∙ fault.faulty) tt)
  no_edit_fault e Memory whole fault = refl
