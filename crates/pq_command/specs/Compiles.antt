-- What a document is compiled to, and why it isn't.
use Rattle.std.specs.Prelude.{◌≡◌, ◌⊎◌, ℕ, List}
use Rattle.pq_model.specs.Install.{Install, IsSpelled}
use Rattle.pq_compile.specs.declared.compiling.CompileFault.{CompileFault}
use Rattle.pq_compile.specs.declared.compiling.CompileFault.TheVariants as compile
use Rattle.pq_compile.specs.Compiled.{IsCompileFault, IsInstalled, IsWithinLimits}
use Rattle.pq_compile.specs.declared.fault.DocumentFault.{DocumentFault}
use Rattle.pq_compile.specs.declared.fault.DocumentFault.TheVariants as document
use Rattle.pq_compile.specs.Documents.{DocumentTree, IsDocumentFault, Spells}
use Rattle.pq_command.specs.declared.outcome.Outcome.{Outcome}
use Rattle.pq_command.specs.declared.outcome.Outcome.TheVariants.{Lex, Syntax, Name, ValuesFull, InstancesFull, TagWidth, TableFull, GroupFull, Memory}

-- the outcome of a fault of a document
abbrev pub document_outcome : DocumentFault → Outcome
document_outcome (document.Lex at) = Lex at
document_outcome (document.Syntax at) = Syntax at
document_outcome (document.Name at kind) = Name at kind
document_outcome document.Memory = Memory

-- the outcome of a limit that a document is beyond
abbrev pub compile_outcome : CompileFault → Outcome
compile_outcome (compile.ValuesFull field count) = ValuesFull field count
compile_outcome (compile.InstancesFull count) = InstancesFull count
compile_outcome (compile.TagWidth classes) = TagWidth classes
compile_outcome (compile.TableFull switch table entries) = TableFull switch table entries
compile_outcome (compile.GroupFull switch copies) = GroupFull switch copies
compile_outcome compile.Memory = Memory

-- the text is a document within all limits
abbrev pub IsWithinDocument : List ℕ → Type 0
IsWithinDocument text = (d : DocumentTree) × Spells text d × IsWithinLimits d

-- these bytes are the spelling of the document's install, which does what the document means
abbrev pub IsWrittenFor : DocumentTree → List ℕ → Type 0
IsWrittenFor d written = (i : Install) × IsInstalled d i × IsSpelled i written

-- the text is a document, and these bytes are written for it
abbrev pub IsInstallOf : List ℕ → List ℕ → Type 0
IsInstallOf text written = (d : DocumentTree) × Spells text d × IsWrittenFor d written

-- the outcome is that of the text's first fault
abbrev pub IsTextFault : Outcome → List ℕ → Type 0
IsTextFault outcome text = (f : DocumentFault) × (outcome ≡ document_outcome f) × IsDocumentFault text f

-- the outcome is that of the first limit that the document is beyond
abbrev pub IsLimitFault : Outcome → DocumentTree → Type 0
IsLimitFault outcome d = (f : CompileFault) × (outcome ≡ compile_outcome f) × IsCompileFault d f

-- why a text gets no install: its first fault, or the first limit that it is beyond as a document
abbrev pub HasNoInstall : Outcome → List ℕ → Type 0
HasNoInstall outcome text = IsTextFault outcome text ⊎ ((d : DocumentTree) × Spells text d × IsLimitFault outcome d)
