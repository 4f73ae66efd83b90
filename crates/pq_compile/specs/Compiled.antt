-- The install of a document, and why a document has none.
use Rattle.pq_model.specs.Headline.{Implements}
use Rattle.pq_model.specs.Install.{Install, IsLawfulInstall}
use Rattle.pq_model.specs.Meaning.{Meaning}
use Rattle.pq_layout.specs.Leaves.{Departures}
use Rattle.pq_layout.specs.Tagging.{Tagging}
use Rattle.pq_rules.specs.declared.fault.RulesFault.{RulesFault}
use Rattle.pq_rules.specs.declared.fault.RulesFault.TheVariants as rules
use Rattle.pq_emit.specs.Faults.{HasNoFault, IsEmitFault}
use Rattle.pq_meaning.specs.Compiled.{IsCompiled, IsFilled, IsLaid}
use Rattle.pq_meaning.specs.Meaning.{IsMeaning}
use Rattle.pq_compile.specs.declared.compiling.CompileFault.{CompileFault}
use Rattle.pq_compile.specs.declared.compiling.CompileFault.TheVariants.{ValuesFull, InstancesFull, TagWidth, TableFull, GroupFull, Memory}
use Rattle.pq_compile.specs.declared.preparing.PrepareFault.{PrepareFault}
use Rattle.pq_compile.specs.declared.preparing.PrepareFault.TheVariants as prepare
use Rattle.pq_compile.specs.Documents.{DocumentTree}
use Rattle.pq_compile.specs.Lawful.{names_in}
use Rattle.pq_compile.specs.Prepared.{IsPrepareFault, IsWithin, parts_in, queries_in}

-- the install is that of the document
abbrev pub IsInstallOf : DocumentTree → Install → Type 0
IsInstallOf d i = IsCompiled d.topology (names_in d.queries) (parts_in d) (queries_in d) i

-- what the document means: where its parts send packets, and which words its queries hold
abbrev pub IsMeaningOf : DocumentTree → Meaning → Type 0
IsMeaningOf d m = IsMeaning d.topology (parts_in d) (queries_in d) m

-- departures and tags of the document
abbrev pub IsLaidFor : DocumentTree → Tagging → Departures → Type 0
IsLaidFor d g writes = IsLaid d.topology (parts_in d) (queries_in d) g writes

-- the install of the document; it keeps the rules of installs, and does what the document means, whatever the tables held and in whatever lawful order messages come
pub record IsInstalled (d : DocumentTree) (i : Install) : Type 0 where
  pub install : IsInstallOf d i
  pub filled : IsFilled d.topology install.tags install.writes i
  pub lawful : IsLawfulInstall i
  pub implements : (m : Meaning) → IsMeaningOf d m → Implements i m

-- its tables have this fault
abbrev pub AreTablesFull : DocumentTree → RulesFault → Type 0
AreTablesFull d fault = (g : Tagging) × (writes : Departures) × IsLaidFor d g writes × IsEmitFault d.topology g writes fault

-- so, or memory is wanting
abbrev pub AreTablesFault : DocumentTree → RulesFault → Type 0
AreTablesFault d (rules.TableFull switch table entries) = AreTablesFull d (rules.TableFull switch table entries)
AreTablesFault d (rules.GroupFull switch copies) = AreTablesFull d (rules.GroupFull switch copies)
AreTablesFault d rules.Memory = Unit {0}

-- faults of what tables are made from, and of tables, as those of compiling
abbrev pub prepare_fault : PrepareFault → CompileFault
prepare_fault (prepare.ValuesFull field count) = ValuesFull field count
prepare_fault (prepare.InstancesFull count) = InstancesFull count
prepare_fault (prepare.TagWidth classes) = TagWidth classes
prepare_fault prepare.Memory = Memory

abbrev pub rules_fault : RulesFault → CompileFault
rules_fault (rules.TableFull switch table entries) = TableFull switch table entries
rules_fault (rules.GroupFull switch copies) = GroupFull switch copies
rules_fault rules.Memory = Memory

-- the first limit that the document is beyond; running out of memory may come at any time
abbrev pub IsCompileFault : DocumentTree → CompileFault → Type 0
IsCompileFault d (ValuesFull field count) = IsPrepareFault d (prepare.ValuesFull field count)
IsCompileFault d (InstancesFull count) = IsPrepareFault d (prepare.InstancesFull count)
IsCompileFault d (TagWidth classes) = IsPrepareFault d (prepare.TagWidth classes)
IsCompileFault d (TableFull switch table entries) = IsWithin d × AreTablesFull d (rules.TableFull switch table entries)
IsCompileFault d (GroupFull switch copies) = IsWithin d × AreTablesFull d (rules.GroupFull switch copies)
IsCompileFault d Memory = Unit {0}

-- no table is too large, and no entry has too many copies, by whatever tags and departures the document is laid out
abbrev pub AreTablesWithin : DocumentTree → Type 0
AreTablesWithin d = (g : Tagging) (writes : Departures) → IsLaidFor d g writes → HasNoFault d.topology g writes

-- the document is within all limits
pub record IsWithinLimits (d : DocumentTree) : Type 0 where
  pub within : IsWithin d
  pub tables : AreTablesWithin d
