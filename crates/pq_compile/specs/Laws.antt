-- A document is refused for the first limit that it is beyond, and for no other.
use Rattle.std.specs.Prelude.{◌≡◌, ◌≢◌}
use Rattle.pq_model.specs.Install.{IsLawfulTopology}
use Rattle.pq_compile.specs.declared.compiling.CompileFault.{CompileFault}
use Rattle.pq_compile.specs.declared.compiling.CompileFault.TheVariants as compile
use Rattle.pq_compile.specs.declared.preparing.PrepareFault.{PrepareFault}
use Rattle.pq_compile.specs.declared.preparing.PrepareFault.TheVariants as prepare
use Rattle.pq_compile.specs.Compiled.{IsCompileFault, IsWithinLimits}
use Rattle.pq_compile.specs.Documents.{DocumentTree}
use Rattle.pq_compile.specs.Prepared.{IsPrepareFault, IsWithin}

-- running out of memory aside, a document has one fault of what tables are made from
abbrev pub HasOnePrepareFault : Type 0
HasOnePrepareFault = (d : DocumentTree) (f g : PrepareFault) → IsPrepareFault d f → IsPrepareFault d g → f ≢ prepare.Memory → g ≢ prepare.Memory → f ≡ g

-- and none where it is within these limits
abbrev pub HasNoPrepareFault : Type 0
HasNoPrepareFault = (d : DocumentTree) (f : PrepareFault) → IsWithin d → IsPrepareFault d f → f ≡ prepare.Memory

-- running out of memory aside, a document over a lawful topology has one fault of compiling
abbrev pub HasOneCompileFault : Type 0
HasOneCompileFault =
    (d : DocumentTree) (f g : CompileFault) → IsLawfulTopology d.topology → IsCompileFault d f → IsCompileFault d g → f ≢ compile.Memory
    → g ≢ compile.Memory → f ≡ g

-- and none where it is within all limits
abbrev pub HasNoCompileFault : Type 0
HasNoCompileFault = (d : DocumentTree) (f : CompileFault) → IsWithinLimits d → IsCompileFault d f → f ≡ compile.Memory
