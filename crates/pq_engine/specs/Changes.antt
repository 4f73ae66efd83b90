-- What edits make, and their work.
use Rattle.std.specs.Prelude.{◌≡◌, ℕ, ◌+◌, ◌*◌, ◌^◌, ◌≤◌, List, length, map}
use Rattle.pq_model.specs.Install.{Install, IsLawfulInstall}
use Rattle.pq_forward.specs.Forward.{work}
use Rattle.pq_sum.specs.Places.{IsSummed}
use Rattle.pq_delta.specs.Delta.{AreShort, delta}
use Rattle.pq_compile.specs.Compiled.{IsInstalled, IsWithinLimits}
use Rattle.pq_compile.specs.Documents.{DocumentTree}
use Rattle.pq_compile.specs.Names.{Named}
use Rattle.pq_policy.specs.Policy.{PolicyTree}
use Rattle.pq_local.specs.Local.{with_parts}
use Rattle.pq_engine.specs.Engine.{IsEngine, engine_of}
use Rattle.pq_compile.specs.Prepared.{IsClassified, IsCompilable, parts_in}
use Rattle.pq_edit.specs.Edits.{EditTree, PartPut, PartRemoved, QueryPut, QueryRemoved, put}
use Rattle.pq_engine.specs.declared.kept.Kept.{Kept}
use Rattle.pq_engine.specs.declared.renewal.Renewed.{Renewed}
use Rattle.pq_engine.specs.declared.parts.PartsChange.{PartsChange}
use Rattle.pq_engine.specs.declared.queries.QueriesChange.{QueriesChange}

-- an install of the document, which is within all limits, and the messages that turn the old install's tables into its tables
pub record IsRenewed (d : DocumentTree) (old : Install) (r : Renewed) : Type 0 where
  pub compilable : IsCompilable d
  pub installed : IsInstalled d r.install
  pub within : IsWithinLimits d
  pub delta : map (λ p. (p.0, p.1.items)) r.messages.items ≡ delta old r.install
  pub few : AreShort (map (λ p. (p.0, p.1.items)) r.messages.items)

-- the document may be compiled, and the kept install is of the same network
pub record IsRenewable (d : DocumentTree) (k : Kept) : Type 0 where
  pub compilable : IsCompilable d
  pub lawful : IsLawfulInstall k.install
  pub topology : k.install.topology ≡ d.topology

-- with some other parts, the document is that of an engine that keeps this
pub record WasKept (d : DocumentTree) (k : Kept) : Type 0 where
  pub parts : List (Named PolicyTree)
  pub engine : IsEngine (engine_of (with_parts d parts) k)

-- the sum of the document's parts, and its install
pub record IsPartsChange (d : DocumentTree) (old : Install) (c : PartsChange) : Type 0 where
  pub summed : IsSummed d.topology c.forward (parts_in d) c.sum
  pub renewed : IsRenewed d old c.renewed

-- what the document's queries tell apart, and its install
pub record IsQueriesChange (d : DocumentTree) (old : Install) (c : QueriesChange) : Type 0 where
  pub classified : IsClassified d c.told
  pub renewed : IsRenewed d old c.renewed

-- the most unions and sequences of an edit, where there are at most 2^k parts, before and after it
abbrev pub IsUnionWork : DocumentTree → EditTree → ℕ → ℕ → Type 0
IsUnionWork d (PartPut p) before after = (k : ℕ) → length d.parts ≤ 2 ^ k → length (put p d.parts) ≤ 2 ^ k → after ≤ before + work p.1 + k + 1
IsUnionWork d (PartRemoved name) before after = (k : ℕ) → length d.parts ≤ 2 ^ k → after ≤ before + 2 * k + 1
IsUnionWork d (QueryPut q) before after = after ≡ before
IsUnionWork d (QueryRemoved name) before after = after ≡ before

-- an edit of a part takes no step of a state
abbrev pub IsDerivationWork : EditTree → ℕ → ℕ → Type 0
IsDerivationWork (PartPut p) before after = after ≡ before
IsDerivationWork (PartRemoved name) before after = after ≡ before
IsDerivationWork (QueryPut q) before after = Unit {0}
IsDerivationWork (QueryRemoved name) before after = Unit {0}
