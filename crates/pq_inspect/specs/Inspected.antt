-- What inspecting bytes gives.
use Rattle.std.specs.Prelude.{◌≡◌, ℕ, ◌<◌, ◌⊎◌, List, length}
use Rattle.pq_model.specs.Install.{Install, IsSpelled, IsSpelledOld}
use Rattle.pq_install.specs.declared.fault.InstallFault.{InstallFault}
use Rattle.pq_install.specs.declared.fault.InstallFault.TheVariants.{Damaged, Memory}
use Rattle.pq_install.specs.Damage.{IsDamagedAt}
use Rattle.pq_install.specs.Reading.{IsInstallIn}
use Rattle.pq_inspect.specs.Inspection.{inspection_text}

-- the bytes are an install and nothing else, and this is its text
pub record IsInspected (bytes text : List ℕ) : Type 0 where
  pub install : Install
  pub whole : IsInstallIn bytes install (length bytes)
  pub shown : text ≡ inspection_text install

-- an install of this length is followed by more bytes
abbrev pub IsFollowed : List ℕ → ℕ → Type 0
IsFollowed bytes size = (i : Install) × IsInstallIn bytes i size × (size < length bytes)

-- the bytes are damaged at the place, or follow an install there
abbrev pub IsSpoiledAt : List ℕ → ℕ → Type 0
IsSpoiledAt bytes at = IsDamagedAt bytes at ⊎ IsFollowed bytes at

-- what a fault tells is true of the bytes; running out of memory has no cause
abbrev pub IsInspectFault : List ℕ → InstallFault → Type 0
IsInspectFault bytes (Damaged at) = IsSpoiledAt bytes at
IsInspectFault bytes Memory = Unit {0}

-- the bytes are an install's spelling, or its old one, and nothing else
abbrev pub IsWholeInstall : List ℕ → Type 0
IsWholeInstall bytes = (i : Install) × (IsSpelled i bytes ⊎ IsSpelledOld i bytes)
