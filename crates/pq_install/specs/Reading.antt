-- What is read of an install.
use Rattle.std.specs.Prelude.{◌≡◌, ℕ, ◌≤◌, ◌⊎◌, List, ◌++◌, All, length, take}
use Rattle.std.specs.List.{flat_map}
use Rattle.pq_model.specs.Topology.{Topology}
use Rattle.pq_model.specs.Install.{Install, IsSpelled, IsSpelledOld, list_bytes}
use Rattle.pq_install.specs.declared.fault.InstallFault.{InstallFault}
use Rattle.pq_install.specs.declared.fault.InstallFault.TheVariants.{Damaged, Memory}
use Rattle.pq_install.specs.declared.version.Version.{Version}
use Rattle.pq_install.specs.Damage.{IsDamagedAt, IsReadList, IsReadReport, IsReadTopology, magic_bytes, topology_bytes, report_bytes}
use Rattle.pq_install.specs.Switches.{read_name}

-- the parts of an install keep their rules
pub record IsReadIn (v : Version) (i : Install) : Type 0 where
  pub topology : IsReadTopology i.topology
  pub report : IsReadReport (i.queries, i.report)
  pub listed : length i.messages ≡ length i.topology.switches
  pub messages : All (IsReadList v) i.messages

-- the parts of an install, one after another
abbrev pub parts_bytes : Version → Install → List ℕ
parts_bytes v i = magic_bytes v ++ (topology_bytes i.topology ++ (report_bytes (i.queries, i.report) ++ flat_map list_bytes i.messages))

-- an install is at the front, in one of the two spellings
abbrev pub IsInstallAtFront : List ℕ → Install → List ℕ → Type 0
IsInstallAtFront bytes i rest = (v : Version) × IsReadIn v i × (bytes ≡ parts_bytes v i ++ rest)

-- switches are named `n` and their datapath numbers, and have no room for entries
abbrev pub HasReadNames : Topology → Type 0
HasReadNames t = All (λ s. (s.name ≡ read_name s.datapath) × (s.limit ≡ 0)) t.switches

-- this many bytes are the spelling of the install, or its old spelling
pub record IsInstallIn (bytes : List ℕ) (i : Install) (n : ℕ) : Type 0 where
  pub within : n ≤ length bytes
  pub spelled : IsSpelled i (take n bytes) ⊎ IsSpelledOld i (take n bytes)
  pub named : HasReadNames i.topology

-- a fault tells where the bytes are damaged; running out of memory has no cause
abbrev pub IsInstallFault : List ℕ → InstallFault → Type 0
IsInstallFault bytes (Damaged at) = IsDamagedAt bytes at
IsInstallFault bytes Memory = Unit {0}
