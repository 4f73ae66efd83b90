-- Where an install is damaged: at the first unit that is missing, cut or unlawful after the units before it.
use Rattle.std.specs.Prelude.{◌≡◌, ℕ, ◌+◌, ◌<◌, ◌≤◌, ◌⊎◌, List, [], ◌∷◌, ◌++◌, All, length}
use Rattle.std.specs.Int.{w16, w32, to_be_bytes}
use Rattle.std.specs.List.{flat_map}
use Rattle.pq_model.specs.declared.message.Message.{Message}
use Rattle.pq_model.specs.Lawful.{IsLawfulMessage}
use Rattle.pq_model.specs.Topology.{Topology}
use Rattle.pq_model.specs.TablesMachine.{Row}
use Rattle.pq_model.specs.Spelling.{message_bytes}
use Rattle.pq_model.specs.Install.{IsOldMessage, switch_bytes, link_bytes, name_bytes, row_bytes, list_bytes}
use Rattle.pq_install.specs.declared.version.Version.{Version}
use Rattle.pq_install.specs.declared.version.Version.TheVariants.{Old, New}
use Rattle.pq_install.specs.Front.{IsAtFront, IsU32, counted_by}
use Rattle.pq_install.specs.Units.{UnitFails, ListFails, CountedFails, IsSection}
use Rattle.pq_install.specs.Switches.{AreReadSwitches}
use Rattle.pq_install.specs.Links.{AreReadLinks}
use Rattle.pq_install.specs.Names.{AreReadNames}
use Rattle.pq_install.specs.Rows.{AreReadRows}

-- a first part fails, or it is read and what follows it fails
abbrev pub FailsOrAfter : {X : Type 0} → (List ℕ → ℕ → Type 0) → (List ℕ → X → List ℕ → Type 0) → (X → List ℕ → ℕ → Type 0) → List ℕ → ℕ → Type 0
FailsOrAfter {X} Fails Reads After bytes left = Fails bytes left ⊎ ((x : X) × (rest : List ℕ) × Reads bytes x rest × After x rest left)

-- the magic: `PQI1` of the old spelling, or `PQI2`
abbrev pub magic_bytes : Version → List ℕ
magic_bytes Old = 0x50 ∷ 0x51 ∷ 0x49 ∷ 0x31 ∷ []
magic_bytes New = 0x50 ∷ 0x51 ∷ 0x49 ∷ 0x32 ∷ []

-- either
abbrev pub IsVersion : Version → Type 0
IsVersion v = Unit {0}

-- a message that the spelling has
abbrev pub MayStandIn : Version → Message → Type 0
MayStandIn Old m = IsOldMessage m
MayStandIn New m = Unit {0}

-- a lawful message that the spelling has
abbrev pub IsReadMessage : Version → Message → Type 0
IsReadMessage v m = IsLawfulMessage m × MayStandIn v m

-- the messages to a switch
abbrev pub IsReadList : Version → List Message → Type 0
IsReadList v ms = IsU32 (length ms) × All (IsReadMessage v) ms

-- the count of the messages to a switch fails, or one of them
abbrev pub ListFailsAt : Version → List ℕ → ℕ → Type 0
ListFailsAt v = FailsOrAfter (UnitFails IsU32 (to_be_bytes w32)) (IsAtFront IsU32 (to_be_bytes w32))
    (λ count. ListFails (All (IsReadMessage v)) message_bytes count)

-- the messages to some of this many switches are read, and those to the next fail
abbrev pub ListsFail : Version → ℕ → List ℕ → ℕ → Type 0
ListsFail v count bytes left = (lists : List (List Message)) × (rest : List ℕ) × (length lists < count) × IsAtFront (All (IsReadList v))
    (flat_map list_bytes) bytes lists rest × ListFailsAt v rest left

-- the switches fail, or the links
abbrev pub TopologyFails : List ℕ → ℕ → Type 0
TopologyFails = FailsOrAfter (CountedFails 256 AreReadSwitches switch_bytes) (IsSection 256 AreReadSwitches switch_bytes)
    (λ ss. CountedFails 65535 (AreReadLinks ss) link_bytes)

-- the switches and the links
pub record IsReadTopology (t : Topology) : Type 0 where
  pub few_switches : length t.switches ≤ 256
  pub few_links : length t.links ≤ 65535
  pub switches : AreReadSwitches t.switches
  pub links : AreReadLinks t.switches t.links

abbrev pub topology_bytes : Topology → List ℕ
topology_bytes t = counted_by w16 switch_bytes t.switches ++ counted_by w16 link_bytes t.links

-- the names fail, or the rows of the report
abbrev pub ReportFails : List ℕ → ℕ → Type 0
ReportFails = FailsOrAfter (CountedFails 256 AreReadNames name_bytes) (IsSection 256 AreReadNames name_bytes)
    (λ names. CountedFails 4094 (AreReadRows (length names)) row_bytes)

-- the names of the queries, and the report on them
abbrev pub Reporting : Type 0
Reporting = List (List ℕ) × List Row

pub record IsReadReport (r : Reporting) : Type 0 where
  pub few_names : length r.0 ≤ 256
  pub few_rows : length r.1 ≤ 4094
  pub names : AreReadNames r.0
  pub rows : AreReadRows (length r.0) r.1

abbrev pub report_bytes : Reporting → List ℕ
report_bytes r = counted_by w16 name_bytes r.0 ++ counted_by w16 row_bytes r.1

-- after the topology the report fails, or the messages
abbrev pub FailsAfterTopology : Version → Topology → List ℕ → ℕ → Type 0
FailsAfterTopology v t = FailsOrAfter ReportFails (IsAtFront IsReadReport report_bytes) (λ r. ListsFail v (length t.switches))

-- after the magic the topology fails, or what follows it
abbrev pub FailsAfterMagic : Version → List ℕ → ℕ → Type 0
FailsAfterMagic v = FailsOrAfter TopologyFails (IsAtFront IsReadTopology topology_bytes) (FailsAfterTopology v)

-- the magic fails, or what follows it
abbrev pub InstallFails : List ℕ → ℕ → Type 0
InstallFails = FailsOrAfter (UnitFails IsVersion magic_bytes) (IsAtFront IsVersion magic_bytes) FailsAfterMagic

-- the bytes are damaged at this place
abbrev pub IsDamagedAt : List ℕ → ℕ → Type 0
IsDamagedAt bytes at = (left : ℕ) × (at + left ≡ length bytes) × InstallFails bytes left
