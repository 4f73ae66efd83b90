-- A switch at the front of bytes: its datapath number, and its ports after their count.
use Rattle.std.specs.Prelude.{◌≡◌, ℕ, List, ◌++◌}
use Rattle.std.proofs.Common.{arith, refl, sym, ap, ◌∙◌}
use Rattle.std.specs.Int.{w16, w32, w64, to_be_bytes}
use Rattle.pq_model.specs.Topology.{Switch}
use Rattle.pq_model.specs.Install.{switch_bytes}
use Rattle.pq_install.specs.Front.{NoneAtFront, IsAtFront, AreFew, counted_by, IsU16, IsU32, IsU64}
use Rattle.pq_install.specs.Switches.{ArePorts, IsReadSwitch, read_name}
use Rattle.pq_install.proofs.Front.{Unique, unique_u16, unique_u32, unique_u64}
use Rattle.pq_install.proofs.Sequences.{no_second, unique_pair, unique_counted}

-- what is spelled of a switch
abbrev pub Parts : Type 0
Parts = ℕ × List ℕ

abbrev AreParts : Parts → Type 0
AreParts p = IsU64 p.0 × AreFew IsU16 IsU32 p.1

abbrev parts_bytes : Parts → List ℕ
parts_bytes p = to_be_bytes w64 p.0 ++ counted_by w16 (to_be_bytes w32) p.1

unique_ports : Unique (AreFew IsU16 IsU32) (counted_by w16 (to_be_bytes w32))
unique_ports = unique_counted w16 IsU16 unique_u16 IsU32 (to_be_bytes w32) unique_u32

unique_parts : Unique AreParts parts_bytes
unique_parts = unique_pair IsU64 (to_be_bytes w64) unique_u64 (AreFew IsU16 IsU32) (counted_by w16 (to_be_bytes w32)) unique_ports

abbrev pub parts_of : Switch → Parts
parts_of s = (s.datapath, s.ports)

are_parts : (s : Switch) → IsReadSwitch s → AreParts (parts_of s)
are_parts s fit = (fit.0.0, (omega (arith, fit.1), λ k d below. omega (arith, (fit.0.3 k d below).1)))

-- no switch where there are no parts
no_parts : (bytes : List ℕ) → NoneAtFront AreParts parts_bytes bytes → NoneAtFront IsReadSwitch switch_bytes bytes
no_parts bytes none s rest fit e = none (parts_of s) rest (are_parts s fit) e

pub no_ports : (bytes : List ℕ) (datapath : ℕ) (after : List ℕ) → IsAtFront IsU64 (to_be_bytes w64) bytes datapath after
    → NoneAtFront (AreFew IsU16 IsU32) (counted_by w16 (to_be_bytes w32)) after → NoneAtFront IsReadSwitch switch_bytes bytes
no_ports bytes datapath after front none =
    no_parts bytes (no_second IsU64 (to_be_bytes w64) unique_u64 (AreFew IsU16 IsU32)
    (counted_by w16 (to_be_bytes w32)) bytes datapath after front none)

-- the switch that is read from parts
abbrev pub read_of : Parts → Switch
read_of p = record { name = read_name p.0; datapath = p.0; ports = p.1; limit = 0 }

read_again : (s : Switch) → IsReadSwitch s → read_of (parts_of s) ≡ s
read_again s fit =
    let same : read_of (parts_of s) ≡ record { name = s.name; datapath = s.datapath; ports = s.ports; limit = s.limit } = rw (fit.2, fit.3) refl in
    same

-- two switches at one front are the same
pub unique_switch : Unique IsReadSwitch switch_bytes
unique_switch s t a b fs ft e =
    let same = unique_parts (parts_of s) (parts_of t) a b (are_parts s fs) (are_parts t ft) e in
    (sym (read_again s fs) ∙ (ap read_of same.0 ∙ read_again t ft), same.1)

-- no switch where the ports may not be those of a switch
pub bad_ports : (bytes : List ℕ) (datapath : ℕ) (after : List ℕ) (ports rest : List ℕ)
    → IsAtFront IsU64 (to_be_bytes w64) bytes datapath after
    → IsAtFront (AreFew IsU16 IsU32) (counted_by w16 (to_be_bytes w32)) after ports rest → (ArePorts ports → ⊥)
    → NoneAtFront IsReadSwitch switch_bytes bytes
bad_ports bytes datapath after ports rest front behind bad s more fit e =
    let first = unique_u64 datapath s.datapath after (counted_by w16 (to_be_bytes w32) s.ports ++ more) front.0 fit.0.0 (sym front.1 ∙ e) in
    let second = unique_ports ports s.ports rest more behind.0 (are_parts s fit).1 (sym behind.1 ∙ first.1) in
    bad (rw second.0 (fit.0.1, fit.1, fit.0.2, fit.0.3))
