-- A spelling says nothing of the names and limits of switches, so it is that of an install as it is read.
use Rattle.std.specs.Prelude.{◌≡◌, ℕ, ◌+◌, ◌≤◌, ◌⊎◌, if◌then◌else◌, ◌==◌, List, [], ◌∷◌, ◌++◌, All, get_or, length, map, take, drop}
use Rattle.std.proofs.Common.{arith, refl, sym, ap, ◌∙◌, inl, inr}
use Rattle.std.specs.List.{flat_map}
use Rattle.std.proofs.lemmas.List.{length-map, take-append-drop}
use Rattle.std.proofs.lemmas.List.Elements.{All-cons, All-tail}
use Rattle.std.proofs.lemmas.List.Sums.{sum_by-cons}
use Rattle.pq_model.specs.Lawful.{Ascends}
use Rattle.pq_model.specs.Topology.{Switch, Topology, ports_in}
use Rattle.pq_model.specs.TablesMachine.{Row}
use Rattle.pq_model.specs.Install.{Install, IsLawfulInstall, IsLawfulRow, IsLawfulSwitch, IsLawfulTopology, IsOldInstall, IsSpelled}
use Rattle.pq_model.specs.Install.{IsSpelledOld, install_bytes, port_count, switch_bytes}
use Rattle.pq_install.specs.declared.version.Version.TheVariants.{Old, New}
use Rattle.pq_install.specs.Damage.{IsDamagedAt, IsReadReport, IsReadTopology}
use Rattle.pq_install.specs.Reading.{IsInstallAtFront, IsReadIn}
use Rattle.pq_install.specs.Switches.{IsReadSwitch}
use Rattle.pq_install.proofs.AllPorts.{few_links}
use Rattle.pq_install.proofs.Exclusion.{install_stands}
use Rattle.pq_install.proofs.SwitchUnits.{read_of, parts_of}
use Rattle.pq_install.proofs.Whole.{old_parts, new_parts}

-- a switch as it is read
abbrev pub as_read : Switch → Switch
as_read s = read_of (parts_of s)

abbrev pub all_as_read : List Switch → List Switch
all_as_read ss = map as_read ss

same_bytes : (ss : List Switch) → flat_map switch_bytes (all_as_read ss) ≡ flat_map switch_bytes ss
same_bytes [] = refl
same_bytes (s ∷ ss) = ap (λ (rest : List ℕ). switch_bytes s ++ rest) (same_bytes ss)

same_ports : (ss : List Switch) (d : ℕ) → ports_in (all_as_read ss) d ≡ ports_in ss d
same_ports [] d = refl
same_ports (s ∷ ss) d = ap (λ (rest : List ℕ). if s.datapath == d then s.ports else rest) (same_ports ss d)

same_numbers : (ss : List Switch) → map (λ s. s.datapath) (all_as_read ss) ≡ map (λ s. s.datapath) ss
same_numbers [] = refl
same_numbers (s ∷ ss) = ap (λ (rest : List ℕ). s.datapath ∷ rest) (same_numbers ss)

same_count : (ss : List Switch) → port_count (all_as_read ss) ≡ port_count ss
same_count [] = refl
same_count (s ∷ ss) = omega (
  arith,
  same_count ss,
  sum_by-cons (λ (t : Switch). length t.ports) s ss,
  sum_by-cons (λ (t : Switch). length t.ports) (as_read s) (all_as_read ss),
)

each_read : (ss : List Switch) → All IsLawfulSwitch ss → port_count ss ≤ 4096 → All IsReadSwitch (all_as_read ss)
each_read [] lawful few = λ k s below. absurd (omega (arith, below))
each_read (s ∷ ss) lawful few =
    let sum = sum_by-cons (λ (t : Switch). length t.ports) s ss in
    let here : IsReadSwitch (as_read s) = (lawful 0 s (omega arith), omega (arith, sum, few), refl, refl) in
    All-cons IsReadSwitch (as_read s) (all_as_read ss) here (each_read ss (All-tail IsLawfulSwitch s ss lawful) (omega (arith, sum, few)))

-- ascending numbers up to a greatest are as many at most
few_ascending : (most x : ℕ) (xs : List ℕ) → Ascends (x ∷ xs) → All (λ y. y ≤ most) (x ∷ xs) → length (x ∷ xs) + x ≤ most + 1
few_ascending most x [] up fit = omega (arith, fit 0 x (omega arith))
few_ascending most x (y ∷ ys) up fit = omega (arith, up.0, few_ascending most y ys up.1 (All-tail (λ z. z ≤ most) x (y ∷ ys) fit))

-- an install as it is read
abbrev pub install_as_read : Install → Install
install_as_read i = record i { topology = record { switches = all_as_read i.topology.switches; links = i.topology.links } }

same_spelling : (n : ℕ) (i : Install) → install_bytes n (install_as_read i) ≡ install_bytes n i
unfolding install_bytes
same_spelling n i = rw (same_bytes i.topology.switches, length-map i.topology.switches as_read) refl

abbrev row_tag : Row → ℕ
row_tag row = row.tag

tags_below : (queries : ℕ) (rows : List Row) → All (IsLawfulRow queries) rows → All (λ y. y ≤ 4094) (map (λ row. row.tag) rows)
tags_below queries [] each = λ k y below. absurd (omega (arith, below))
tags_below queries (row ∷ rows) each = All-cons (λ y. y ≤ 4094) row.tag (map (λ r. r.tag) rows) (each 0 row (omega arith)).1
    (tags_below queries rows (All-tail (IsLawfulRow queries) row rows each))

topology_as_read : (t : Topology) → IsLawfulTopology t → IsReadTopology (record { switches = all_as_read t.switches; links = t.links })
topology_as_read t lawful = record {
  few_switches = rw (length-map t.switches as_read) lawful.few_switches;
  few_links = omega (arith, few_links t lawful);
  switches = record {
    each = each_read t.switches lawful.switches lawful.few_ports;
    ascending = rw (same_numbers t.switches) lawful.ascending;
    few_ports = rw (same_count t.switches) lawful.few_ports;
  };
  links = record {
    each = λ k l below. let link = lawful.links k l below in (
      rw (same_ports t.switches (get_or t.links k l).first.0) link.0,
      rw (same_ports t.switches (get_or t.links k l).second.0) link.1,
      link.2,
    );
    linked_once = lawful.linked_once;
    ascending = lawful.links_ascend;
  };
}

pub few_rows : (queries : ℕ) (rows : List Row) → All (IsLawfulRow queries) rows → Ascends (map (λ row. row.tag) rows) → length rows ≤ 4094
few_rows queries [] each up = omega arith
few_rows queries (row ∷ rows) each up =
    let tags : List ℕ = map (λ r. r.tag) (row ∷ rows) in
    let small = few_ascending 4094 row.tag (map (λ r. r.tag) rows) up (tags_below queries (row ∷ rows) each) in
    omega (arith, small, (each 0 row (omega arith)).0, length-map (row ∷ rows) row_tag)

report_as_read : (i : Install) → IsLawfulInstall i → IsReadReport (i.queries, i.report)
report_as_read i lawful = record {
  few_names = lawful.few_queries;
  few_rows = few_rows (length i.queries) i.report lawful.rows lawful.tags_ascend;
  names = record { each = lawful.names; differ = lawful.names_differ };
  rows = record { each = lawful.rows; ascending = lawful.tags_ascend };
}

-- its parts keep their rules
pub new_as_read : (i : Install) → IsLawfulInstall i → IsReadIn New (install_as_read i)
new_as_read i lawful = record {
  topology = topology_as_read i.topology lawful.topology;
  report = report_as_read i lawful;
  listed = rw (length-map i.topology.switches as_read) lawful.listed;
  messages = λ k ms below. let list = lawful.messages k ms below in (list.0, λ j m here. (list.1 j m here, tt));
}

pub old_as_read : (i : Install) → IsLawfulInstall i → IsOldInstall i → IsReadIn Old (install_as_read i)
old_as_read i lawful old = record {
  topology = topology_as_read i.topology lawful.topology;
  report = report_as_read i lawful;
  listed = rw (length-map i.topology.switches as_read) lawful.listed;
  messages = λ k ms below. let list = lawful.messages k ms below in (list.0, λ j m here. (list.1 j m here, old k ms below j m here));
}

-- an install that is spelled at the front is there as it is read
pub spelled_at_front : (bytes : List ℕ) (i : Install) (rest : List ℕ) → IsLawfulInstall i → bytes ≡ install_bytes 0x32 i ++ rest
    → IsInstallAtFront bytes (install_as_read i) rest
spelled_at_front bytes i rest lawful e = (
  New,
  new_as_read i lawful,
  e ∙ ap (λ (spelled : List ℕ). spelled ++ rest) (sym (new_parts (install_as_read i) ∙ same_spelling 0x32 i)),
)

pub spelled_old_at_front : (bytes : List ℕ) (i : Install) (rest : List ℕ) → IsLawfulInstall i → IsOldInstall i
    → bytes ≡ install_bytes 0x31 i ++ rest → IsInstallAtFront bytes (install_as_read i) rest
spelled_old_at_front bytes i rest lawful old e = (
  Old,
  old_as_read i lawful old,
  e ∙ ap (λ (spelled : List ℕ). spelled ++ rest) (sym (old_parts (install_as_read i) ∙ same_spelling 0x31 i)),
)

-- bytes that begin with a spelling of an install are not damaged
pub spelled_stands : (bytes : List ℕ) (at n : ℕ) (i : Install) → IsDamagedAt bytes at → IsSpelled i (take n bytes) ⊎ IsSpelledOld i (take n bytes) → ⊥
spelled_stands bytes at n i damaged (inl spelled) =
    let whole : bytes ≡ install_bytes 0x32 i ++ drop n bytes = sym (take-append-drop n bytes) ∙ rw spelled.spelled refl in
    install_stands bytes (install_as_read i) (drop n bytes) damaged.0 (spelled_at_front bytes i (drop n bytes) spelled.lawful whole) damaged.2
spelled_stands bytes at n i damaged (inr spelled) =
    let whole : bytes ≡ install_bytes 0x31 i ++ drop n bytes = sym (take-append-drop n bytes) ∙ rw spelled.spelled refl in
    install_stands bytes (install_as_read i) (drop n bytes) damaged.0 (spelled_old_at_front bytes i (drop n bytes) spelled.lawful spelled.old whole) damaged.2
