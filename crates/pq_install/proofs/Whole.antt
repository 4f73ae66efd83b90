-- The whole install.
use Rattle.std.specs.Prelude.{◌≡◌, ℕ, ◌-◌, List, [], ◌∷◌, ◌++◌, length}
use Rattle.std.proofs.Common.{drop, arith, refl, ◌∙◌, inl, inr, append_assoc}
use Rattle.std.specs.List.{flat_map}
use Rattle.std.specs.Int.{w16, to_be_bytes}
use Rattle.std.proofs.lemmas.List.{length-append, take_at, drop_at}
use Rattle.pq_model.specs.Topology.{Topology}
use Rattle.pq_model.specs.Install.{Install, IsLawfulInstall, install_bytes, switch_bytes, link_bytes, name_bytes, row_bytes, list_bytes}
use Rattle.pq_install.specs.declared.fault.Fault.{Fault}
use Rattle.pq_install.specs.declared.version.Version.{Version}
use Rattle.pq_install.specs.declared.version.Version.TheVariants.{Old, New}
use Rattle.pq_install.specs.Damage.{FailsAfterMagic, FailsAfterTopology, InstallFails, IsReadReport, IsReadTopology, IsVersion, ListsFail}
use Rattle.pq_install.specs.Damage.{ReportFails, Reporting, TopologyFails, magic_bytes, report_bytes, topology_bytes}
use Rattle.pq_install.specs.Front.{IsAtFront}
use Rattle.pq_install.specs.Reading.{IsInstallAtFront, IsInstallIn, IsReadIn, parts_bytes}
use Rattle.pq_install.specs.Units.{Tells, UnitFails}
use Rattle.pq_install.proofs.NamedSwitches.{read_is_named}
use Rattle.pq_install.proofs.Parts.{tells_first, tells_after}

module _ (bytes : List ℕ) (v : Version) (behind_magic : List ℕ) (magic : IsAtFront IsVersion magic_bytes bytes v behind_magic)
    (t : Topology) (behind_topology : List ℕ) (topology : IsAtFront IsReadTopology topology_bytes behind_magic t behind_topology) where
  -- what fails after the topology fails in the install
  after_topology : (fault : Fault) → Tells (FailsAfterTopology v t behind_topology) fault → Tells (InstallFails bytes) fault
  after_topology fault fails =
      tells_after (UnitFails IsVersion magic_bytes) (IsAtFront IsVersion magic_bytes) FailsAfterMagic bytes v behind_magic fault magic
      (tells_after TopologyFails (IsAtFront IsReadTopology topology_bytes)
      (FailsAfterTopology v) behind_magic t behind_topology fault topology fails)

  pub report_fails : (fault : Fault) → Tells (ReportFails behind_topology) fault → Tells (InstallFails bytes) fault
  report_fails fault fails =
      after_topology fault (tells_first ReportFails (IsAtFront IsReadReport report_bytes)
      (λ r. ListsFail v (length t.switches)) behind_topology fault fails)

  pub messages_fail : (r : Reporting) (behind_report : List ℕ) (fault : Fault)
      → IsAtFront IsReadReport report_bytes behind_topology r behind_report → Tells (ListsFail v (length t.switches) behind_report) fault
      → Tells (InstallFails bytes) fault
  messages_fail r behind_report fault report fails =
      after_topology fault (tells_after ReportFails (IsAtFront IsReadReport report_bytes)
      (λ q. ListsFail v (length t.switches)) behind_topology r behind_report fault report fails)

-- bytes of four parts
pub four_parts : (bytes a b c d after_a after_b after_c rest : List ℕ) → bytes ≡ a ++ after_a → after_a ≡ b ++ after_b
    → after_b ≡ c ++ after_c → after_c ≡ d ++ rest → bytes ≡ (a ++ (b ++ (c ++ d))) ++ rest
four_parts bytes a b c d after_a after_b after_c rest first second third fourth =
    rw (first, second, third, fourth, append_assoc a (b ++ (c ++ d)) rest, append_assoc b (c ++ d) rest, append_assoc c d rest) refl

regrouped : (v : ℕ) (a b c d e f g h m : List ℕ)
    → (0x50 ∷ 0x51 ∷ 0x49 ∷ v ∷ []) ++ (((a ++ b) ++ (c ++ d)) ++ (((e ++ f) ++ (g ++ h)) ++ m)) ≡ 0x50 ∷ 0x51 ∷ 0x49 ∷ v ∷ [] ++ a ++ b
    ++ c ++ d ++ e ++ f ++ g ++ h ++ m
regrouped v a b c d e f g h m = simp append_assoc refl

-- the parts are the spelling
pub old_parts : (i : Install) → parts_bytes Old i ≡ install_bytes 0x31 i
unfolding install_bytes
old_parts i = regrouped 0x31 (to_be_bytes w16 (length i.topology.switches)) (flat_map switch_bytes i.topology.switches)
    (to_be_bytes w16 (length i.topology.links)) (flat_map link_bytes i.topology.links) (to_be_bytes w16 (length i.queries))
    (flat_map name_bytes i.queries) (to_be_bytes w16 (length i.report)) (flat_map row_bytes i.report) (flat_map list_bytes i.messages)

pub new_parts : (i : Install) → parts_bytes New i ≡ install_bytes 0x32 i
unfolding install_bytes
new_parts i = regrouped 0x32 (to_be_bytes w16 (length i.topology.switches)) (flat_map switch_bytes i.topology.switches)
    (to_be_bytes w16 (length i.topology.links)) (flat_map link_bytes i.topology.links) (to_be_bytes w16 (length i.queries))
    (flat_map name_bytes i.queries) (to_be_bytes w16 (length i.report)) (flat_map row_bytes i.report) (flat_map list_bytes i.messages)

-- what is read keeps the rules of installs
lawful : (v : Version) (i : Install) → IsReadIn v i → IsLawfulInstall i
lawful v i read = record {
  topology = (read_is_named i.topology read.topology.few_switches read.topology.switches read.topology.links).lawful;
  few_queries = read.report.few_names;
  names = read.report.names.each;
  names_differ = read.report.names.differ;
  rows = read.report.rows.each;
  tags_ascend = read.report.rows.ascending;
  listed = read.listed;
  messages = λ k ms below. let list = read.messages k ms below in (list.0, λ j m here. (list.1 j m here).0);
}

-- what is left begins where the install's spelling ends
pub rest_left : (bytes : List ℕ) (i : Install) (rest : List ℕ) → IsInstallAtFront bytes i rest
    → IsInstallAtFront bytes i (drop (length bytes - length rest) bytes)
rest_left bytes i rest (v, read, parts) =
    let left : drop (length bytes - length rest) bytes ≡ rest =
    rw parts (drop_at (parts_bytes v i) rest (length (parts_bytes v i ++ rest) - length rest)
    (omega (arith, length-append (parts_bytes v i) rest))) in
    (v, read, rw left parts)

pub lawful_at_front : (bytes : List ℕ) (i : Install) (rest : List ℕ) → IsInstallAtFront bytes i rest → IsLawfulInstall i
lawful_at_front bytes i rest front = lawful front.0 i front.1

-- what was read is an install, and its spelling ends where the rest begins
pub install_in : (bytes : List ℕ) (i : Install) (rest : List ℕ) → IsInstallAtFront bytes i rest → IsInstallIn bytes i (length bytes - length rest)
install_in bytes i rest (Old, read, parts) = record {
  within = omega arith;
  spelled = inr (record {
    lawful = lawful Old i read;
    old = λ k ms below j m here. ((read.messages k ms below).1 j m here).1;
    spelled = rw parts (take_at (parts_bytes Old i) rest (length (parts_bytes Old i ++ rest) - length rest)
        (omega (arith, length-append (parts_bytes Old i) rest)) ∙ old_parts i);
  });
  named = λ k s below. let fit = read.topology.switches.each k s below in (fit.2, fit.3);
}
install_in bytes i rest (New, read, parts) = record {
  within = omega arith;
  spelled = inl (record {
    lawful = lawful New i read;
    spelled = rw parts (take_at (parts_bytes New i) rest (length (parts_bytes New i ++ rest) - length rest)
        (omega (arith, length-append (parts_bytes New i) rest)) ∙ new_parts i);
  });
  named = λ k s below. let fit = read.topology.switches.each k s below in (fit.2, fit.3);
}
