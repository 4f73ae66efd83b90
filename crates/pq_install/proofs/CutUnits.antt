-- An install that is cut short fails in the unit that is cut.
use Rattle.std.specs.Prelude.{◌≡◌, ℕ, ◌^◌, ◌<◌, ◌≤◌, List, [], ◌∷◌, ◌++◌, All, length, map, take}
use Rattle.std.proofs.Common.{arith, refl, sym, ap, ◌∙◌, inl, inr, append_assoc, subst}
use Rattle.std.specs.Int.{w16, w32, to_be_bytes}
use Rattle.std.specs.List.{concat, flat_map}
use Rattle.std.proofs.lemmas.List.{append-nil, flat_map_more, length-append, length-map, length-take-le}
use Rattle.std.proofs.lemmas.List.Folds.{concat-append}
use Rattle.pq_model.specs.declared.message.Message.{Message}
use Rattle.pq_model.specs.Topology.{Switch, Topology}
use Rattle.pq_model.specs.Spelling.{message_bytes}
use Rattle.pq_model.specs.Install.{Install, IsLawfulInstall, IsOldInstall, install_bytes, switch_bytes, link_bytes, name_bytes, row_bytes, list_bytes}
use Rattle.pq_install.specs.declared.version.Version.{Version}
use Rattle.pq_install.specs.declared.version.Version.TheVariants.{Old, New}
use Rattle.pq_install.specs.Cut.{counted_units, install_units, list_units, report_units, topology_units, unit_start}
use Rattle.pq_install.specs.Damage.{FailsAfterMagic, FailsAfterTopology, InstallFails, IsDamagedAt, IsReadList, IsReadMessage, IsReadReport}
use Rattle.pq_install.specs.Damage.{IsReadTopology, IsVersion, ListFailsAt, ListsFail, ReportFails, TopologyFails, magic_bytes}
use Rattle.pq_install.specs.Damage.{report_bytes, topology_bytes}
use Rattle.pq_install.specs.Front.{IsU32, counted_by}
use Rattle.pq_install.specs.Links.{AreReadLinks, HasEnds}
use Rattle.pq_install.specs.Names.{AreReadNames, IsName}
use Rattle.pq_install.specs.Reading.{IsReadIn, parts_bytes}
use Rattle.pq_install.specs.Rows.{AreReadRows, HasPairs}
use Rattle.pq_install.specs.Switches.{AreReadSwitches, IsReadSwitch}
use Rattle.pq_install.specs.Units.{CountedFails, ListFails, UnitFails}
use Rattle.pq_install.proofs.Closed.{Closed, up_to, all_closed, switches_closed, links_closed, names_closed, rows_closed}
use Rattle.pq_install.proofs.Cuts.{CutsFail, IsCut, concat_map, cut_at, cut_in, cut_or_after, list_cuts, unit_cut}
use Rattle.pq_install.proofs.Exclusion.{links_have_ends, one_magic, rows_have_pairs, unique_message}
use Rattle.pq_install.proofs.Front.{Unique, unique_u16, unique_u32}
use Rattle.pq_install.proofs.LinkUnits.{unique_link}
use Rattle.pq_install.proofs.NameUnits.{unique_name}
use Rattle.pq_install.proofs.Renamed.{all_as_read, as_read, install_as_read, new_as_read, old_as_read}
use Rattle.pq_install.proofs.RowUnits.{unique_row}
use Rattle.pq_install.proofs.SwitchUnits.{unique_switch}
use Rattle.pq_install.proofs.UnitLists.{all_more}
use Rattle.pq_install.proofs.Whole.{old_parts, new_parts}

joined : (a b c d : List ℕ) → a ≡ c → b ≡ d → a ++ b ≡ c ++ d
joined a b c d front back = rw (front, back) refl

-- a count and what it counts
module _ {X : Type 0} (P : X → Type 0) (spell : X → List ℕ) (unique : Unique P spell) where
  section_cuts : (most : ℕ) → most < 2 ^ 16 → (Rules : List X → Type 0) → ((zs : List X) → Rules zs → All P zs) → Closed Rules
      → (xs : List X) → length xs ≤ most → Rules xs → CutsFail (CountedFails most Rules spell) (counted_units w16 spell xs)
  section_cuts most small Rules each closed xs few rules =
      let narrow : Unique (λ n. n ≤ most) (to_be_bytes w16) = λ m n a b fm fn e. unique_u16 m n a b (omega (arith, fm, small)) (omega (arith, fn, small)) e in
      cut_or_after (UnitFails (λ n. n ≤ most) (to_be_bytes w16)) (λ n. n ≤ most) (to_be_bytes w16) (λ count. ListFails Rules spell count)
      (to_be_bytes w16 (length xs) ∷ []) (map spell xs) (length xs) few (append-nil (to_be_bytes w16 (length xs)))
      (unit_cut (λ n. n ≤ most) (to_be_bytes w16) narrow (length xs) few)
      (list_cuts P spell unique Rules each closed xs rules)

counted_bytes : {X : Type 0} (spell : X → List ℕ) (xs : List X) → concat (counted_units w16 spell xs) ≡ counted_by w16 spell xs
counted_bytes spell xs = ap (λ (rest : List ℕ). to_be_bytes w16 (length xs) ++ rest) (concat_map spell xs)

-- the topology
topology_cuts : (t : Topology) → IsReadTopology t → CutsFail TopologyFails (topology_units t)
topology_cuts t read =
    cut_or_after (CountedFails 256 AreReadSwitches switch_bytes) (λ ss. (length ss ≤ 256) × AreReadSwitches ss)
    (counted_by w16 switch_bytes) (λ ss. CountedFails 65535 (AreReadLinks ss) link_bytes) (counted_units w16 switch_bytes t.switches)
    (counted_units w16 link_bytes t.links) t.switches (read.few_switches, read.switches) (counted_bytes switch_bytes t.switches)
    (section_cuts IsReadSwitch switch_bytes unique_switch 256 (omega arith) AreReadSwitches
    (λ ss are. are.each) switches_closed t.switches read.few_switches read.switches)
    (section_cuts HasEnds link_bytes unique_link 65535 (omega arith) (AreReadLinks t.switches) (links_have_ends t.switches read.switches)
    (links_closed t.switches) t.links read.few_links read.links)

topology_spelled : (t : Topology) → concat (topology_units t) ≡ topology_bytes t
topology_spelled t = concat-append (counted_units w16 switch_bytes t.switches) (counted_units w16 link_bytes t.links)
    ∙ joined _ _ _ _ (counted_bytes switch_bytes t.switches) (counted_bytes link_bytes t.links)

-- the report
report_cuts : (i : Install) → IsReadReport (i.queries, i.report) → CutsFail ReportFails (report_units i)
report_cuts i read =
    cut_or_after (CountedFails 256 AreReadNames name_bytes) (λ names. (length names ≤ 256) × AreReadNames names) (counted_by w16 name_bytes)
    (λ names. CountedFails 4094 (AreReadRows (length names)) row_bytes) (counted_units w16 name_bytes i.queries)
    (counted_units w16 row_bytes i.report) i.queries (read.few_names, read.names) (counted_bytes name_bytes i.queries)
    (section_cuts IsName name_bytes unique_name 256 (omega arith) AreReadNames (λ names are. are.each) names_closed i.queries read.few_names read.names)
    (section_cuts HasPairs row_bytes unique_row 4094 (omega arith) (AreReadRows (length i.queries))
    (rows_have_pairs (length i.queries) read.few_names) (rows_closed (length i.queries)) i.report read.few_rows read.rows)

report_spelled : (i : Install) → concat (report_units i) ≡ report_bytes (i.queries, i.report)
report_spelled i = concat-append (counted_units w16 name_bytes i.queries) (counted_units w16 row_bytes i.report)
    ∙ joined _ _ _ _ (counted_bytes name_bytes i.queries) (counted_bytes row_bytes i.report)

-- the messages
list_spelled : (ms : List Message) → concat (list_units ms) ≡ list_bytes ms
list_spelled ms = ap (λ (rest : List ℕ). to_be_bytes w32 (length ms) ++ rest) (concat_map message_bytes ms)

lists_spelled : (lists : List (List Message)) → concat (flat_map list_units lists) ≡ flat_map list_bytes lists
lists_spelled [] = refl
lists_spelled (ms ∷ lists) = concat-append (list_units ms) (flat_map list_units lists) ∙ joined _ _ _ _ (list_spelled ms) (lists_spelled lists)

list_cuts_at : (v : Version) (ms : List Message) → IsReadList v ms → CutsFail (ListFailsAt v) (list_units ms)
list_cuts_at v ms read =
    cut_or_after (UnitFails IsU32 (to_be_bytes w32)) IsU32 (to_be_bytes w32)
    (λ count. ListFails (All (IsReadMessage v)) message_bytes count) (to_be_bytes w32 (length ms) ∷ []) (map message_bytes ms)
    (length ms) read.0 (append-nil (to_be_bytes w32 (length ms)))
    (unit_cut IsU32 (to_be_bytes w32) unique_u32 (length ms) read.0)
    (list_cuts (IsReadMessage v) message_bytes (unique_message v) (All (IsReadMessage v)) (λ zs all. all) (all_closed (IsReadMessage v)) ms read.1)

lists_cut : (v : Version) (done lists : List (List Message)) → All (IsReadList v) (done ++ lists) → (whole bytes : List ℕ) (left : ℕ)
    → whole ≡ flat_map list_bytes done ++ bytes → IsCut (flat_map list_units lists) bytes left
    → ListsFail v (length (done ++ lists)) whole left
lists_cut v done [] read whole bytes left front cut = absurd cut
lists_cut v done (ms ∷ lists) read whole bytes left front cut =
    let both = (all_more (IsReadList v) done ms).0 (up_to (All (IsReadList v)) (all_closed (IsReadList v)) done ms lists read) in
    elim (cut_in (list_units ms) (flat_map list_units lists) bytes left cut) [
      | inl here ↦ (done, bytes, omega (arith, length-append done (ms ∷ lists)), (both.0, front), list_cuts_at v ms both.1 bytes left here)
      | inr behind ↦
          let regrouped : (done ++ ms ∷ []) ++ lists ≡ done ++ ms ∷ lists = append_assoc done (ms ∷ []) lists in
          let next : bytes ≡ list_bytes ms ++ behind.0 = behind.1 ∙ ap (λ (spelled : List ℕ). spelled ++ behind.0) (list_spelled ms) in
          let longer : whole ≡ flat_map list_bytes (done ++ ms ∷ []) ++ behind.0 = front
          ∙ (ap (λ (more : List ℕ). flat_map list_bytes done ++ more) next
          ∙ (sym (append_assoc (flat_map list_bytes done) (list_bytes ms) behind.0)
          ∙ ap (λ (more : List ℕ). more ++ behind.0) (flat_map_more list_bytes [] done ms))) in
          subst (λ (all : List (List Message)). ListsFail v (length all) whole left) regrouped
          (lists_cut v (done ++ ms ∷ []) lists (subst (All (IsReadList v)) (sym regrouped) read) whole behind.0 left longer behind.2)
    ]

-- the units after a magic
abbrev units_in : Version → Install → List (List ℕ)
units_in v i = magic_bytes v ∷ (topology_units i.topology ++ (report_units i ++ flat_map list_units i.messages))

-- an install as it is read, cut short
install_cuts : (v : Version) (i : Install) → IsReadIn v i → CutsFail InstallFails (units_in v i)
install_cuts v i read =
    let lists : CutsFail (ListsFail v (length i.topology.switches)) (flat_map list_units i.messages) =
    λ bytes left cut. subst (λ (n : ℕ). ListsFail v n bytes left) read.listed
    (lists_cut v [] i.messages read.messages bytes bytes left refl cut) in
    let behind_topology : CutsFail (FailsAfterTopology v i.topology) (report_units i ++ flat_map list_units i.messages) =
    cut_or_after ReportFails IsReadReport report_bytes (λ r. ListsFail v (length i.topology.switches)) (report_units i)
    (flat_map list_units i.messages) (i.queries, i.report) read.report (report_spelled i) (report_cuts i read.report) lists in
    let behind_magic : CutsFail (FailsAfterMagic v) (topology_units i.topology ++ (report_units i ++ flat_map list_units i.messages)) =
    cut_or_after TopologyFails IsReadTopology topology_bytes (FailsAfterTopology v) (topology_units i.topology)
    (report_units i ++ flat_map list_units i.messages) i.topology read.topology (topology_spelled i.topology)
    (topology_cuts i.topology read.topology) behind_topology in
    cut_or_after (UnitFails IsVersion magic_bytes) IsVersion magic_bytes FailsAfterMagic (magic_bytes v ∷ [])
    (topology_units i.topology ++ (report_units i ++ flat_map list_units i.messages)) v tt (append-nil (magic_bytes v))
    (unit_cut IsVersion magic_bytes (λ w u a b fw fu e. one_magic w u a b e) v tt)
    behind_magic

-- the units are the spelling
parts_spelled : (v : Version) (i : Install) → concat (units_in v i) ≡ parts_bytes v i
parts_spelled v i = ap (λ (rest : List ℕ). magic_bytes v ++ rest)
    (concat-append (topology_units i.topology) (report_units i ++ flat_map list_units i.messages)
    ∙ (ap (λ (rest : List ℕ). concat (topology_units i.topology) ++ rest) (concat-append (report_units i) (flat_map list_units i.messages))
    ∙ joined _ _ _ _ (topology_spelled i.topology) (joined _ _ _ _ (report_spelled i) (lists_spelled i.messages))))

pub new_units : (i : Install) → concat (install_units 0x32 i) ≡ install_bytes 0x32 i
new_units i = parts_spelled New i ∙ new_parts i

pub old_units : (i : Install) → concat (install_units 0x31 i) ≡ install_bytes 0x31 i
old_units i = parts_spelled Old i ∙ old_parts i

-- those of an install are those of it as it is read
same_switches : (ss : List Switch) → map switch_bytes (all_as_read ss) ≡ map switch_bytes ss
same_switches [] = refl
same_switches (s ∷ ss) = ap (λ (rest : List (List ℕ)). switch_bytes s ∷ rest) (same_switches ss)

same_units : (n : ℕ) (i : Install) → install_units n (install_as_read i) ≡ install_units n i
same_units n i = rw (same_switches i.topology.switches, length-map i.topology.switches as_read) refl

-- where units that are cut short fail, bytes cut short are damaged
damaged_at : (us : List (List ℕ)) (spelled : List ℕ) (n : ℕ) → concat us ≡ spelled → n < length spelled → CutsFail InstallFails us
    → IsDamagedAt (take n spelled) (unit_start us n)
damaged_at us spelled n same below fails =
    let cut = cut_at us n (rw same below) in (
      cut.0,
      cut.1 ∙ sym (length-take-le n spelled (omega (arith, below))),
      subst (λ (bytes : List ℕ). InstallFails (take n bytes) cut.0) same (fails (take n (concat us)) cut.0 cut.2),
    )

pub new_damaged : (i : Install) (n : ℕ) → IsLawfulInstall i → n < length (install_bytes 0x32 i)
    → IsDamagedAt (take n (install_bytes 0x32 i)) (unit_start (install_units 0x32 i) n)
new_damaged i n lawful below = damaged_at (install_units 0x32 i) (install_bytes 0x32 i) n (new_units i) below
    (subst (CutsFail InstallFails) (same_units 0x32 i) (install_cuts New (install_as_read i) (new_as_read i lawful)))

pub old_damaged : (i : Install) (n : ℕ) → IsLawfulInstall i → IsOldInstall i → n < length (install_bytes 0x31 i)
    → IsDamagedAt (take n (install_bytes 0x31 i)) (unit_start (install_units 0x31 i) n)
old_damaged i n lawful old below = damaged_at (install_units 0x31 i) (install_bytes 0x31 i) n (old_units i) below
    (subst (CutsFail InstallFails) (same_units 0x31 i) (install_cuts Old (install_as_read i) (old_as_read i lawful old)))
