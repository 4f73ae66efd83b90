-- Where an install is at the front, nothing fails.
use Rattle.std.specs.Prelude.{◌≡◌, ℕ, ◌^◌, ◌<◌, ◌≤◌, List, [], ◌∷◌, ◌++◌, All, get_or, length}
use Rattle.std.proofs.Common.{arith, refl, sym, ap, ◌∙◌, inl, inr, append_assoc, subst}
use Rattle.std.specs.Int.{w16, w32, to_be_bytes}
use Rattle.std.specs.List.{flat_map}
use Rattle.std.proofs.lemmas.List.{append_cancel_left}
use Rattle.std.proofs.lemmas.List.Elements.{All-tail}
use Rattle.pq_model.specs.declared.message.Message.{Message}
use Rattle.pq_model.specs.Topology.{Switch, Link, Topology}
use Rattle.pq_model.specs.TablesMachine.{Row}
use Rattle.pq_model.specs.Spelling.{message_bytes}
use Rattle.pq_model.specs.Install.{Install, switch_bytes, link_bytes, name_bytes, row_bytes, list_bytes}
use Rattle.pq_flowmod.proofs.OneMessage.{one_message}
use Rattle.pq_install.specs.declared.version.Version.{Version}
use Rattle.pq_install.specs.declared.version.Version.TheVariants.{Old, New}
use Rattle.pq_install.specs.Damage.{FailsAfterMagic, FailsAfterTopology, FailsOrAfter, InstallFails, IsReadList, IsReadMessage}
use Rattle.pq_install.specs.Damage.{IsReadReport, IsReadTopology, IsVersion, ListFailsAt, ListsFail, ReportFails, Reporting, TopologyFails}
use Rattle.pq_install.specs.Damage.{magic_bytes, report_bytes, topology_bytes}
use Rattle.pq_install.specs.Front.{IsAtFront, IsU16, IsU32, counted_by}
use Rattle.pq_install.specs.Links.{AreReadLinks, HasEnds}
use Rattle.pq_install.specs.Names.{AreReadNames, IsName}
use Rattle.pq_install.specs.Reading.{IsInstallAtFront}
use Rattle.pq_install.specs.Rows.{AreReadRows, HasPairs}
use Rattle.pq_install.specs.Switches.{AreReadSwitches, IsReadSwitch}
use Rattle.pq_install.specs.Units.{CountedFails, IsSection, ListFails, UnitFails}
use Rattle.pq_install.proofs.Closed.{Closed, up_to, all_closed, switches_closed, links_closed, names_closed, rows_closed}
use Rattle.pq_install.proofs.Front.{Unique, unique_u16, unique_u32, unique_list}
use Rattle.pq_install.proofs.LinkLists.{port_fits}
use Rattle.pq_install.proofs.LinkUnits.{unique_link}
use Rattle.pq_install.proofs.NameUnits.{unique_name}
use Rattle.pq_install.proofs.RowLists.{lawful_has_pairs}
use Rattle.pq_install.proofs.RowUnits.{unique_row}
use Rattle.pq_install.proofs.SwitchUnits.{unique_switch}
use Rattle.pq_install.proofs.UnitLists.{all_more}
use Rattle.pq_install.proofs.Sequences.{unique_counted}

module _ {X : Type 0} (P : X → Type 0) (spell : X → List ℕ) (unique : Unique P spell) where
  -- of two lists at one front the shorter begins the longer
  pub goes_on : (xs ys : List X) (rest more : List ℕ) → All P xs → All P ys → length xs < length ys
      → flat_map spell xs ++ rest ≡ flat_map spell ys ++ more
      → (y : X) × (back : List X) × (ys ≡ xs ++ y ∷ back) × (rest ≡ spell y ++ (flat_map spell back ++ more))
  goes_on [] [] rest more px py shorter e = absurd (omega (arith, shorter))
  goes_on [] (y ∷ ys) rest more px py shorter e = (y, ys, refl, e ∙ append_assoc (spell y) (flat_map spell ys) more)
  goes_on (x ∷ xs) [] rest more px py shorter e = absurd (omega (arith, shorter))
  goes_on (x ∷ xs) (y ∷ ys) rest more px py shorter e =
      let same = unique x y (flat_map spell xs ++ rest) (flat_map spell ys ++ more) (px 0 x (omega arith)) (py 0 y (omega arith))
      (sym (append_assoc (spell x) (flat_map spell xs) rest) ∙ (e ∙ append_assoc (spell y) (flat_map spell ys) more)) in
      let later = goes_on xs ys rest more (All-tail P x xs px) (All-tail P y ys py) (omega (arith, shorter)) same.1 in
      let head : x ≡ y = same.0 in
      let tail : ys ≡ xs ++ later.0 ∷ later.1 = later.2 in
      let whole : y ∷ ys ≡ x ∷ (xs ++ later.0 ∷ later.1) = cc in
      (later.0, later.1, whole, later.3)

  -- a list that is there doesn't fail
  pub list_stands : (Rules : List X → Type 0) → ((zs : List X) → Rules zs → All P zs) → Closed Rules
      → (bytes : List ℕ) (ys : List X) (more : List ℕ) (left : ℕ) → IsAtFront Rules (flat_map spell) bytes ys more
      → ListFails Rules spell (length ys) bytes left → ⊥
  list_stands Rules each closed bytes ys more left front (xs, rest, fewer, begun, fails) =
      let next = goes_on xs ys rest more (each xs begun.0) (each ys front.0) fewer (sym begun.1 ∙ front.1) in
      let y = next.0 in
      fails.1 y (flat_map spell next.1 ++ more) (up_to Rules closed xs y next.1 (subst Rules next.2 front.0)) next.3

  -- nor does a section that is there
  pub section_stands : (most : ℕ) → most < 2 ^ 16 → (Rules : List X → Type 0) → ((zs : List X) → Rules zs → All P zs) → Closed Rules
      → (bytes : List ℕ) (ys : List X) (more : List ℕ) (left : ℕ) → IsSection most Rules spell bytes ys more
      → CountedFails most Rules spell bytes left → ⊥
  section_stands most small Rules each closed bytes ys more left front (inl fails) =
      fails.1 (length ys) (flat_map spell ys ++ more) front.0.0 (front.1
      ∙ append_assoc (to_be_bytes w16 (length ys)) (flat_map spell ys) more)
  section_stands most small Rules each closed bytes ys more left front (inr (count, rest, counts, fails)) =
      let same = unique_u16 count (length ys) rest (flat_map spell ys ++ more) (omega (arith, counts.0, small))
      (omega (arith, front.0.0, small)) (sym counts.1 ∙ (front.1 ∙ append_assoc (to_be_bytes w16 (length ys)) (flat_map spell ys) more))
      in
      list_stands Rules each closed rest ys more left (front.0.1, same.1) (subst (λ (n : ℕ). ListFails Rules spell n rest left) same.0 fails)

  -- and there is one such section
  pub one_section : (most : ℕ) → most < 2 ^ 16 → (Rules : List X → Type 0) → ((zs : List X) → Rules zs → All P zs)
      → (bytes : List ℕ) (xs ys : List X) (rest more : List ℕ) → IsSection most Rules spell bytes xs rest
      → IsSection most Rules spell bytes ys more → (xs ≡ ys) × (rest ≡ more)
  one_section most small Rules each bytes xs ys rest more one other =
      unique_counted w16 IsU16 unique_u16 P spell unique xs ys rest more (omega (arith, one.0.0, small), each xs one.0.1)
      (omega (arith, other.0.0, small), each ys other.0.1) (sym one.1 ∙ other.1)

-- a magic that is there doesn't fail, and there is one
pub one_magic : (v w : Version) (rest more : List ℕ) → magic_bytes v ++ rest ≡ magic_bytes w ++ more → (v ≡ w) × (rest ≡ more)
one_magic Old Old rest more e = (refl, cc)
one_magic Old New rest more e = absurd (grind (arith, e))
one_magic New Old rest more e = absurd (grind (arith, e))
one_magic New New rest more e = (refl, cc)

-- where a first part is read, only what follows it may fail
only_after : {X : Type 0} (Fails : List ℕ → ℕ → Type 0) (Reads : List ℕ → X → List ℕ → Type 0) (After : X → List ℕ → ℕ
    → Type 0) (bytes : List ℕ) (left : ℕ) (x : X) (rest : List ℕ) → Reads bytes x rest → (Fails bytes left → ⊥)
    → ((y : X) (more : List ℕ) → Reads bytes y more → (y ≡ x) × (more ≡ rest)) → FailsOrAfter Fails Reads After bytes left
    → After x rest left
only_after Fails Reads After bytes left x rest reads stands one (inl fails) = absurd (stands fails)
only_after {X = X} Fails Reads After bytes left x rest reads stands one (inr (y, more, other, after)) =
    let same = one y more other in
    subst (λ (z : X). After z rest left) same.0 (subst (λ (b : List ℕ). After y b left) same.1 after)

pub links_have_ends : (ss : List Switch) → AreReadSwitches ss → (ls : List Link) → AreReadLinks ss ls → All HasEnds ls
links_have_ends ss switches ls are k l below =
    let lawful = are.each k l below in (
      port_fits ss (get_or ls k l).first.0 (get_or ls k l).first.1 switches.each lawful.0,
      port_fits ss (get_or ls k l).second.0 (get_or ls k l).second.1 switches.each lawful.1,
    )

pub rows_have_pairs : (queries : ℕ) → queries ≤ 256 → (rows : List Row) → AreReadRows queries rows → All HasPairs rows
rows_have_pairs queries few rows are k row below = lawful_has_pairs queries few (get_or rows k row) (are.each k row below)

-- two messages at one front are the same
pub unique_message : (v : Version) → Unique (IsReadMessage v) message_bytes
unique_message v m n a b fm fn e =
    let same = one_message m n a b fm.0 fn.0 e in
    (same, append_cancel_left (message_bytes n) a b (subst (λ (x : Message). message_bytes x ++ a ≡ message_bytes n ++ b) same e))

pub unique_messages : (v : Version) → Unique (IsReadList v) list_bytes
unique_messages v = unique_counted w32 IsU32 unique_u32 (IsReadMessage v) message_bytes (unique_message v)

-- the topology

module _ (bytes : List ℕ) (t : Topology) (rest : List ℕ) (front : IsAtFront IsReadTopology topology_bytes bytes t rest) where
  abbrev behind_switches : List ℕ
  behind_switches = counted_by w16 link_bytes t.links ++ rest

  switches_front : IsSection 256 AreReadSwitches switch_bytes bytes t.switches behind_switches
  switches_front = (
    (front.0.few_switches, front.0.switches),
    front.1
        ∙ append_assoc (counted_by w16 switch_bytes t.switches) (counted_by w16 link_bytes t.links) rest,
  )

  links_front : IsSection 65535 (AreReadLinks t.switches) link_bytes behind_switches t.links rest
  links_front = ((front.0.few_links, front.0.links), refl)

  pub topology_stands : (left : ℕ) → TopologyFails bytes left → ⊥
  topology_stands left fails =
      let links = only_after (CountedFails 256 AreReadSwitches switch_bytes) (IsSection 256 AreReadSwitches switch_bytes)
      (λ ss. CountedFails 65535 (AreReadLinks ss) link_bytes) bytes left t.switches behind_switches switches_front
      (section_stands IsReadSwitch switch_bytes unique_switch 256 (omega arith) AreReadSwitches
      (λ ss are. are.each) switches_closed bytes t.switches behind_switches left switches_front)
      (λ ss more other. one_section IsReadSwitch switch_bytes unique_switch 256 (omega arith) AreReadSwitches
      (λ zs are. are.each) bytes ss t.switches more behind_switches other switches_front)
      fails in
      section_stands HasEnds link_bytes unique_link 65535 (omega arith) (AreReadLinks t.switches)
      (links_have_ends t.switches front.0.switches) (links_closed t.switches) behind_switches t.links rest left links_front links

pub one_topology : (bytes : List ℕ) (t u : Topology) (rest more : List ℕ) → IsAtFront IsReadTopology topology_bytes bytes t rest
    → IsAtFront IsReadTopology topology_bytes bytes u more → (t ≡ u) × (rest ≡ more)
one_topology bytes t u rest more one other =
    let switches = one_section IsReadSwitch switch_bytes unique_switch 256 (omega arith) AreReadSwitches
    (λ zs are. are.each) bytes t.switches u.switches _ _ (switches_front bytes t rest one) (switches_front bytes u more other) in
    let links = unique_counted w16 IsU16 unique_u16 HasEnds link_bytes unique_link t.links u.links rest more
    (omega (arith, one.0.few_links), links_have_ends t.switches one.0.switches t.links one.0.links) (
      omega (arith, other.0.few_links),
      links_have_ends u.switches other.0.switches u.links other.0.links,
    ) switches.1 in
    let same_switches : t.switches ≡ u.switches = switches.0 in
    let same_links : t.links ≡ u.links = links.0 in
    let whole : record { switches = t.switches; links = t.links } ≡ record { switches = u.switches; links = u.links } = rw (same_switches, same_links) refl in
    (whole, links.1)

-- the report

module _ (bytes : List ℕ) (r : Reporting) (rest : List ℕ) (front : IsAtFront IsReadReport report_bytes bytes r rest) where
  abbrev behind_names : List ℕ
  behind_names = counted_by w16 row_bytes r.1 ++ rest

  names_front : IsSection 256 AreReadNames name_bytes bytes r.0 behind_names
  names_front = ((front.0.few_names, front.0.names), front.1 ∙ append_assoc (counted_by w16 name_bytes r.0) (counted_by w16 row_bytes r.1) rest)

  rows_front : IsSection 4094 (AreReadRows (length r.0)) row_bytes behind_names r.1 rest
  rows_front = ((front.0.few_rows, front.0.rows), refl)

  pub report_stands : (left : ℕ) → ReportFails bytes left → ⊥
  report_stands left fails =
      let rows = only_after (CountedFails 256 AreReadNames name_bytes) (IsSection 256 AreReadNames name_bytes)
      (λ names. CountedFails 4094 (AreReadRows (length names)) row_bytes) bytes left r.0 behind_names names_front
      (section_stands IsName name_bytes unique_name 256 (omega arith) AreReadNames (λ names are. are.each) names_closed bytes r.0 behind_names left names_front)
      (λ names more other. one_section IsName name_bytes unique_name 256 (omega arith) AreReadNames
      (λ zs are. are.each) bytes names r.0 more behind_names other names_front)
      fails in
      section_stands HasPairs row_bytes unique_row 4094 (omega arith) (AreReadRows (length r.0))
      (rows_have_pairs (length r.0) front.0.few_names) (rows_closed (length r.0)) behind_names r.1 rest left rows_front rows

pub one_report : (bytes : List ℕ) (q r : Reporting) (rest more : List ℕ) → IsAtFront IsReadReport report_bytes bytes q rest
    → IsAtFront IsReadReport report_bytes bytes r more → (q ≡ r) × (rest ≡ more)
one_report bytes q r rest more one other =
    let names = one_section IsName name_bytes unique_name 256 (omega arith) AreReadNames (λ zs are. are.each) bytes q.0 r.0 _ _
    (names_front bytes q rest one) (names_front bytes r more other) in
    let rows = unique_counted w16 IsU16 unique_u16 HasPairs row_bytes unique_row q.1 r.1 rest more (
      omega (arith, one.0.few_rows),
      rows_have_pairs (length q.0) one.0.few_names q.1 one.0.rows,
    ) (
      omega (arith, other.0.few_rows),
      rows_have_pairs (length r.0) other.0.few_names r.1 other.0.rows,
    ) names.1 in
    let same_names : q.0 ≡ r.0 = names.0 in
    let same_rows : q.1 ≡ r.1 = rows.0 in
    let whole : (q.0, q.1) ≡ (r.0, r.1) = rw (same_names, same_rows) refl in
    (whole, rows.1)

-- the messages

pub list_stands_at : (v : Version) (bytes : List ℕ) (ms : List Message) (rest : List ℕ) (left : ℕ)
    → IsAtFront (IsReadList v) list_bytes bytes ms rest → ListFailsAt v bytes left → ⊥
list_stands_at v bytes ms rest left front fails =
    let count : IsAtFront IsU32 (to_be_bytes w32) bytes (length ms) (flat_map message_bytes ms ++ rest) =
    (front.0.0, front.1 ∙ append_assoc (to_be_bytes w32 (length ms)) (flat_map message_bytes ms) rest) in
    let messages = only_after (UnitFails IsU32 (to_be_bytes w32)) (IsAtFront IsU32 (to_be_bytes w32))
    (λ n. ListFails (All (IsReadMessage v)) message_bytes n) bytes left (length ms) (flat_map message_bytes ms ++ rest) count
    (λ unit. unit.1 (length ms) (flat_map message_bytes ms ++ rest) count.0 count.1)
    (λ n more other. unique_u32 n (length ms) more (flat_map message_bytes ms ++ rest) other.0 count.0 (sym other.1 ∙ count.1))
    fails in
    list_stands (IsReadMessage v) message_bytes (unique_message v) (All (IsReadMessage v)) (λ zs all. all) (all_closed (IsReadMessage v))
    (flat_map message_bytes ms ++ rest) ms rest left (front.0.1, refl) messages

lists_stand : (v : Version) (bytes : List ℕ) (lists : List (List Message)) (rest : List ℕ) (left : ℕ)
    → IsAtFront (All (IsReadList v)) (flat_map list_bytes) bytes lists rest → ListsFail v (length lists) bytes left → ⊥
lists_stand v bytes lists rest left front (some, after, fewer, begun, fails) =
    let next = goes_on (IsReadList v) list_bytes (unique_messages v) some lists after rest begun.0 front.0 fewer (sym begun.1 ∙ front.1) in
    let short = up_to (All (IsReadList v)) (all_closed (IsReadList v)) some next.0 next.1 (subst (All (IsReadList v)) next.2 front.0) in
    list_stands_at v after next.0 (flat_map list_bytes next.1 ++ rest) left (((all_more (IsReadList v) some next.0).0 short).1, next.3) fails

-- where an install is at the front of bytes, none of its units fails
pub install_stands : (bytes : List ℕ) (i : Install) (rest : List ℕ) (left : ℕ) → IsInstallAtFront bytes i rest → InstallFails bytes left → ⊥
install_stands bytes i rest left (v, read, parts) fails =
    let lists = flat_map list_bytes i.messages in
    let report = report_bytes (i.queries, i.report) in
    let topology = topology_bytes i.topology in
    let magic : IsAtFront IsVersion magic_bytes bytes v ((topology ++ (report ++ lists)) ++ rest) =
    (tt, parts ∙ append_assoc (magic_bytes v) (topology ++ (report ++ lists)) rest) in
    let behind_magic = only_after (UnitFails IsVersion magic_bytes) (IsAtFront IsVersion magic_bytes) FailsAfterMagic bytes left v
    ((topology ++ (report ++ lists)) ++ rest) magic
    (λ unit. unit.1 v ((topology ++ (report ++ lists)) ++ rest) tt magic.1)
    (λ w more other. one_magic w v more ((topology ++ (report ++ lists)) ++ rest) (sym other.1 ∙ magic.1))
    fails in
    let t_front : IsAtFront IsReadTopology topology_bytes ((topology ++ (report ++ lists)) ++ rest) i.topology ((report ++ lists) ++ rest) =
    (read.topology, append_assoc topology (report ++ lists) rest) in
    let behind_topology = only_after TopologyFails (IsAtFront IsReadTopology topology_bytes) (FailsAfterTopology v)
    ((topology ++ (report ++ lists)) ++ rest) left i.topology ((report ++ lists) ++ rest) t_front
    (topology_stands ((topology ++ (report ++ lists)) ++ rest) i.topology ((report ++ lists) ++ rest) t_front left)
    (λ u more other. one_topology ((topology ++ (report ++ lists)) ++ rest) u i.topology more ((report ++ lists) ++ rest) other t_front)
    behind_magic in
    let r_front : IsAtFront IsReadReport report_bytes ((report ++ lists) ++ rest) (i.queries, i.report) (lists ++ rest) =
    (read.report, append_assoc report lists rest) in
    let behind_report = only_after ReportFails (IsAtFront IsReadReport report_bytes) (λ q. ListsFail v (length i.topology.switches))
    ((report ++ lists) ++ rest) left (i.queries, i.report) (lists ++ rest) r_front
    (report_stands ((report ++ lists) ++ rest) (i.queries, i.report) (lists ++ rest) r_front left)
    (λ q more other. one_report ((report ++ lists) ++ rest) q (i.queries, i.report) more (lists ++ rest) other r_front)
    behind_topology in
    lists_stand v (lists ++ rest) i.messages rest left (read.messages, refl)
    (subst (λ (n : ℕ). ListsFail v n (lists ++ rest) left) (sym read.listed) behind_report)

-- two installs at one front are the same
pub one_install : (bytes : List ℕ) (i j : Install) (rest more : List ℕ) → IsInstallAtFront bytes i rest → IsInstallAtFront bytes j more
    → (i ≡ j) × (rest ≡ more)
one_install bytes i j rest more (v, read, parts) (w, others, other_parts) =
    let magic = one_magic v w _ _ (sym (parts ∙ append_assoc (magic_bytes v) _ rest) ∙ (other_parts ∙ append_assoc (magic_bytes w) _ more)) in
    let topology = one_topology _ i.topology j.topology _ _ (read.topology, append_assoc (topology_bytes i.topology) _ rest)
    (others.topology, magic.1 ∙ append_assoc (topology_bytes j.topology) _ more) in
    let report = one_report _ (i.queries, i.report) (j.queries, j.report) _ _ (
      read.report,
      append_assoc (report_bytes (i.queries, i.report)) (flat_map list_bytes i.messages) rest,
    ) (
      others.report,
      topology.1
          ∙ append_assoc (report_bytes (j.queries, j.report)) (flat_map list_bytes j.messages) more,
    ) in
    let lengths : length i.messages ≡ length j.messages = read.listed ∙ (ap (λ (t : Topology). length t.switches) topology.0 ∙ sym others.listed) in
    let same_lists : All (IsReadList v) j.messages = subst (λ (u : Version). All (IsReadList u) j.messages) (sym magic.0) others.messages in
    let messages = unique_list (IsReadList v) list_bytes (unique_messages v) i.messages j.messages rest more read.messages same_lists lengths report.1 in
    let same_topology : i.topology ≡ j.topology = topology.0 in
    let same_queries : i.queries ≡ j.queries = ap (λ (r : Reporting). r.0) report.0 in
    let same_report : i.report ≡ j.report = ap (λ (r : Reporting). r.1) report.0 in
    let same_messages : i.messages ≡ j.messages = messages.0 in
    let whole : record { topology = i.topology; queries = i.queries; report = i.report; messages = i.messages }
    ≡ record { topology = j.topology; queries = j.queries; report = j.report; messages = j.messages } =
    rw (same_topology, same_queries, same_report, same_messages) refl in
    (whole, messages.1)
