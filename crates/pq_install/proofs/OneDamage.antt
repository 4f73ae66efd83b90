-- Bytes are damaged in one place.
use Rattle.std.specs.Prelude.{◌≡◌, ℕ, ◌^◌, ◌<◌, ◌≤◌, List, [], ◌∷◌, ◌++◌, All, length}
use Rattle.std.proofs.Common.{arith, sym, ◌∙◌, inl, inr, subst}
use Rattle.std.specs.Int.{w16, w32, to_be_bytes}
use Rattle.std.specs.List.{flat_map}
use Rattle.std.proofs.lemmas.Bool.{cases_lt}
use Rattle.pq_model.specs.Spelling.{message_bytes}
use Rattle.pq_model.specs.Install.{switch_bytes, link_bytes, name_bytes, row_bytes, list_bytes}
use Rattle.pq_install.specs.declared.version.Version.{Version}
use Rattle.pq_install.specs.Damage.{FailsAfterMagic, FailsAfterTopology, FailsOrAfter, InstallFails, IsDamagedAt, IsReadList, IsReadMessage}
use Rattle.pq_install.specs.Damage.{IsReadReport, IsReadTopology, IsVersion, ListFailsAt, ListsFail, ReportFails, TopologyFails}
use Rattle.pq_install.specs.Damage.{magic_bytes, report_bytes, topology_bytes}
use Rattle.pq_install.specs.Front.{IsAtFront, IsU32}
use Rattle.pq_install.specs.Links.{AreReadLinks, HasEnds}
use Rattle.pq_install.specs.Names.{AreReadNames, IsName}
use Rattle.pq_install.specs.Rows.{AreReadRows, HasPairs}
use Rattle.pq_install.specs.Switches.{AreReadSwitches, IsReadSwitch}
use Rattle.pq_install.specs.Units.{CountedFails, IsSection, ListFails, UnitFails}
use Rattle.pq_install.proofs.Closed.{Closed, up_to, all_closed, switches_closed, links_closed, names_closed, rows_closed}
use Rattle.pq_install.proofs.Exclusion.{goes_on, section_stands, one_section, one_magic, links_have_ends, rows_have_pairs, unique_message}
use Rattle.pq_install.proofs.Exclusion.{unique_messages, topology_stands, one_topology, report_stands, one_report, list_stands_at}
use Rattle.pq_install.proofs.Front.{Unique, unique_u16, unique_u32, unique_list}
use Rattle.pq_install.proofs.LinkUnits.{unique_link}
use Rattle.pq_install.proofs.NameUnits.{unique_name}
use Rattle.pq_install.proofs.RowUnits.{unique_row}
use Rattle.pq_install.proofs.SwitchUnits.{unique_switch}
use Rattle.pq_install.proofs.UnitLists.{all_more}

-- where bytes fail, as many are left each time
abbrev pub OneFailure : (List ℕ → ℕ → Type 0) → Type 0
OneFailure Fails = (bytes : List ℕ) (l m : ℕ) → Fails bytes l → Fails bytes m → l ≡ m

one_unit : {X : Type 0} (P : X → Type 0) (spell : X → List ℕ) → OneFailure (UnitFails P spell)
one_unit P spell bytes l m one other = one.0 ∙ sym other.0

-- a first part that is read doesn't fail, and it is read in one way
module _ {X : Type 0} (Fails : List ℕ → ℕ → Type 0) (Reads : List ℕ → X → List ℕ → Type 0) (After : X → List ℕ → ℕ
    → Type 0) (first : OneFailure Fails) (stands : (bytes : List ℕ) (x : X) (rest : List ℕ) (left : ℕ) → Reads bytes x rest
    → Fails bytes left → ⊥) (one : (bytes : List ℕ) (x y : X) (rest more : List ℕ) → Reads bytes x rest → Reads bytes y more
    → (x ≡ y) × (rest ≡ more)) (second : (bytes : List ℕ) (x : X) (rest : List ℕ) → Reads bytes x rest → OneFailure (After x)) where
  one_or_after : OneFailure (FailsOrAfter Fails Reads After)
  one_or_after bytes l m (inl f) (inl g) = first bytes l m f g
  one_or_after bytes l m (inl f) (inr (y, more, other, g)) = absurd (stands bytes y more l other f)
  one_or_after bytes l m (inr (x, rest, reads, f)) (inl g) = absurd (stands bytes x rest m reads g)
  one_or_after bytes l m (inr (x, rest, reads, f)) (inr (y, more, other, g)) =
      let same = one bytes y x more rest other reads in
      second bytes x rest reads rest l m f (subst (λ (z : X). After z rest m) same.0 (subst (λ (b : List ℕ). After y b m) same.1 g))

-- a unit is the first part
one_behind : {X : Type 0} (P : X → Type 0) (spell : X → List ℕ) (After : X → List ℕ → ℕ → Type 0) → Unique P spell
    → ((x : X) → P x → OneFailure (After x)) → OneFailure (FailsOrAfter (UnitFails P spell) (IsAtFront P spell) After)
one_behind P spell After unique second =
    one_or_after (UnitFails P spell) (IsAtFront P spell) After (one_unit P spell)
    (λ bytes x rest left reads fails. fails.1 x rest reads.0 reads.1)
    (λ bytes x y rest more reads other. unique x y rest more reads.0 other.0 (sym reads.1 ∙ other.1))
    (λ bytes x rest reads. second x reads.0)

module _ {X : Type 0} (P : X → Type 0) (spell : X → List ℕ) (unique : Unique P spell) (Rules : List X → Type 0) (each : (zs : List X)
    → Rules zs → All P zs) (closed : Closed Rules) where
  -- of values in a list some are read, and what is next fails
  abbrev SomeFail : (List X → List ℕ → ℕ → Type 0) → ℕ → List ℕ → ℕ → Type 0
  SomeFail Next count bytes left = (xs : List X) × (rest : List ℕ) × (length xs < count) × IsAtFront Rules (flat_map spell) bytes xs rest × Next xs rest left

  module _ (Next : List X → List ℕ → ℕ → Type 0) (stands : (xs : List X) (y : X) (rest more : List ℕ) (left : ℕ) → Rules (xs ++ y ∷ [])
      → rest ≡ spell y ++ more → Next xs rest left → ⊥) (one : (xs : List X) → OneFailure (Next xs)) (count : ℕ) where
    -- no more are read than up to what fails
    none_longer : (bytes : List ℕ) (xs ys : List X) (rest more : List ℕ) (left : ℕ) → IsAtFront Rules (flat_map spell) bytes xs rest
        → IsAtFront Rules (flat_map spell) bytes ys more → Next xs rest left → length xs < length ys → ⊥
    none_longer bytes xs ys rest more left front other fails shorter =
        let next = goes_on P spell unique xs ys rest more (each xs front.0) (each ys other.0) shorter (sym front.1 ∙ other.1) in
        stands xs next.0 rest (flat_map spell next.1 ++ more) left (up_to Rules closed xs next.0 next.1 (subst Rules next.2 other.0)) next.3 fails

    some_fail : OneFailure (SomeFail Next count)
    some_fail bytes l m (xs, rest, fewer, front, f) (ys, more, less, other, g) = elim (cases_lt (length xs) (length ys)) [
      | inl shorter ↦ absurd (none_longer bytes xs ys rest more l front other f shorter)
      | inr most ↦ elim (cases_lt (length ys) (length xs)) [
        | inl longer ↦ absurd (none_longer bytes ys xs more rest m other front g longer)
        | inr least ↦
            let same = unique_list P spell unique ys xs more rest (each ys other.0) (each xs front.0) (omega (arith, most, least)) (sym other.1 ∙ front.1) in
            one xs rest l m f (subst (λ (zs : List X). Next zs rest m) same.0 (subst (λ (b : List ℕ). Next ys b m) same.1 g))
      ]
    ]

  one_list : (count : ℕ) → OneFailure (ListFails Rules spell count)
  one_list count =
      some_fail (λ xs. UnitFails (λ x. Rules (xs ++ x ∷ [])) spell)
      (λ xs y rest more left kept e fails. fails.1 y more kept e)
      (λ xs. one_unit (λ x. Rules (xs ++ x ∷ [])) spell)
      count

  one_counted : (most : ℕ) → most < 2 ^ 16 → OneFailure (CountedFails most Rules spell)
  one_counted most small =
      one_behind (λ n. n ≤ most) (to_be_bytes w16) (λ count. ListFails Rules spell count)
      (λ m n a b fm fn e. unique_u16 m n a b (omega (arith, fm, small)) (omega (arith, fn, small)) e)
      (λ count few. one_list count)

one_topology_failure : OneFailure TopologyFails
one_topology_failure =
    one_or_after (CountedFails 256 AreReadSwitches switch_bytes) (IsSection 256 AreReadSwitches switch_bytes)
    (λ ss. CountedFails 65535 (AreReadLinks ss) link_bytes)
    (one_counted IsReadSwitch switch_bytes unique_switch AreReadSwitches (λ ss are. are.each) switches_closed 256 (omega arith))
    (λ bytes ss rest left reads fails. section_stands IsReadSwitch switch_bytes unique_switch 256 (omega arith) AreReadSwitches
    (λ zs are. are.each) switches_closed bytes ss rest left reads fails)
    (λ bytes ss ts rest more reads other. one_section IsReadSwitch switch_bytes unique_switch 256 (omega arith) AreReadSwitches
    (λ zs are. are.each) bytes ss ts rest more reads other)
    (λ bytes ss rest reads. one_counted HasEnds link_bytes unique_link (AreReadLinks ss) (links_have_ends ss reads.0.1) (links_closed ss) 65535 (omega arith))

one_report_failure : OneFailure ReportFails
one_report_failure =
    one_or_after (CountedFails 256 AreReadNames name_bytes) (IsSection 256 AreReadNames name_bytes)
    (λ names. CountedFails 4094 (AreReadRows (length names)) row_bytes)
    (one_counted IsName name_bytes unique_name AreReadNames (λ names are. are.each) names_closed 256 (omega arith))
    (λ bytes names rest left reads fails. section_stands IsName name_bytes unique_name 256 (omega arith) AreReadNames
    (λ zs are. are.each) names_closed bytes names rest left reads fails)
    (λ bytes names others rest more reads other. one_section IsName name_bytes unique_name 256 (omega arith) AreReadNames
    (λ zs are. are.each) bytes names others rest more reads other)
    (λ bytes names rest reads. one_counted HasPairs row_bytes unique_row (AreReadRows (length names))
    (rows_have_pairs (length names) reads.0.0) (rows_closed (length names)) 4094 (omega arith))

-- the messages to a switch
one_list_at : (v : Version) → OneFailure (ListFailsAt v)
one_list_at v =
    one_behind IsU32 (to_be_bytes w32) (λ count. ListFails (All (IsReadMessage v)) message_bytes count) unique_u32
    (λ count few. one_list (IsReadMessage v) message_bytes (unique_message v) (All (IsReadMessage v)) (λ zs all. all) (all_closed (IsReadMessage v)) count)

one_lists : (v : Version) (count : ℕ) → OneFailure (ListsFail v count)
one_lists v count =
    some_fail (IsReadList v) list_bytes (unique_messages v) (All (IsReadList v)) (λ zs all. all) (all_closed (IsReadList v)) (λ lists. ListFailsAt v)
    (λ lists ms rest more left kept e fails. list_stands_at v rest ms more left (((all_more (IsReadList v) lists ms).0 kept).1, e) fails)
    (λ lists. one_list_at v)
    count

one_install_failure : OneFailure InstallFails
one_install_failure =
    one_behind IsVersion magic_bytes FailsAfterMagic (λ v w a b fv fw e. one_magic v w a b e)
    (λ v fit. one_or_after TopologyFails (IsAtFront IsReadTopology topology_bytes) (FailsAfterTopology v) one_topology_failure
    (λ bytes t rest left reads fails. topology_stands bytes t rest reads left fails)
    (λ bytes t u rest more reads other. one_topology bytes t u rest more reads other)
    (λ bytes t rest reads. one_or_after ReportFails (IsAtFront IsReadReport report_bytes) (λ r. ListsFail v (length t.switches)) one_report_failure
    (λ bytes r rest left reads fails. report_stands bytes r rest reads left fails)
    (λ bytes q r rest more reads other. one_report bytes q r rest more reads other)
    (λ bytes r rest reads. one_lists v (length t.switches))))

pub one_damage : (bytes : List ℕ) (at other : ℕ) → IsDamagedAt bytes at → IsDamagedAt bytes other → at ≡ other
one_damage bytes at other (l, here, fails) (m, there, also) =
    let same = one_install_failure bytes l m fails also in
    omega (arith, here, there, same)
