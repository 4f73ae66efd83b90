-- The switches that are read have names that differ.
use Rattle.std.specs.Prelude.{◌≡◌, ◌≢◌, ℕ, ◌<◌, ◌≤◌, ◌^◌, Bool, true, false, List, [], ◌∷◌, All, map, bytes_eq, decimal, length}
use Rattle.std.proofs.Common.{arith, refl}
use Rattle.std.specs.List.{IsDistinct, AllByRecursion}
use Rattle.std.proofs.lemmas.Fmt.{decimal_injective}
use Rattle.std.proofs.lemmas.List.Elements.{All-tail}
use Rattle.std.specs.Cmp.Lexicographic.{bytes_decides}
use Rattle.pq_model.specs.Lawful.{Ascends}
use Rattle.pq_model.specs.Topology.{Switch, Topology}
use Rattle.pq_topo.specs.Named.{IsNamedTopology}
use Rattle.pq_topo.proofs.Ascending.{rest_ascends}
use Rattle.pq_install.specs.Links.{AreReadLinks, unlinked}
use Rattle.pq_install.specs.Switches.{AreReadSwitches, IsReadSwitch, read_name}
use Rattle.pq_install.proofs.LinkLists.{no_links}

names_differ : (d e : ℕ) → d < 2 ^ 64 → e < 2 ^ 64 → d ≢ e → bytes_eq (read_name d) (read_name e) ≡ false
names_differ d e fd fe other = by (bytes_eq (read_name d) (read_name e)) refl
  where
    by : (b : Bool) → bytes_eq (read_name d) (read_name e) ≡ b → bytes_eq (read_name d) (read_name e) ≡ false
    by false same = same
    by true same =
        let whole : read_name d ≡ read_name e = (bytes_decides (read_name d) (read_name e)).0 same in
        let digits : decimal d ≡ decimal e = cc in
        absurd (other (decimal_injective d e fd fe digits))

differs_from_all : (s : Switch) (ss : List Switch) → IsReadSwitch s → All IsReadSwitch ss → Ascends (s.datapath ∷ map (λ t. t.datapath) ss)
    → AllByRecursion (λ name. bytes_eq s.name name ≡ false) (map (λ t. t.name) ss)
differs_from_all s [] fit each up = tt
differs_from_all s (t ∷ []) fit each up =
    let there = each 0 t (omega arith) in
    (rw (fit.2, there.2) (names_differ s.datapath t.datapath fit.0.0 there.0.0 (λ same. omega (arith, same, up.0))), tt)
differs_from_all s (t ∷ u ∷ us) fit each up =
    let there = each 0 t (omega arith) in
    let differs : bytes_eq s.name t.name ≡ false =
    rw (fit.2, there.2) (names_differ s.datapath t.datapath fit.0.0 there.0.0 (λ same. omega (arith, same, up.0))) in
    let above : s.datapath < u.datapath = omega (arith, up.0, up.1.0) in
    (differs, differs_from_all s (u ∷ us) fit (All-tail IsReadSwitch t (u ∷ us) each) (above, up.1.1))

all_differ : (ss : List Switch) → All IsReadSwitch ss → Ascends (map (λ s. s.datapath) ss) → IsDistinct bytes_eq (map (λ s. s.name) ss)
unfolding IsDistinct
all_differ [] each up = tt
all_differ (s ∷ ss) each up =
    let rest = All-tail IsReadSwitch s ss each in
    (differs_from_all s ss (each 0 s (omega arith)) rest up, all_differ ss rest (rest_ascends s.datapath (map (λ t. t.datapath) ss) up))

-- what is read of a topology is one
pub read_is_named : (t : Topology) → length t.switches ≤ 256 → AreReadSwitches t.switches → AreReadLinks t.switches t.links → IsNamedTopology t
read_is_named t few switches links = record {
  lawful = record {
    few_switches = few;
    few_ports = switches.few_ports;
    switches = λ k s below. (switches.each k s below).0;
    ascending = switches.ascending;
    links = links.each;
    linked_once = links.linked_once;
    links_ascend = links.ascending;
  };
  names_differ = all_differ t.switches switches.each switches.ascending;
  limits = λ k s below. omega (arith, (switches.each k s below).3);
}

pub unlinked_is_named : (ss : List Switch) → length ss ≤ 256 → AreReadSwitches ss → IsNamedTopology (unlinked ss)
unlinked_is_named ss few switches = read_is_named (unlinked ss) few switches (no_links ss)
