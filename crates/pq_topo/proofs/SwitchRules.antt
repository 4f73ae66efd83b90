-- The rules that the switches of a document keep.
use Rattle.std.specs.Prelude.{◌≡◌, ◌≢◌, ℕ, ◌+◌, ◌-◌, ◌^◌, ◌<◌, ◌≤◌, Bool, true, false, not, ◌&&◌, if◌then◌else◌, List, [], ◌∷◌, ◌++◌}
use Rattle.std.specs.Prelude.{length, map, All, ◌==◌, nat_eq, nat_le, bytes_eq, Some, None, Ok}
use Rattle.std.proofs.Common.{arith, drop, refl, sym, ap, subst, length-append, map-id}
use Rattle.std.specs.List.{AllByRecursion, IsDistinct, list_any}
use Rattle.std.specs.Cmp.{nat_eq_equiv}
use Rattle.std.specs.Cmp.Lexicographic.{nat_list_eq_equiv}
use Rattle.std.specs.Option.{unwrap_or}
use Rattle.std.proofs.lemmas.Bool.{and_parts, leb-true}
use Rattle.std.proofs.lemmas.Bool.Decides.{nat_tests}
use Rattle.std.proofs.lemmas.List.{length-map, map_push}
use Rattle.std.proofs.lemmas.List.Sums.{sum_by_push}
use Rattle.std.proofs.lemmas.List.Sorted.{length_permutation, sum_by-IsPermutation, IsPermutation-map}
use Rattle.std.proofs.lemmas.List.Elements.{All-from_recursion}
use Rattle.std.proofs.lemmas.Map.Keys.{IsDistinct-push, IsDistinct-IsPermutation}
use Rattle.pq_lists.proofs.Holding.{all_push}
use Rattle.pq_term.specs.declared.token.Token.{Token}
use Rattle.pq_term.specs.Names.{is_name}
use Rattle.pq_term.specs.Numbers.{number_of, is_decimal, is_hexadecimal, value_of}
use Rattle.pq_term.proofs.Digits.{hexadecimal_fits}
use Rattle.pq_tree.specs.Trees.{Forest, nothing, grown}
use Rattle.pq_tree.specs.Texts.{text_in}
use Rattle.pq_model.specs.Lawful.{Ascends}
use Rattle.pq_model.specs.MatchFields.{IsPortNumber}
use Rattle.pq_model.specs.Sorting.{sort_by}
use Rattle.pq_model.specs.Topology.{Switch}
use Rattle.pq_model.specs.Install.{IsLawfulSwitch, port_count}
use Rattle.pq_model.proofs.Sorted.{sort-all}
use Rattle.pq_grammar.specs.declared.class.Class.TheVariants.{SwitchWord}
use Rattle.pq_topo.specs.declared.fault.NameKind.TheVariants.{Many, Doubled, BadValue}
use Rattle.pq_topo.specs.Named.{IsNamedTopology}
use Rattle.pq_topo.specs.Naming.{next}
use Rattle.pq_topo.specs.Statements.{number_in, may_be_port, port_of, ports_after, room_after, seen, limit_in, name_of, datapath_of}
use Rattle.pq_topo.specs.Statements.{switch_with, switch_begins, switch_from, switch_of, begins_with, switches_after, by_datapath}
use Rattle.pq_topo.proofs.Readings.{next_ok, unless_ok}
use Rattle.pq_topo.proofs.Ordered.{ascends_from, sort_shuffles, sort_ascends, same_key}

-- what is spelled is below 2 ^ 64
small : (bs : List ℕ) → unwrap_or (number_of bs) 0 < 2 ^ 64
small bs = by (is_decimal (2 ^ 64 - 1) bs) refl (is_hexadecimal bs) refl
  where
    by : (b : Bool) → is_decimal (2 ^ 64 - 1) bs ≡ b → (c : Bool) → is_hexadecimal bs ≡ c
        → unwrap_or (if b then Some (value_of 10 bs) else (if c then Some (value_of 16 (drop 2 bs)) else None)) 0 < 2 ^ 64
    by true e c f = let fits = and_parts _ (nat_le (value_of 10 bs) (2 ^ 64 - 1)) e in let le : value_of 10 bs ≤ 2 ^ 64 - 1 =
        leb-true _ _ fits.1 in omega (arith, le)
    by false e true f = hexadecimal_fits (drop 2 bs) (and_parts _ _ f).1
    by false e false f = omega arith

-- Ports.

-- ports of a list, of which there may be this many
pub record AreReadPorts (room : ℕ) (ports : List ℕ) : Type 0 where
  pub few : length ports ≤ room
  pub numbers : AllByRecursion IsPortNumber ports
  pub distinct : IsDistinct nat_eq ports

is_port_number : (n : ℕ) → not (may_be_port n) ≡ false → IsPortNumber n
is_port_number n e = (grind (arith, nat_tests, e), grind (arith, nat_tests, e))

port_kept : (bytes : List ℕ) (room : ℕ) (ports : List ℕ) (t : Token) (n : ℕ) → port_of bytes room ports t ≡ Ok n → AreReadPorts room ports
    → AreReadPorts room (ports ++ n ∷ [])
port_kept bytes room ports t n e are =
    let m = number_in bytes t in
    let told = unless_ok t ((not (may_be_port m), BadValue) ∷ (list_any (λ p. m == p) ports, Doubled) ∷ (nat_le room (length ports), Many) ∷ []) m n e in
    subst (λ p. AreReadPorts room (ports ++ p ∷ [])) told.1 (record {
      few = (let long : length (ports ++ m ∷ []) ≡ length ports + 1 = length-append ports (m ∷ []) in grind (arith, nat_tests, long, told.0.1.1.0, are.few));
      numbers = all_push IsPortNumber ports m are.numbers (is_port_number m told.0.0);
      distinct = IsDistinct-push nat_eq_equiv ports m are.distinct told.0.1.0;
    })

ports_kept : (bytes : List ℕ) (room : ℕ) (ports : List ℕ) (f : Forest) (ps : List ℕ) → ports_after bytes room ports f ≡ Ok ps
    → AreReadPorts room ports → AreReadPorts room ps × (length ports ≤ length ps)
ports_kept bytes room ports nothing ps e are = let same : ports ≡ ps = cc in (subst (AreReadPorts room) same are, omega (arith, ap length same))
ports_kept bytes room ports (grown head below rest) ps e are =
    let told = next_ok _ _ ps e in
    let n = told.0 in
    let later = ports_kept bytes room (ports ++ n ∷ []) rest ps told.2 (port_kept bytes room ports head n told.1 are) in
    let long : length (ports ++ n ∷ []) ≡ length ports + 1 = length-append ports (n ∷ []) in
    (later.0, omega (arith, later.1, long))

nothing_yet : (room : ℕ) → AreReadPorts room []
unfolding IsDistinct
nothing_yet room = record { few = omega arith; numbers = tt; distinct = tt }

-- a list with a port gives a port
some_ports : (bytes : List ℕ) (room : ℕ) (head : Token) (below rest : Forest) (ps : List ℕ)
    → ports_after bytes room [] (grown head below rest) ≡ Ok ps → AreReadPorts room ps × (1 ≤ length ps)
some_ports bytes room head below rest ps e =
    let told = next_ok _ _ ps e in
    let later = ports_kept bytes room (told.0 ∷ []) rest ps told.2 (port_kept bytes room [] head told.0 told.1 (nothing_yet room)) in
    later

one_key : (xs : List ℕ) → IsDistinct nat_eq xs → IsDistinct (same_key (λ (p : ℕ). p ∷ [])) xs
unfolding IsDistinct
one_key [] d = tt
one_key (x ∷ xs) d = (apart xs d.0, one_key xs d.1)
  where
    apart : (ys : List ℕ) → AllByRecursion (λ y. nat_eq x y ≡ false) ys → AllByRecursion (λ y. same_key (λ (p : ℕ). p ∷ []) x y ≡ false) ys
    apart [] all = tt
    apart (y ∷ ys) all = (ap (λ b. b && true) all.0, apart ys all.1)

-- Switches.

-- a switch that keeps the rules of an install, and a limit that may be stated
abbrev pub IsReadSwitch : Switch → Type 0
IsReadSwitch s = IsLawfulSwitch s × (s.limit ≤ 16384)

-- switches that were read
pub record AreReadSwitches (ss : List Switch) : Type 0 where
  pub few : length ss ≤ 256
  pub few_ports : port_count ss ≤ 4096
  pub each : AllByRecursion IsReadSwitch ss
  pub names : IsDistinct bytes_eq (map (λ s. s.name) ss)
  pub datapaths : IsDistinct nat_eq (map (λ s. s.datapath) ss)

limit_kept : (bytes : List ℕ) (f : Forest) (n : ℕ) → limit_in bytes f ≡ Ok n → n ≤ 16384
limit_kept bytes nothing n e = let same : 2000 ≡ n = cc in omega (arith, same)
limit_kept bytes (grown head nothing rest) n e = let same : 2000 ≡ n = cc in omega (arith, same)
limit_kept bytes (grown head (grown t below more) rest) n e =
    let m = number_in bytes t in
    let told = unless_ok t ((not (nat_le 1 m && nat_le m 16384), BadValue) ∷ []) m n e in
    grind (arith, nat_tests, told.0.0, told.1)

ports_sorted : (room : ℕ) (ps : List ℕ) → AreReadPorts room ps → 1 ≤ length ps
    → (sort_by (λ p. p ∷ []) ps ≢ []) × Ascends (sort_by (λ p. p ∷ []) ps) × All IsPortNumber (sort_by (λ p. p ∷ []) ps)
    × (length (sort_by (λ p. p ∷ []) ps) ≤ room)
ports_sorted room ps are some =
    let sorted = sort_by (λ (p : ℕ). p ∷ []) ps in
    let shuffled = sort_shuffles (λ (p : ℕ). p ∷ []) ps in
    let long : length sorted ≡ length ps = length_permutation ps sorted shuffled in
    let up = ascends_from (λ p. p) sorted (sort_ascends (λ (p : ℕ). p ∷ []) ps (one_key ps are.distinct)) in (
      (λ none. let zero : length sorted ≡ 0 = ap length none in omega (arith, zero, long, some)),
      subst Ascends (map-id sorted) up,
      All-from_recursion IsPortNumber sorted (sort-all (λ (p : ℕ). p ∷ []) IsPortNumber ps are.numbers),
      omega (arith, long, are.few),
    )

switch_kept : (bytes : List ℕ) (earlier : List Switch) (keyword name datapath port : Token) (z ports rest : Forest) (s : Switch)
    → switch_from bytes (seen earlier) keyword name datapath (grown port z ports) rest ≡ Ok s → AreReadSwitches earlier
    → AreReadSwitches (earlier ++ s ∷ [])
switch_kept bytes earlier keyword name datapath port z ports rest s e are =
    let names = map (λ t. t.name) earlier in
    let datapaths = map (λ t. t.datapath) earlier in
    let begun = next_ok (switch_begins (seen earlier) keyword) _ s e in
    let few = unless_ok keyword ((nat_le 256 (length names), Many) ∷ []) keyword begun.0 begun.1 in
    let named = next_ok (name_of bytes names name) _ s begun.2 in
    let name_text = text_in bytes name in
    let name_told = unless_ok name ((not (is_name name_text), BadValue) ∷ (list_any (λ n. bytes_eq name_text n) names, Doubled) ∷ [])
    name_text named.0 named.1 in
    let numbered = next_ok (datapath_of bytes datapaths datapath) _ s named.2 in
    let d = number_in bytes datapath in
    let datapath_told = unless_ok datapath ((list_any (λ n. d == n) datapaths, Doubled) ∷ []) d numbered.0 numbered.1 in
    let ported = next_ok (ports_after bytes (room_after earlier) [] (grown port z ports)) _ s numbered.2 in
    let port_told = some_ports bytes (room_after earlier) port z ports ported.0 ported.1 in
    let limited = next_ok (limit_in bytes rest) _ s ported.2 in
    let limit_told = limit_kept bytes rest limited.0 limited.1 in
    let is : switch_with named.0 numbered.0 ported.0 limited.0 ≡ s = cc in
    let sorted = ports_sorted (room_after earlier) ported.0 port_told.0 port_told.1 in
    let bound : numbered.0 < 2 ^ 64 = subst (λ n. n < 2 ^ 64) datapath_told.1 (small (text_in bytes datapath)) in
    let made = switch_with named.0 numbered.0 ported.0 limited.0 in
    let long : length (earlier ++ made ∷ []) ≡ length earlier + 1 = length-append earlier (made ∷ []) in
    let sum : port_count (earlier ++ made ∷ []) ≡ port_count earlier + length made.ports = sum_by_push (λ t. length t.ports) earlier made in
    let new_name : list_any (bytes_eq named.0) names ≡ false = subst (λ n. list_any (λ m. bytes_eq n m) names ≡ false) name_told.1 name_told.0.1.0 in
    let new_datapath : list_any (nat_eq numbered.0) datapaths ≡ false =
    subst (λ n. list_any (λ m. n == m) datapaths ≡ false) datapath_told.1 datapath_told.0.0 in
    let counted : length names ≡ length earlier = length-map earlier (λ t. t.name) in
    subst (λ t. AreReadSwitches (earlier ++ t ∷ [])) is (record {
      few = grind (arith, nat_tests, few.0.0, counted, long);
      few_ports = omega (arith, sum, sorted.3, are.few_ports);
      each = all_push IsReadSwitch earlier made are.each ((bound, sorted.0, sorted.1, sorted.2), limit_told);
      names = subst (IsDistinct bytes_eq) (sym (map_push (λ t. t.name) earlier made))
          (IsDistinct-push nat_list_eq_equiv (map (λ t. t.name) earlier) named.0 are.names new_name);
      datapaths = subst (IsDistinct nat_eq) (sym (map_push (λ t. t.datapath) earlier made))
          (IsDistinct-push nat_eq_equiv (map (λ t. t.datapath) earlier) numbered.0 are.datapaths new_datapath);
    })

statement_kept : (bytes : List ℕ) (earlier : List Switch) (keyword : Token) (f : Forest) (s : Switch)
    → switch_of bytes (seen earlier) keyword f ≡ Ok s → AreReadSwitches earlier → AreReadSwitches (earlier ++ s ∷ [])
statement_kept bytes earlier keyword nothing s e are = absurd cc
statement_kept bytes earlier keyword (grown name x nothing) s e are = absurd cc
statement_kept bytes earlier keyword (grown name x (grown datapath y nothing)) s e are = absurd cc
statement_kept bytes earlier keyword (grown name x (grown datapath y (grown list nothing rest))) s e are = absurd cc
statement_kept bytes earlier keyword (grown name x (grown datapath y (grown list (grown port z ports) rest))) s e are =
    switch_kept bytes earlier keyword name datapath port z ports rest s e are

-- all switches that are read keep the rules
pub switches_kept : (bytes : List ℕ) (earlier : List Switch) (f : Forest) (ss : List Switch) → switches_after bytes earlier f ≡ Ok ss
    → AreReadSwitches earlier → AreReadSwitches ss
switches_kept bytes earlier nothing ss e are = let same : earlier ≡ ss = cc in subst AreReadSwitches same are
switches_kept bytes earlier (grown head below rest) ss e are =
    by (begins_with bytes SwitchWord head) e (λ s. switches_kept bytes (earlier ++ s ∷ []) rest ss)
    (λ more. switches_kept bytes earlier rest ss more are)
  where
    by : (b : Bool) → (if b then next (switch_of bytes (seen earlier) head below)
        (λ s. switches_after bytes (earlier ++ s ∷ []) rest) else switches_after bytes earlier rest) ≡ Ok ss
        → ((s : Switch) → switches_after bytes (earlier ++ s ∷ []) rest ≡ Ok ss → AreReadSwitches (earlier ++ s ∷ []) → AreReadSwitches ss)
        → (switches_after bytes earlier rest ≡ Ok ss → AreReadSwitches ss) → AreReadSwitches ss
    by true e one more =
        let told = next_ok (switch_of bytes (seen earlier) head below) (λ s. switches_after bytes (earlier ++ s ∷ []) rest) ss e in
        one told.0 told.2 (statement_kept bytes earlier head below told.0 told.1 are)
    by false e one more = more e

no_switches : AreReadSwitches []
unfolding IsDistinct
no_switches = record { few = omega arith; few_ports = omega arith; each = tt; names = tt; datapaths = tt }

by_number : (ss : List Switch) → IsDistinct nat_eq (map (λ s. s.datapath) ss) → IsDistinct (same_key (λ (s : Switch). s.datapath ∷ [])) ss
unfolding IsDistinct
by_number [] d = tt
by_number (x ∷ xs) d = (apart xs d.0, by_number xs d.1)
  where
    apart : (ys : List Switch) → AllByRecursion (λ n. nat_eq x.datapath n ≡ false) (map (λ s. s.datapath) ys)
        → AllByRecursion (λ y. same_key (λ (s : Switch). s.datapath ∷ []) x y ≡ false) ys
    apart [] all = tt
    apart (y ∷ ys) all = (ap (λ b. b && true) all.0, apart ys all.1)

-- switches that were read are those of a network without links, in order
named : (ss : List Switch) → AreReadSwitches ss → IsNamedTopology (record { switches = by_datapath ss; links = [] })
unfolding IsDistinct
named ss are =
    let sorted = by_datapath ss in
    let shuffled = sort_shuffles (λ (s : Switch). s.datapath ∷ []) ss in
    let long : length sorted ≡ length ss = length_permutation ss sorted shuffled in
    let sum : port_count sorted ≡ port_count ss = sum_by-IsPermutation (λ s. length s.ports) ss sorted shuffled in
    let each = sort-all (λ (s : Switch). s.datapath ∷ []) IsReadSwitch ss are.each in
    record {
      lawful = record {
        few_switches = omega (arith, long, are.few);
        few_ports = omega (arith, sum, are.few_ports);
        switches = All-from_recursion IsLawfulSwitch sorted (parts0 sorted each);
        ascending = ascends_from (λ s. s.datapath) sorted (sort_ascends (λ (s : Switch). s.datapath ∷ []) ss (by_number ss are.datapaths));
        links = λ k d below. (let no : ⊥ = omega (arith, below) in absurd no);
        linked_once = tt;
        links_ascend = tt;
      };
      names_differ = IsDistinct-IsPermutation bytes_eq nat_list_eq_equiv.symm (map (λ s. s.name) ss) (map (λ s. s.name) sorted)
          (IsPermutation-map (λ s. s.name) ss sorted shuffled) are.names;
      limits = All-from_recursion (λ s. s.limit ≤ 16384) sorted (parts1 sorted each);
    }
  where
    parts0 : (xs : List Switch) → AllByRecursion IsReadSwitch xs → AllByRecursion IsLawfulSwitch xs
    parts0 [] all = tt
    parts0 (x ∷ xs) all = (all.0.0, parts0 xs all.1)

    parts1 : (xs : List Switch) → AllByRecursion IsReadSwitch xs → AllByRecursion (λ s. s.limit ≤ 16384) xs
    parts1 [] all = tt
    parts1 (x ∷ xs) all = (all.0.1, parts1 xs all.1)

-- the switches of a document, in order, are those of a network
pub network_of : (bytes : List ℕ) (f : Forest) (ss : List Switch) → switches_after bytes [] f ≡ Ok ss
    → IsNamedTopology (record { switches = by_datapath ss; links = [] })
network_of bytes f ss e = named ss (switches_kept bytes [] f ss e no_switches)
