-- Diagrams over a document test and write only numbers of ports.
use Rattle.std.proofs.Common.{◌≡◌, ◌⊎◌, ◌≤◌, ℕ, zero, suc, ◌==◌, Bool, true, false, ◌||◌, ◌&&◌, cond, List, []}
use Rattle.std.proofs.Common.{◌∷◌, All, Option, Some, None, IfSome, nat_le, refl, sym, ap, subst, ◌∙◌, arith, inl, inr}
use Rattle.std.specs.List.{Contains, filter}
use Rattle.std.proofs.lemmas.Bool.{true≢false, and_parts}
use Rattle.std.proofs.lemmas.Bool.Decides.{eqb_tells, nat_tests}
use Rattle.std.proofs.lemmas.List.Elements.{All-contains_itself, All-weaker}
use Rattle.std.proofs.Math.Bool.{or-true}
use Rattle.pq_fields.specs.declared.field.Field.{Field}
use Rattle.pq_fields.specs.declared.field.Field.TheVariants.{Switch, Port, EthType, IpProto, EthSrc, EthDst, Ipv4Src, Ipv4Dst, TcpSrc}
use Rattle.pq_fields.specs.declared.field.Field.TheVariants.{TcpDst, UdpSrc, UdpDst, Ipv6Src, Ipv6Dst}
use Rattle.pq_fields.specs.Packet.{Numbers, Fit}
use Rattle.pq_fields.specs.Writes.{Written}
use Rattle.pq_model.specs.MatchFields.{IsPortNumber}
use Rattle.pq_model.specs.Topology.{Topology}
use Rattle.pq_policy.specs.Policy.{PolicyTree}
use Rattle.pq_query.specs.Query.{QueryTree}
use Rattle.pq_query.proofs.Ascending.{has}
use Rattle.pq_store.specs.declared.test.Test.TheVariants.{Equal}
use Rattle.pq_store.specs.Room.{IsAmong, Within}
use Rattle.pq_store.specs.Tree.{Tree, IsTested, value}
use Rattle.pq_apply.specs.Predicates.{NeedsAmong}
use Rattle.pq_apply.proofs.Required.{needs_among}
use Rattle.pq_rewrite.specs.Rewriting.{Covers as CoversTree, IsToWrite}
use Rattle.pq_forward.specs.Forward.{IsPolicyWithin, IsTopologyWithin}
use Rattle.pq_classes.specs.Room.{IsQueryWithin}
use Rattle.pq_values.specs.Ports.{HasPorts, TestsPortsOrNone, TestsQueries}
use Rattle.pq_values.specs.Room.{AreOver}
use Rattle.pq_values.specs.Stated.{Stated, stated}
use Rattle.pq_values.proofs.Rooms.{Covers, among, behind, datapaths_in, dropped_in, first, ipv4_in, ipv6_in, numbers_cover, numbers_in}
use Rattle.pq_values.proofs.Rooms.{policies_in, queries_in, tcp_in, topology_in, udp_in}

-- a number among these is one that the list has
had : (ks : List ℕ) (n : ℕ) → IsAmong n ks → has ks n ≡ true
had [] n (k, x, within, at, is) = absurd (omega arith)
had (y ∷ ks) n (zero, x, within, at, is) = subst (λ m. has (y ∷ ks) m ≡ true) (sym (is ∙ sym at)) (first y ks)
had (y ∷ ks) n (suc k, x, within, at, is) = behind y ks n (had ks n (k, x, omega arith, at, is))

-- Some numbers of a list are kept.
module _ (keep : ℕ → Bool) where
  -- a number that is kept stays
  stays : (ks : List ℕ) (n : ℕ) → keep n ≡ true → has ks n ≡ true → has (filter keep ks) n ≡ true
  stays [] n kept found = found
  stays (k ∷ ks) n kept found = elim (eqb_tells k n) [
    | inl same ↦
        let here : keep k ≡ true = ap keep same.1 ∙ kept in
        rw here (ap (λ b. b || has (filter keep ks) n) same.0)
    | inr other ↦ by (keep k) (stays ks n kept (sym (ap (λ b. b || has ks n) other.0) ∙ found))
  ]
    where
      by : (b : Bool) → has (filter keep ks) n ≡ true → has (cond b (k ∷ filter keep ks) (filter keep ks)) n ≡ true
      by true later = behind k (filter keep ks) n later
      by false later = later

  -- and none else does
  only_kept : (ks : List ℕ) (n : ℕ) → has (filter keep ks) n ≡ true → keep n ≡ true
  only_kept [] n found = absurd (true≢false (sym found))
  only_kept (k ∷ ks) n found = by (keep k) refl found (only_kept ks n)
    where
      by : (b : Bool) → keep k ≡ b → has (cond b (k ∷ filter keep ks) (filter keep ks)) n ≡ true
          → (has (filter keep ks) n ≡ true → keep n ≡ true) → keep n ≡ true
      by true is stayed later = elim (eqb_tells k n) [
        | inl same ↦ ap keep (sym same.1) ∙ is
        | inr other ↦ later (sym (ap (λ b. b || has (filter keep ks) n) other.0) ∙ stayed)
      ]
      by false is stayed later = later stayed

  -- of the numbers of ports those that are kept
  abbrev sifted : (Field → List ℕ) → Field → List ℕ
  sifted ns Switch = ns Switch
  sifted ns Port = filter keep (ns Port)
  sifted ns EthType = ns EthType
  sifted ns IpProto = ns IpProto
  sifted ns EthSrc = ns EthSrc
  sifted ns EthDst = ns EthDst
  sifted ns Ipv4Src = ns Ipv4Src
  sifted ns Ipv4Dst = ns Ipv4Dst
  sifted ns TcpSrc = ns TcpSrc
  sifted ns TcpDst = ns TcpDst
  sifted ns UdpSrc = ns UdpSrc
  sifted ns UdpDst = ns UdpDst
  sifted ns Ipv6Src = ns Ipv6Src
  sifted ns Ipv6Dst = ns Ipv6Dst

  -- what is stated is among them, where numbers of ports are kept
  sifted_cover : ((n : ℕ) → IsPortNumber n → keep n ≡ true) → (T : Topology) (ns : Field → List ℕ) (ss : List Stated) → Covers T ns ss → Covers T (sifted ns) ss
  sifted_cover keeps T ns ss covers Switch n found may whole = covers Switch n found may whole
  sifted_cover keeps T ns ss covers Port n found may whole =
      among (filter keep (ns Port)) n (stays (ns Port) n (keeps n may) (had (ns Port) n (covers Port n found may whole)))
  sifted_cover keeps T ns ss covers EthType n found may whole = covers EthType n found may whole
  sifted_cover keeps T ns ss covers IpProto n found may whole = covers IpProto n found may whole
  sifted_cover keeps T ns ss covers EthSrc n found may whole = covers EthSrc n found may whole
  sifted_cover keeps T ns ss covers EthDst n found may whole = covers EthDst n found may whole
  sifted_cover keeps T ns ss covers Ipv4Src n found may whole = absurd (true≢false whole)
  sifted_cover keeps T ns ss covers Ipv4Dst n found may whole = absurd (true≢false whole)
  sifted_cover keeps T ns ss covers TcpSrc n found may whole = covers TcpSrc n found may whole
  sifted_cover keeps T ns ss covers TcpDst n found may whole = covers TcpDst n found may whole
  sifted_cover keeps T ns ss covers UdpSrc n found may whole = covers UdpSrc n found may whole
  sifted_cover keeps T ns ss covers UdpDst n found may whole = covers UdpDst n found may whole
  sifted_cover keeps T ns ss covers Ipv6Src n found may whole = absurd (true≢false whole)
  sifted_cover keeps T ns ss covers Ipv6Dst n found may whole = absurd (true≢false whole)

  -- a document's numbers, with the ports that are kept
  module _ (keeps : (n : ℕ) → IsPortNumber n → keep n ≡ true) (T : Topology) (ps : List PolicyTree) (qs : List QueryTree) (over : AreOver T ps qs) where
    abbrev ss : List Stated
    ss = stated T ps qs

    abbrev kept : Field → List ℕ
    kept = sifted (numbers_in T (stated T ps qs))

    needs : (f : Field) → NeedsAmong kept f
    needs = needs_among kept (ipv4_in T ss) (ipv6_in T ss) (tcp_in T ss) (udp_in T ss)

    covers : Covers T kept ss
    covers = sifted_cover keeps T (numbers_in T ss) ss (numbers_cover T ss)

    topology_kept : IsTopologyWithin kept T
    topology_kept = topology_in T ps qs over kept needs (datapaths_in T ss) covers

    policies_kept : All (IsPolicyWithin kept) ps
    policies_kept = policies_in T ps qs over kept needs (datapaths_in T ss) covers

    -- of the numbers of ports only those that are kept are among them
    port_kept : (v : ℕ) → IsAmong v (kept Port) → keep v ≡ true
    port_kept v is = only_kept (numbers_in T ss Port) v (had (filter keep (numbers_in T ss Port)) v is)

    -- also those of queries, where port 0 is kept
    queries_kept : All (IsQueryWithin kept T) qs
    queries_kept = queries_in T ps qs over kept needs (datapaths_in T ss) covers

    dropped_kept : keep 0 ≡ true → IsAmong 0 (kept Port)
    dropped_kept zero_kept =
        let ports = numbers_in T ss Port in
        among (filter keep ports) 0 (stays ports 0 zero_kept (had ports 0 (dropped_in T ss)))

-- Numbers of ports.

abbrev is_port : ℕ → Bool
is_port n = nat_le 1 n && nat_le n 0xffffff00

port_told : (n : ℕ) → is_port n ≡ true → IsPortNumber n
port_told n is =
    let parts = and_parts (nat_le 1 n) (nat_le n 0xffffff00) is in
    let least : nat_le 1 n ≡ true = parts.0 in
    let most : nat_le n 0xffffff00 ≡ true = parts.1 in
    (grind (arith, nat_tests, least), grind (arith, nat_tests, most))

port_kept_as : (n : ℕ) → IsPortNumber n → is_port n ≡ true
port_kept_as n port =
    let least : 1 ≤ n = port.0 in
    let most : n ≤ 0xffffff00 = port.1 in
    let first_test : nat_le 1 n ≡ true = grind (arith, nat_tests, least) in
    let second_test : nat_le n 0xffffff00 ≡ true = grind (arith, nat_tests, most) in
    rw (first_test, second_test) refl

-- with port 0
abbrev is_port_or_none : ℕ → Bool
is_port_or_none n = (n == 0) || is_port n

port_or_none : (n : ℕ) → is_port_or_none n ≡ true → (n ≡ 0) ⊎ IsPortNumber n
port_or_none n is = elim (eqb_tells n 0) [
  | inl same ↦ inl same.1
  | inr other ↦ inr (port_told n (sym (ap (λ b. b || is_port n) other.0) ∙ is))
]

port_kept_too : (n : ℕ) → IsPortNumber n → is_port_or_none n ≡ true
port_kept_too n port = ap (λ b. (n == 0) || b) (port_kept_as n port) ∙ or-true (n == 0)

-- a diagram that tests and writes only what policies state has only numbers of ports
pub has_ports : (T : Topology) (ps : List PolicyTree) → AreOver T ps [] → (t : Tree (List Written))
    → ((ns : Field → List ℕ) → IsTopologyWithin ns T → All (IsPolicyWithin ns) ps → CoversTree ns t) → HasPorts t
has_ports T ps over t cover = record { tests = tests; writes = writes; written = written }
  where
    own : CoversTree (kept is_port port_kept_as T ps [] over) t
    own = cover (kept is_port port_kept_as T ps [] over) (topology_kept is_port port_kept_as T ps [] over) (policies_kept is_port port_kept_as T ps [] over)

    tests : (v : ℕ) → IsTested (Equal Port v) t → IsPortNumber v
    tests v tested = port_told v (port_kept is_port port_kept_as T ps [] over v (own.tests Port v tested))

    writes : (n : ℕ) → IsToWrite Port n t → IsPortNumber n
    writes n to_write = port_told n (port_kept is_port port_kept_as T ps [] over n ((own.writes Port n to_write).0 refl))

    one : (x : Numbers) → Fit x → (w : Written) → Contains (value t x) w → (o : Option ℕ) → w.port ≡ o → IfSome o IsPortNumber
    one x fit w there None is = tt
    one x fit w (k, within, at) (Some n) is = writes n (x, fit, (k, w, within, at, is))

    written : (x : Numbers) → Fit x → All (λ w. IfSome w.port IsPortNumber) (value t x)
    written x fit = All-weaker (Contains (value t x)) (λ w. IfSome w.port IsPortNumber) (λ w there. one x fit w there w.port refl)
        (value t x) (All-contains_itself (value t x))

-- and one that tests only what queries state has only those and port 0
pub tests_ports : (T : Topology) (qs : List QueryTree) → AreOver T [] qs → (t : Tree ℕ) → TestsQueries T qs t → TestsPortsOrNone t
tests_ports T qs over t only v tested =
    let own : Within (kept is_port_or_none port_kept_too T [] qs over) t =
    only (kept is_port_or_none port_kept_too T [] qs over) (dropped_kept is_port_or_none port_kept_too T [] qs over refl)
    (queries_kept is_port_or_none port_kept_too T [] qs over) in
    port_or_none v (port_kept is_port_or_none port_kept_too T [] qs over v (own Port v tested))
