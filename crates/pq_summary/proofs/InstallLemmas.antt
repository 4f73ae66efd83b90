-- The bytes of an install are as long as its parts, and shorter than 2 ^ 64.
use Rattle.std.proofs.Common.{◌≡◌, ℕ, ◌+◌, ◌*◌, ◌^◌, ◌<◌, ◌≤◌, List, [], ◌∷◌, ◌++◌, length, get_or, refl, arith}
use Rattle.std.specs.Prelude.{All, IsTrue, sum_by}
use Rattle.std.specs.Int.{w16, w32, w64, to_be_bytes}
use Rattle.std.specs.List.{flat_map}
use Rattle.std.proofs.lemmas.Bool.Decides.{nat_tests}
use Rattle.std.proofs.lemmas.List.{length-append}
use Rattle.std.proofs.lemmas.List.Elements.{All-weaker}
use Rattle.std.proofs.lemmas.List.Sums.{sum_by-cons, sum_by-le}
use Rattle.pq_term.specs.Names.{is_name}
use Rattle.pq_model.specs.declared.message.Message.{Message}
use Rattle.pq_model.specs.Buckets.{Instance}
use Rattle.pq_model.specs.Install.{Install, IsLawfulInstall, IsLawfulList, IsLawfulPair, IsLawfulRow, install_bytes, link_bytes, list_bytes}
use Rattle.pq_model.specs.Install.{name_bytes, pair_bytes, port_count, row_bytes, spelling, switch_bytes}
use Rattle.pq_model.specs.Lawful.{IsLawfulMessage}
use Rattle.pq_model.specs.Spelling.{message_bytes}
use Rattle.pq_model.specs.TablesMachine.{Row}
use Rattle.pq_model.specs.Topology.{Switch}
use Rattle.pq_install.proofs.AllPorts.{few_links}
use Rattle.pq_install.proofs.Renamed.{few_rows}
use Rattle.pq_summary.specs.Lengths.{install_length, list_length, message_length, name_length, pair_length, row_length, switch_length}
use Rattle.pq_summary.proofs.LengthLemmas.{all_long, each_long, message_long}

-- Each part.

switch_long : (s : Switch) → length (switch_bytes s) ≡ switch_length s
switch_long s = omega (
  arith,
  each_long (to_be_bytes w32) 4 (λ p. refl) s.ports,
  length-append (to_be_bytes w64 s.datapath ++ to_be_bytes w16 (length s.ports)) (flat_map (to_be_bytes w32) s.ports),
)

pair_long : (i : Instance) → length (pair_bytes i) ≡ pair_length i
pair_long i = omega (
  arith,
  each_long (to_be_bytes w64) 8 (λ v. refl) i.label,
  length-append (to_be_bytes w16 i.query ++ to_be_bytes w32 (length i.label)) (flat_map (to_be_bytes w64) i.label),
)

row_long : (row : Row) → length (row_bytes row) ≡ row_length row
row_long row = omega (
  arith,
  all_long pair_bytes pair_length row.pairs (λ k i below. pair_long (get_or row.pairs k i)),
  length-append (to_be_bytes w16 row.tag ++ to_be_bytes w16 (length row.pairs)) (flat_map pair_bytes row.pairs),
)

messages_long : (ms : List Message) → All IsLawfulMessage ms → length (flat_map message_bytes ms) ≡ sum_by message_length ms
messages_long ms lawful = all_long message_bytes message_length ms
    (All-weaker IsLawfulMessage (λ m. length (message_bytes m) ≡ message_length m) (λ m law. message_long m law.content) ms lawful)

list_long : (ms : List Message) → IsLawfulList ms → length (list_bytes ms) ≡ list_length ms
list_long ms lawful = omega (arith, messages_long ms lawful.1, length-append (to_be_bytes w32 (length ms)) (flat_map message_bytes ms))

-- the whole install
pub install_long : (i : Install) → IsLawfulInstall i → length (spelling i) ≡ install_length i
unfolding install_bytes install_length
install_long i lawful =
    let switches : List ℕ = 0x50 ∷ 0x51 ∷ 0x49 ∷ 0x32 ∷ [] ++ to_be_bytes w16 (length i.topology.switches) ++ flat_map switch_bytes i.topology.switches in
    let links : List ℕ = switches ++ to_be_bytes w16 (length i.topology.links) ++ flat_map link_bytes i.topology.links in
    let names : List ℕ = links ++ to_be_bytes w16 (length i.queries) ++ flat_map name_bytes i.queries in
    let rows : List ℕ = names ++ to_be_bytes w16 (length i.report) ++ flat_map row_bytes i.report in
    omega (
      arith,
      all_long switch_bytes switch_length i.topology.switches (λ k s below. switch_long (get_or i.topology.switches k s)),
      each_long link_bytes 24 (λ l. refl) i.topology.links,
      all_long name_bytes name_length i.queries (λ k name below. omega arith),
      all_long row_bytes row_length i.report (λ k row below. row_long (get_or i.report k row)),
      all_long list_bytes list_length i.messages
          (All-weaker IsLawfulList (λ ms. length (list_bytes ms) ≡ list_length ms) list_long i.messages lawful.messages),
      length-append switches (to_be_bytes w16 (length i.topology.links)),
      length-append (switches ++ to_be_bytes w16 (length i.topology.links)) (flat_map link_bytes i.topology.links),
      length-append links (to_be_bytes w16 (length i.queries)),
      length-append (links ++ to_be_bytes w16 (length i.queries)) (flat_map name_bytes i.queries),
      length-append names (to_be_bytes w16 (length i.report)),
      length-append (names ++ to_be_bytes w16 (length i.report)) (flat_map row_bytes i.report),
      length-append rows (flat_map list_bytes i.messages),
    )

-- Bounds.

switches_short : (ss : List Switch) → sum_by switch_length ss ≡ 10 * length ss + 4 * port_count ss
switches_short [] = refl
switches_short (s ∷ ss) = omega (arith, switches_short ss, sum_by-cons switch_length s ss, sum_by-cons (λ (t : Switch). length t.ports) s ss)

name_short : (name : List ℕ) → IsTrue (is_name name) → name_length name ≤ 33
name_short [] is = omega arith
name_short (b ∷ bs) is = grind (arith, nat_tests, is)

pair_short : (queries : ℕ) (i : Instance) → IsLawfulPair queries i → pair_length i ≤ 2 ^ 35
pair_short queries i lawful = omega (arith, lawful.1)

row_short : (queries : ℕ) (row : Row) → IsLawfulRow queries row → row_length row ≤ 2 ^ 51
row_short queries row lawful =
    let each = All-weaker (IsLawfulPair queries) (λ i. pair_length i ≤ 2 ^ 35) (pair_short queries) row.pairs lawful.4 in
    omega (arith, lawful.3, sum_by-le pair_length (2 ^ 35) row.pairs each)

list_short : (ms : List Message) → IsLawfulList ms → list_length ms ≤ 2 ^ 49
list_short ms lawful =
    let each : All (λ m. message_length m ≤ 2 ^ 16) ms =
    All-weaker IsLawfulMessage (λ m. message_length m ≤ 2 ^ 16) (λ m law. omega (arith, law.short, message_long m law.content)) ms lawful.1 in
    omega (arith, lawful.0, sum_by-le message_length (2 ^ 16) ms each)

pub install_short : (i : Install) → IsLawfulInstall i → install_length i < 2 ^ 64
unfolding install_length
install_short i lawful =
    let queries = length i.queries in
    let rows = All-weaker (IsLawfulRow queries) (λ r. row_length r ≤ 2 ^ 51) (row_short queries) i.report lawful.rows in
    let names = All-weaker (λ name. IsTrue (is_name name)) (λ name. name_length name ≤ 33) name_short i.queries lawful.names in
    let lists = All-weaker IsLawfulList (λ ms. list_length ms ≤ 2 ^ 49) list_short i.messages lawful.messages in
    omega (
      arith,
      lawful.topology.few_switches,
      lawful.topology.few_ports,
      lawful.few_queries,
      lawful.listed,
      switches_short i.topology.switches,
      few_links i.topology lawful.topology,
      sum_by-le name_length 33 i.queries names,
      few_rows (length i.queries) i.report lawful.rows lawful.tags_ascend,
      sum_by-le row_length (2 ^ 51) i.report rows,
      sum_by-le list_length (2 ^ 49) i.messages lists,
    )

-- Counts of messages.

-- few are counted, where lists are so short
pub counts_short : (size : List Message → ℕ) → ((ms : List Message) → size ms ≤ length ms) → (i : Install) → IsLawfulInstall i → sum_by size i.messages < 2 ^ 64
counts_short size within i lawful =
    let each : All (λ ms. size ms ≤ 2 ^ 32) i.messages =
    All-weaker IsLawfulList (λ ms. size ms ≤ 2 ^ 32) (λ ms law. omega (arith, law.0, within ms)) i.messages lawful.messages in
    omega (arith, lawful.topology.few_switches, lawful.listed, sum_by-le size (2 ^ 32) i.messages each)
