-- What the trees of the first table say.
use Rattle.std.proofs.Common.{ℕ, suc, ◌<◌, ◌^◌, ◌-◌, ◌≡◌, ◌∙◌, not, List, [], length, Option, None, Some, get_or, if◌then◌else◌, sym, ap, arith, lt-ltb}
use Rattle.std.specs.Option.{unwrap_or}
use Rattle.pq_lists.proofs.Paired.{zip_weaker}
use Rattle.pq_fields.specs.Packet.{Fit, Numbers}
use Rattle.pq_model.specs.Install.{IsLawfulTopology}
use Rattle.pq_model.specs.Topology.{Topology, is_edge, is_linked}
use Rattle.pq_auto.specs.Machine.{Machine, accepted_at}
use Rattle.pq_letters.specs.Letters.{IsLettered, LettersValue}
use Rattle.pq_letters.specs.Words.{letter_number}
use Rattle.pq_layout.specs.Leaves.{arrival, arrive, at_switch}
use Rattle.pq_layout.specs.Tagging.{is_empty}
use Rattle.pq_layout.specs.Trees.{AreArriving, IsArriving, keys_of}
use Rattle.pq_rewrite.specs.declared.trees.Arrive.{Arrive}
use Rattle.pq_rewrite.specs.declared.trees.Key.{Key}
use Rattle.pq_rewrite.specs.declared.trees.Key.TheVariants.{Plain, Tag}
use Rattle.pq_store.specs.Tree.{Tree}
use Rattle.pq_store.specs.Store.{HasAt}
use Rattle.pq_join.specs.declared.sight.Seen.{Seen}
use Rattle.pq_join.specs.Arriving.{ArrivesAt, MakesAt, arrival_of}
use Rattle.pq_join.specs.Sight.{IsSight, seen_of}
use Rattle.pq_join.specs.Tags.{arrive_at, captures_at, next_class, tagging_of}
use Rattle.pq_join.proofs.Linking.{edge_comes_in, link_comes_in}
use Rattle.pq_join.proofs.Tagged.{class_again}

-- a packet at a switch is a packet
pub at_switch_fits : (d : ℕ) (x : Numbers) → d < 2 ^ 64 → Fit x → Fit (at_switch d x)
at_switch_fits d x fits fit = record {
  switch = fits;
  port = fit.port;
  eth_type = fit.eth_type;
  ip_proto = fit.ip_proto;
  eth_src = fit.eth_src;
  eth_dst = fit.eth_dst;
  ipv4_src = fit.ipv4_src;
  ipv4_dst = fit.ipv4_dst;
  tcp_src = fit.tcp_src;
  tcp_dst = fit.tcp_dst;
  udp_src = fit.udp_src;
  udp_dst = fit.udp_dst;
  ipv6_src = fit.ipv6_src;
  ipv6_dst = fit.ipv6_dst;
}

-- the letter of a packet is one of them
pub letter_below : (a : LettersValue) (m : Machine) (x : Numbers) → IsLettered a → m.letters ≡ length a.least → Fit x → letter_number a x < m.letters
letter_below a m x lettered same fit =
    let (letter, below, is) = lettered.whole x fit in
    let number : letter_number a x ≡ letter = ap (λ o. unwrap_or o 0) is in
    omega (arith, below, number, same)

-- after one of the letters the class is the next one
pub next_told : (m : Machine) (c l : ℕ) → l < m.letters → next_class m c l ≡ get_or (get_or m.rows c []) l 0
next_told m c l below = ap (λ b. if b then get_or (get_or m.rows c []) l 0 else c) (lt-ltb l m.letters below)

-- an instance holds the words of the class where one holds those of its tag
pub captures_told : (m : Machine) (c : ℕ) → captures_at m c ≡ not (is_empty (accepted_at m (suc c - 1)))
captures_told m c = ap (λ n. not (is_empty (accepted_at m n))) (sym (class_again c))

-- what is made of an arrival is told by its tag
pub arrive_told : (a : LettersValue) (m : Machine) (t : ℕ) (y : Numbers) → letter_number a y < m.letters
    → arrive_at m (t - 1) (letter_number a y) ≡ arrive (tagging_of a m) ((tagging_of a m).after t y)
arrive_told a m t y below =
    let next = next_told m (t - 1) (letter_number a y) below in
    (λ i. record { tag = suc (next i); capture = captures_at m (next i) })
    ∙ (λ i. record {
      tag = suc (get_or (get_or m.rows (t - 1) []) (letter_number a y) 0);
      capture = captures_told m (get_or (get_or m.rows (t - 1) []) (letter_number a y) 0) i;
    })

module _ (T : Topology) (a : LettersValue) (m : Machine) (d : ℕ) (lawful : IsLawfulTopology T) (lettered : IsLettered a)
    (same : m.letters ≡ length a.least) (fits : d < 2 ^ 64) where
  -- what is made of what is seen of a packet is its arrival
  pub arrival_told : (k : Key) (x : Numbers) → Fit x → arrival_of m k (seen_of T a d x) ≡ arrival T (tagging_of a m) k (at_switch d x)
  arrival_told Plain x fit =
      let below = letter_below a m (at_switch d x) lettered same (at_switch_fits d x fits fit) in
      ap (λ b. if b then Some (arrive_at m 0 (letter_number a (at_switch d x))) else None) (edge_comes_in T d x.port)
      ∙ ap (λ o. if is_edge T d x.port then Some o else None) (arrive_told a m 1 (at_switch d x) below)
  arrival_told (Tag t) x fit =
      let below = letter_below a m (at_switch d x) lettered same (at_switch_fits d x fits fit) in
      ap (λ b. if b then Some (arrive_at m (t - 1) (letter_number a (at_switch d x))) else None) (link_comes_in T d x.port lawful)
      ∙ ap (λ o. if is_linked T d x.port then Some o else None) (arrive_told a m t (at_switch d x) below)

  -- so the trees made of the sight are those of the first table
  pub arriving_whole : (seen : List (Tree Seen)) (root : ℕ) → HasAt (IsSight T a d) seen root → (into : List (Tree (Option Arrive))) (trees : List (Key × ℕ))
      → ArrivesAt m seen root into trees → AreArriving T (tagging_of a m) d into trees
  arriving_whole seen root sight into trees arrives =
      zip_weaker (λ k p. (p.0 ≡ k) × MakesAt (arrival_of m k) seen root into p.1) (λ k p. (p.0 ≡ k) × HasAt (IsArriving T (tagging_of a m) d k) into p.1)
      (λ k p both. (both.0, told k p.1 both.1)) (keys_of (tagging_of a m)) trees arrives
    where
      told : (k : Key) (id : ℕ) → MakesAt (arrival_of m k) seen root into id → HasAt (IsArriving T (tagging_of a m) d k) into id
      told k id makes =
          let made = makes sight.0 sight.1 in (
            made.0,
            made.1,
            record { gives = λ x fit. made.2.gives x ∙ (ap (arrival_of m k) (sight.2.gives x) ∙ arrival_told k x fit); diagram = made.2.diagram },
          )
