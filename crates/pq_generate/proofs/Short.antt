-- How long a generated document is at the most.
use Rattle.std.proofs.Common.{ℕ, ◌+◌, ◌-◌, ◌*◌, ◌<◌, ◌≤◌, Bool, true, false, List, ◌++◌, length, suc, zero, arith}
use Rattle.std.specs.Prelude.{codes, cond, decimal, nat_lt, ◌==◌}
use Rattle.std.specs.List.{flat_map, range_with_len}
use Rattle.std.proofs.lemmas.List.{length-append}
use Rattle.std.proofs.lemmas.Fmt.{length-decimal-le}
use Rattle.pq_generate.specs.Generated.{first_query, generated_text, hop_text, hops_text, link_line, part_line, port_towards, second_query, switch_line, up_to}

-- numbers below 100 have two digits at the most
two_digits : (n : ℕ) → n < 100 → length (decimal n) ≤ 2
two_digits n few = length-decimal-le 2 n (omega arith) (omega (arith, few)) (omega (arith, few))

-- lines of at most this many bytes, for this many numbers below a limit
lines_short : (line : ℕ → List ℕ) (most limit : ℕ) → ((i : ℕ) → i < limit → length (line i) ≤ most)
    → (a n : ℕ) → a + n ≤ limit → length (flat_map line (range_with_len a n)) ≤ n * most
lines_short line most limit each a zero within = omega arith
lines_short line most limit each a (suc n) within =
    let here : length (line a) ≤ most = each a (omega (arith, within)) in
    let rest = lines_short line most limit each (a + 1) n (omega (arith, within)) in
    omega (arith, here, rest, length-append (line a) (flat_map line (range_with_len (a + 1) n)))

port_small : (i j : ℕ) → port_towards i j < 100
port_small i j = by (nat_lt j i) (j == i)
  where
    by : (b c : Bool) → cond b 2 (cond c 3 1) < 100
    by true c = omega arith
    by false true = omega arith
    by false false = omega arith

switch_short : (i : ℕ) → i < 99 → length (switch_line i) ≤ 40
switch_short i few = omega (
  arith,
  two_digits i (omega (arith, few)),
  length-append (decimal i) (codes " = " ++ (decimal i ++ codes " ports 1, 2, 3;\n")),
  length-append (decimal i) (codes " ports 1, 2, 3;\n"),
)

link_short : (i : ℕ) → i < 99 → length (link_line i) ≤ 40
link_short i few = omega (
  arith,
  two_digits i (omega (arith, few)),
  two_digits (i + 1) (omega (arith, few)),
  length-append (decimal i) (codes " 2 s" ++ (decimal (i + 1) ++ codes " 1;\n")),
  length-append (decimal (i + 1)) (codes " 1;\n"),
)

hop_short : (i j : ℕ) → j < 99 → length (hop_text i j) ≤ 40
hop_short i j few =
    let port = decimal (port_towards i j) in
    omega (
      arith,
      two_digits j (omega (arith, few)),
      two_digits (port_towards i j) (port_small i j),
      length-append (decimal j) (codes ") >> fwd(" ++ (port ++ codes ")")),
      length-append port (codes ")"),
    )

hops_short : (n i : ℕ) → n ≤ 64 → length (hops_text n i) ≤ 40 + 64 * 50
hops_short zero i few = omega arith
hops_short (suc n) i few =
    let rest : List ℕ = flat_map (λ j. codes " + " ++ hop_text i j) (range_with_len 2 n) in
    let each : (j : ℕ) → j < 99 → length (codes " + " ++ hop_text i j) ≤ 50 = λ j below. omega (arith, hop_short i j below) in
    omega (
      arith,
      few,
      hop_short i 1 (omega arith),
      lines_short (λ j. codes " + " ++ hop_text i j) 50 99 each 2 n (omega (arith, few)),
      length-append (hop_text i 1) rest,
    )

part_short : (n i : ℕ) → n ≤ 64 → i < 99 → length (part_line n i) ≤ 4000
part_short n i many few =
    let front : List ℕ = codes "part p" ++ (decimal i ++ (codes " = filter(ipv4_dst=10.0." ++ (decimal i ++ codes ".0/24) >> ("))) in
    omega (
      arith,
      two_digits i (omega (arith, few)),
      hops_short n i many,
      length-append (decimal i) (codes " = filter(ipv4_dst=10.0." ++ (decimal i ++ codes ".0/24) >> (")),
      length-append (decimal i) (codes ".0/24) >> ("),
      length-append front (hops_text n i),
      length-append (front ++ hops_text n i) (codes ");\n"),
    )

first_short : (n : ℕ) → n ≤ 64 → length (first_query n) ≤ 100
first_short n few = omega (arith, two_digits n (omega (arith, few)), length-append (decimal n) (codes ");\n"))

-- a generated document is short enough to be compiled
pub generated_short : (n : ℕ) → n ≤ 64 → length (generated_text n) ≤ 524288
unfolding generated_text
generated_short n few =
    let switches : List ℕ = flat_map switch_line (up_to n) in
    let links : List ℕ = flat_map link_line (up_to (n - 1)) in
    let parts : List ℕ = flat_map (part_line n) (up_to n) in
    omega (
      arith,
      few,
      lines_short switch_line 40 99 switch_short 1 n (omega (arith, few)),
      lines_short link_line 40 99 link_short 1 (n - 1) (omega (arith, few)),
      lines_short (part_line n) 4000 99 (λ i below. part_short n i few below) 1 n (omega (arith, few)),
      first_short n few,
      length-append switches links,
      length-append (switches ++ links) parts,
      length-append (switches ++ links ++ parts) (first_query n),
      length-append (switches ++ links ++ parts ++ first_query n) second_query,
    )
