-- The generated document: switches in a row, a part for each switch's network, and two queries.
use Rattle.std.specs.Prelude.{ℕ, ◌+◌, ◌-◌, List, ◌++◌, nat_lt, ◌==◌, if◌then◌else◌, codes, decimal}
use Rattle.std.specs.List.{flat_map, join_by, range_with_len}

-- the numbers from 1 on, this many
abbrev pub up_to : ℕ → List ℕ
up_to n = range_with_len 1 n

-- switch i has datapath number i and three ports
abbrev pub switch_line : ℕ → List ℕ
switch_line i = codes "switch s" ++ (decimal i ++ (codes " = " ++ (decimal i ++ codes " ports 1, 2, 3;\n")))

-- port 2 of switch i leads to port 1 of the next
abbrev pub link_line : ℕ → List ℕ
link_line i = codes "link s" ++ (decimal i ++ (codes " 2 s" ++ (decimal (i + 1) ++ codes " 1;\n")))

-- the port by which switch j comes nearer to switch i, and at i itself the port to its network
abbrev pub port_towards : ℕ → ℕ → ℕ
port_towards i j = if nat_lt j i then 2 else (if j == i then 3 else 1)

-- what switch j does with packets to the network of switch i
abbrev pub hop_text : ℕ → ℕ → List ℕ
hop_text i j = codes "filter(switch=s" ++ (decimal j ++ (codes ") >> fwd(" ++ (decimal (port_towards i j) ++ codes ")")))

-- what all switches do with them
abbrev pub hops_text : ℕ → ℕ → List ℕ
hops_text n i = join_by (hop_text i) (codes " + ") (up_to n)

-- the part that leads packets to the network of switch i, 10.0.i.0/24
abbrev pub part_line : ℕ → ℕ → List ℕ
part_line n i = codes "part p" ++ (decimal i ++ (codes " = filter(ipv4_dst=10.0." ++ (decimal i ++ codes ".0/24) >> ("))) ++ hops_text n i ++ codes ");\n"

-- what went from the first switch to the last
abbrev pub first_query : ℕ → List ℕ
first_query n = codes "query q1 = in_atom(switch=s1) ^ in_atom(true)* ^ in_atom(switch=s" ++ (decimal n ++ codes ");\n")

-- what left by a port 3
abbrev pub second_query : List ℕ
second_query = codes "query q2 = in_atom(true)* ^ out_atom(port=3);\n"

-- the document for n switches
unfoldable pub generated_text : ℕ → List ℕ
generated_text n =
    flat_map switch_line (up_to n) ++ flat_map link_line (up_to (n - 1)) ++ flat_map (part_line n) (up_to n) ++ first_query n ++ second_query
