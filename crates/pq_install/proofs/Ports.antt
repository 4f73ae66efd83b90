-- Ports that ascend.
use Rattle.std.specs.Prelude.{◌≡◌, ◌≢◌, ℕ, ◌<◌, ◌≤◌, ◌&&◌, ◌↔◌, true, IsTrue, List, [], ◌∷◌, All, length, nat_lt, refl}
use Rattle.std.proofs.Common.{arith}
use Rattle.std.proofs.lemmas.Bool.Decides.{nat_tests}
use Rattle.std.proofs.lemmas.List.Elements.{All-cons, All-tail}
use Rattle.std.proofs.lemmas.Bool.{and_parts}
use Rattle.pq_model.specs.Lawful.{Ascends}
use Rattle.pq_model.specs.MatchFields.{IsPortNumber}
use Rattle.pq_topo.proofs.Ascending.{rest_ascends}
use Rattle.pq_install.specs.Switches.{are_ports_above, ArePorts}

-- ports that the test lets through ascend from above the number
let_through : (last : ℕ) (ps : List ℕ) → are_ports_above last ps ≡ true → Ascends (last ∷ ps) × All IsPortNumber ps
let_through last [] e = (tt, λ k d below. absurd (omega (arith, below)))
let_through last (p ∷ ps) e =
    let parts = and_parts (nat_lt last p && nat_lt p 0xffffff01) (are_ports_above p ps) e in
    let bounds = and_parts (nat_lt last p) (nat_lt p 0xffffff01) parts.0 in
    let above : last < p = grind (arith, nat_tests, bounds.0) in
    let small : p < 0xffffff01 = grind (arith, nat_tests, bounds.1) in
    let later = let_through p ps parts.1 in
    ((above, later.0), All-cons IsPortNumber p ps (omega (arith, above), omega (arith, small)) later.1)

-- and all such ports are let through
pass : (last : ℕ) (ps : List ℕ) → Ascends (last ∷ ps) → All IsPortNumber ps → are_ports_above last ps ≡ true
pass last [] up fit = refl
pass last (p ∷ ps) up fit =
    let later = pass p ps up.1 (All-tail IsPortNumber p ps fit) in
    let here = fit 0 p (omega arith) in
    let above : nat_lt last p ≡ true = grind (arith, nat_tests, up.0) in
    let small : nat_lt p 0xffffff01 ≡ true = grind (arith, nat_tests, here.1) in
    rw (above, small, later) refl

-- ports from 1 on ascend from above 0
from_zero : (ps : List ℕ) → Ascends ps → All IsPortNumber ps → Ascends (0 ∷ ps)
from_zero [] up fit = tt
from_zero (p ∷ ps) up fit = (omega (arith, (fit 0 p (omega arith)).0), up)

-- the test tells what ports a switch may have
pub tells_ports : (ps : List ℕ) → ps ≢ [] → length ps ≤ 4096 → IsTrue (are_ports_above 0 ps) ↔ ArePorts ps
tells_ports ps some few = (
  λ e. let let_in = let_through 0 ps e in (some, few, rest_ascends 0 ps let_in.0, let_in.1),
  λ are. pass 0 ps (from_zero ps are.2 are.3) are.3,
)
